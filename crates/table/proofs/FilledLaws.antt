-- An array that is filled from the front: what its entries are besides, and entries that were put in front of what is left of it.
-- Assumes nothing.
use mathlib.Core.Path.{◌≡◌, sym, ap, subst, ◌∙◌}
use mathlib.Core.List.{List, ◌++◌}
use Prim.Native.Nat.{ℕ}
use native.Mathlib.Omega.{arith}
use lib.ListN.{length, take, length-append}
use lib.Seq.{take-append_seam}
use Rattle.table.specs.Filled.{Filled}

module _ {E : Type 0} {wanted : List E → Type 0} where
  pub filled_as : {other : List E → Type 0} {array : List E} {count : ℕ} → ((front : List E) → wanted front → other front) → Filled wanted array count → Filled other array count
  filled_as {array = array} {count = count} f x = record { room = x.room; front = f (take count array) x.front }

  pub filled_front : (front rest : List E) (count : ℕ) → length front ≡ count → wanted front → Filled wanted (front ++ rest) count
  filled_front front rest count e x = record {
    room = omega (arith, e, length-append front rest);
    front = subst wanted (sym (take-append_seam front rest) ∙ ap (λ (n : ℕ). take n (front ++ rest)) e) x;
  }
