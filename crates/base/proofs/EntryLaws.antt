-- Entries of a list, by their places. Used by what goes over them one after the other. Assumes nothing.
use mathlib.Core.Path.{refl}
use mathlib.Core.List.Memᴰ
use mathlib.Core.List.{List, [], ◌∷◌}
use Prim.Native.Nat.{ℕ, zero, suc, ◌<◌}
use native.Mathlib.Omega.{arith}
use lib.ListN.{length, get_or}
use Rattle.base.proofs.Members.{◌∈◌}

-- what stands at a place is in the list
pub entry_in : {A : Type 0} (xs : List A) (i : ℕ) (d : A) → i < length xs → get_or xs i d ∈ xs
entry_in [] i d h = absurd (omega arith)
entry_in (x ∷ xs) zero d h = Memᴰ.head refl
entry_in (x ∷ xs) (suc i) d h = Memᴰ.tail (entry_in xs i d (omega arith))
