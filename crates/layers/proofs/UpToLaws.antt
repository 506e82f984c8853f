-- The numbers 0 to n - 1 as a range gives them, so that a chain over a range meets a clause that speaks of `up_to`. Assumes nothing.
use mathlib.Core.Path.{◌≡◌, refl, ap, ◌∙◌}
use mathlib.Core.Bool.{Bool}
use mathlib.Core.List.{List, [], ◌∷◌, ◌++◌}
use Prim.Native.Nat.{ℕ, zero, suc, ◌+◌}
use native.Mathlib.Omega.{arith}
use Rattle.std.specs.List.{list_any, range_with_len}
use Rattle.base.specs.Lists.{any, up_to}

abbrev one : ℕ → List ℕ
one k = k ∷ []

pub range_more : (a n : ℕ) → range_with_len a (suc n) ≡ range_with_len a n ++ one (a + n)
range_more a zero = ap one {x = a} {y = a + 0} (omega arith)
range_more a (suc n) =
    ap (λ (t : List ℕ). a ∷ t) (range_more (a + 1) n)
    ∙ ap (λ (k : ℕ). a ∷ (range_with_len (a + 1) n ++ one k)) {x = a + 1 + n} {y = a + suc n} (omega arith)

pub up_to_range : (n : ℕ) → range_with_len 0 n ≡ up_to n
unfolding up_to
up_to_range zero = refl
up_to_range (suc n) =
    range_more 0 n
    ∙ ap (λ (k : ℕ). range_with_len 0 n ++ one k) {x = 0 + n} {y = n} (omega arith)
    ∙ ap (λ (t : List ℕ). t ++ one n) (up_to_range n)

-- a test of some number below n, as a chain over `0..n` makes it
pub any_range : (p : ℕ → Bool) (n : ℕ) → list_any p (range_with_len 0 n) ≡ any p (up_to n)
unfolding any
any_range p n = ap (list_any p) (up_to_range n)
