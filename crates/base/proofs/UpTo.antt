-- The numbers 0 to n - 1: which they are, and a test over two lists of numbers, one behind the other. Assumes nothing.
use mathlib.Core.Path.{◌≡◌, refl}
use mathlib.Core.Bool.{Bool, true, false, ◌||◌, false≢true}
use mathlib.Core.Logic.{◌⊎◌, inl, inr}
use mathlib.Core.List.Memᴰ
use mathlib.Core.List.{List, [], ◌∷◌, ◌++◌}
use Prim.Native.Nat.{ℕ, zero, suc, ◌<◌}
use native.Mathlib.Omega.{arith}
use native.Mathlib.Nat.{eq-or-lt_of_le, le_of_suc-le-suc}
use lib.Dec.{T}
use Rattle.base.specs.Lists.{any, up_to}
use Rattle.base.proofs.Members.{◌∈◌}

-- a test's answer, and the statement that it passes
pub passed : (c : Bool) → T c → c ≡ true
passed true t = refl
passed false t = absurd t

pub true_of : (c : Bool) → c ≡ true → T c
true_of true e = tt
true_of false e = absurd (false≢true e)

pub failed : (c : Bool) → (T c → ⊥) → c ≡ false
failed true f = absurd (f tt)
failed false f = refl

-- the members of up_to n are the numbers below n
pub up_to_lt : (n f : ℕ) → f ∈ up_to n → f < n
unfolding up_to
up_to_lt zero f k = absurd (Memᴰ.not-nil k)
up_to_lt (suc n) f k = go (λ j. up_to_lt n f j) (Memᴰ.append_cases (up_to n) k)
  where
    last : (f ≡ n) ⊎ f ∈ [] → f < suc n
    last (inl e) = omega arith
    last (inr j) = absurd (Memᴰ.not-nil j)

    go : (f ∈ up_to n → f < n) → f ∈ up_to n ⊎ f ∈ (n ∷ []) → f < suc n
    go rec (inl j) = let h : f < n = rec j in omega arith
    go rec (inr j) = last (Memᴰ.cases_cons j)

pub up_to_has : (n f : ℕ) → f < n → f ∈ up_to n
unfolding up_to
up_to_has zero f h = absurd (omega arith)
up_to_has (suc n) f h = go (λ u. up_to_has n f u) (eq-or-lt_of_le (le_of_suc-le-suc h))
  where
    go : (f < n → f ∈ up_to n) → (f ≡ n) ⊎ (f < n) → f ∈ (up_to n ++ (n ∷ []))
    go rec (inl e) = Memᴰ.append_right (up_to n) (Memᴰ.head e)
    go rec (inr u) = Memᴰ.append_left (n ∷ []) (rec u)

-- a test over two lists, one behind the other
pub any_append : (p : ℕ → Bool) (xs ys : List ℕ) → any p (xs ++ ys) ≡ (any p xs || any p ys)
unfolding any
any_append p [] ys = refl
any_append p (x ∷ xs) ys = go (p x) (any_append p xs ys)
  where
    go : (c : Bool) → any p (xs ++ ys) ≡ (any p xs || any p ys) → (c || any p (xs ++ ys)) ≡ (c || any p xs || any p ys)
    go true e = refl
    go false e = e
