-- A function over the numbers 0 to n - 1: one more, and what stands where. Rows of the table and the facts of
-- a candidate are such lists. And a list of the same everywhere, as arrays are at first. Assumes nothing.
use mathlib.Core.Path.{◌≡◌, refl, ap, ◌∙◌}
use mathlib.Core.Logic.{◌⊎◌, inl, inr}
use mathlib.Core.List.{List, [], ◌∷◌, ◌++◌, map}
use Prim.Native.Nat.{ℕ, zero, suc, ◌<◌}
use native.Mathlib.Nat.{eq-or-lt_of_le, le_of_suc-le-suc}
use native.Mathlib.Omega.{arith}
use lib.ListN.{length, get_or, replicate, length-append, length-map, get_or-append}
use lib.Seq.{get_or_at}
use Rattle.std.proofs.lemmas.List.{map-append}
use Rattle.base.specs.Lists.{up_to}

-- a list of the same everywhere
pub constant_at : {A : Type 0} (a : A) (n i : ℕ) → get_or (replicate n a) i a ≡ a
constant_at a zero i = refl
constant_at a (suc n) zero = refl
constant_at a (suc n) (suc i) = constant_at a n i

pub map_snoc : {A B : Type 0} (f : A → B) (xs : List A) (y : A) → map f (xs ++ (y ∷ [])) ≡ map f xs ++ (f y ∷ [])
map_snoc f xs y = map-append f xs (y ∷ [])

up_to-length : (n : ℕ) → length (up_to n) ≡ n
unfolding up_to
up_to-length zero = refl
up_to-length (suc n) = simp length-append (omega (arith, up_to-length n))

pub map-length : {B : Type 0} (f : ℕ → B) (n : ℕ) → length (map f (up_to n)) ≡ n
map-length f n = length-map (up_to n) f ∙ up_to-length n

pub map_at : {B : Type 0} (f : ℕ → B) (n : ℕ) (d : B) (j : ℕ) → j < n → get_or (map f (up_to n)) j d ≡ f j
unfolding up_to
map_at f zero d j h = absurd (omega arith)
map_at {B} f (suc n) d j h =
    ap (λ (l : List B). get_or l j d) (map_snoc f (up_to n) n) ∙ go (λ k. map_at f n d j k) (eq-or-lt_of_le (le_of_suc-le-suc h))
  where
    go : (j < n → get_or (map f (up_to n)) j d ≡ f j) → (j ≡ n) ⊎ (j < n) → get_or (map f (up_to n) ++ (f n ∷ [])) j d ≡ f j
    go rec (inl e) = rw e (get_or_at (map f (up_to n)) (f n) [] d n (map-length f n))
    go rec (inr k) = get_or-append (map f (up_to n)) (f n ∷ []) d j (omega (arith, map-length f n)) ∙ rec k
