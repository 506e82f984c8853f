-- Tests as statements: what && and || of tests say, which members a filtered list has, and what a test over a list says of its
-- members. Assumes nothing.
use mathlib.Core.Path.{◌≡◌, refl, sym, subst}
use mathlib.Core.Logic.{◌⊎◌, inl, inr}
use mathlib.Core.Bool.{Bool, true, false, not, ◌&&◌, ◌||◌}
use mathlib.Core.List.Memᴰ
use mathlib.Core.List.{List, [], ◌∷◌, Memᴰ}
use lib.Dec.{T}
use Rattle.base.specs.Lists.{cons_if, all, any, filter}

pub and_left : (a b : Bool) → T (a && b) → T a
and_left true b t = tt
and_left false b t = t

pub and_right : (a b : Bool) → T (a && b) → T b
and_right true b t = t
and_right false b t = absurd t

pub and_both : (a b : Bool) → T a → T b → T (a && b)
and_both true b p q = q
and_both false b p q = p

pub or_cases : (a b : Bool) → T (a || b) → T a ⊎ T b
or_cases true b t = inl tt
or_cases false b t = inr t

pub or_left : (a b : Bool) → T a → T (a || b)
or_left true b t = tt
or_left false b t = absurd t

pub or_right : (a b : Bool) → T b → T (a || b)
or_right true b t = tt
or_right false b t = t

-- a test passes or fails
pub test : (c : Bool) → (T c) ⊎ (T (not c))
test true = inl tt
test false = inr tt

-- two tests that pass together are one
pub same_test : (a b : Bool) → (T a → T b) → (T b → T a) → a ≡ b
same_test true true f g = refl
same_test true false f g = absurd (f tt)
same_test false true f g = absurd (g tt)
same_test false false f g = refl

module _ {A : Type 0} where
  abbrev pub ◌∈◌ : A → List A → Type 0
  x ∈ xs = Memᴰ x xs

  infix 50 ◌∈◌
  module _ (p : A → Bool) where
    cons_if-from : (c : Bool) {x : A} (y : A) (xs : List A) → x ∈ cons_if c y xs → ((x ≡ y) × T c) ⊎ x ∈ xs
    unfolding cons_if
    cons_if-from true y xs m = elim (Memᴰ.cases_cons m) [ inl e ↦ inl (e, tt) | inr k ↦ inr k ]
    cons_if-from false y xs m = inr m

    pub filter-from : {x : A} (xs : List A) → x ∈ filter p xs → x ∈ xs × T (p x)
    unfolding filter
    filter-from [] m = absurd (Memᴰ.not-nil m)
    filter-from {x} (y ∷ ys) m = go (cons_if-from (p y) y (filter p ys) m) (λ k. filter-from ys k)
      where
        go : ((x ≡ y) × T (p y)) ⊎ x ∈ filter p ys → (x ∈ filter p ys → x ∈ ys × T (p x)) → x ∈ (y ∷ ys) × T (p x)
        go (inl e) f = (Memᴰ.head e.0, subst (λ (z : A). T (p z)) (sym e.0) e.1)
        go (inr k) f = (Memᴰ.tail (f k).0, (f k).1)

    cons_if-head : (c : Bool) {x y : A} (xs : List A) → x ≡ y → T c → x ∈ cons_if c y xs
    unfolding cons_if
    cons_if-head true xs e t = Memᴰ.head e
    cons_if-head false xs e t = absurd t

    cons_if_tail : (c : Bool) {x : A} (y : A) {xs : List A} → x ∈ xs → x ∈ cons_if c y xs
    unfolding cons_if
    cons_if_tail true y m = Memᴰ.tail m
    cons_if_tail false y m = m

    pub filter_into : {x : A} {xs : List A} → x ∈ xs → T (p x) → x ∈ filter p xs
    unfolding filter
    filter_into (Memᴰ.head {x = y} {xs = ys} e) t = cons_if-head (p y) (filter p ys) e (subst (λ (z : A). T (p z)) e t)
    filter_into (Memᴰ.tail {x = y} m) t = cons_if_tail (p y) y (filter_into m t)

    pub all_at : {x : A} {xs : List A} → T (all p xs) → x ∈ xs → T (p x)
    unfolding all
    all_at t (Memᴰ.head {x = y} {xs = ys} e) = subst (λ (z : A). T (p z)) (sym e) (and_left (p y) (all p ys) t)
    all_at t (Memᴰ.tail {x = y} {xs = ys} m) = all_at (and_right (p y) (all p ys) t) m

    pub all_of : (xs : List A) → ((x : A) → x ∈ xs → T (p x)) → T (all p xs)
    unfolding all
    all_of [] h = tt
    all_of (x ∷ xs) h = and_both (p x) (all p xs) (h x (Memᴰ.head refl)) (all_of xs (λ y m. h y (Memᴰ.tail m)))

    pub any_of : {x : A} {xs : List A} → x ∈ xs → T (p x) → T (any p xs)
    unfolding any
    any_of (Memᴰ.head {x = y} {xs = ys} e) t = or_left (p y) (any p ys) (subst (λ (z : A). T (p z)) e t)
    any_of (Memᴰ.tail {x = y} {xs = ys} m) t = or_right (p y) (any p ys) (any_of m t)

    pub any_at : (xs : List A) → T (any p xs) → (x : A) × x ∈ xs × T (p x)
    unfolding any
    any_at [] t = absurd t
    any_at (y ∷ ys) t = go (or_cases (p y) (any p ys) t) (λ u. any_at ys u)
      where
        go : T (p y) ⊎ T (any p ys) → (T (any p ys) → (x : A) × x ∈ ys × T (p x)) → (x : A) × x ∈ (y ∷ ys) × T (p x)
        go (inl u) f = (y, Memᴰ.head refl, u)
        go (inr u) f = ((f u).0, Memᴰ.tail (f u).1, (f u).2)
