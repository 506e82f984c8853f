-- A strictly rising list is settled by its members.
-- Assumes nothing.
use mathlib.Core.Path.{◌≡◌, refl, sym, ap₂, subst, ◌∙◌}
use mathlib.Core.Logic.{◌⊎◌, inl, inr}
use mathlib.Core.Bool.{Bool, true, false}
use mathlib.Core.List.Memᴰ
use mathlib.Core.List.{List, [], ◌∷◌}
use Rattle.base.specs.Lists.{cons_if, filter}
use Rattle.base.proofs.Members.{◌∈◌, filter-from}

module _ {A : Type 0} (◌⊏◌ : A → A → Type 0) where
  infix 50 ◌⊏◌
  -- each member comes before all later ones
  abbrev pub Rising : List A → Type 0
  Rising [] = Unit {0}
  Rising (x ∷ xs) = ((y : A) → y ∈ xs → x ⊏ y) × Rising xs

  cons_if-rising : (c : Bool) (x : A) (xs : List A) → ((y : A) → y ∈ xs → x ⊏ y) → Rising xs → Rising (cons_if c x xs)
  unfolding cons_if
  cons_if-rising true x xs h r = (h, r)
  cons_if-rising false x xs h r = r

  pub filter-rising : (p : A → Bool) (xs : List A) → Rising xs → Rising (filter p xs)
  unfolding filter
  filter-rising p [] r = tt
  filter-rising p (x ∷ xs) r =
      cons_if-rising (p x) x (filter p xs) (λ y m. r.0 y (filter-from p xs m).0) (filter-rising p xs r.1)

  module _ (asym : (x y : A) → x ⊏ y → y ⊏ x → ⊥) where
    head_same : (x : A) (xs : List A) (y : A) (ys : List A) → ((z : A) → z ∈ xs → x ⊏ z) → ((z : A) → z ∈ ys → y ⊏ z)
        → (x ≡ y) ⊎ x ∈ ys → (y ≡ x) ⊎ y ∈ xs → x ≡ y
    head_same x xs y ys f g (inl e) q = e
    head_same x xs y ys f g (inr m) (inl e) = sym e
    head_same x xs y ys f g (inr m) (inr k) = absurd (asym x y (f y k) (g x m))

    -- a member of one tail is a member of the other: it cannot be the head
    tail_into : (x : A) (xs : List A) (y : A) (ys : List A) → ((z : A) → z ∈ xs → x ⊏ z) → x ≡ y → ((z : A) → z ∈ (x ∷ xs) → z ∈ (y ∷ ys))
        → (z : A) → z ∈ xs → z ∈ ys
    tail_into x xs y ys f e h z m = go (Memᴰ.cases_cons (h z (Memᴰ.tail m)))
      where
        go : (z ≡ y) ⊎ z ∈ ys → z ∈ ys
        go (inl d) = let l : x ⊏ x = subst (λ (w : A). x ⊏ w) (d ∙ sym e) (f z m) in absurd (asym x x l l)
        go (inr k) = k

    pub rising-same : (xs ys : List A) → Rising xs → Rising ys → ((z : A) → z ∈ xs → z ∈ ys) → ((z : A) → z ∈ ys → z ∈ xs) → xs ≡ ys
    rising-same [] [] r s f g = refl
    rising-same [] (y ∷ ys) r s f g = absurd (Memᴰ.not-nil (g y (Memᴰ.head refl)))
    rising-same (x ∷ xs) [] r s f g = absurd (Memᴰ.not-nil (f x (Memᴰ.head refl)))
    rising-same (x ∷ xs) (y ∷ ys) r s f g =
        let e : x ≡ y = head_same x xs y ys r.0 s.0 (Memᴰ.cases_cons (f x (Memᴰ.head refl))) (Memᴰ.cases_cons (g y (Memᴰ.head refl))) in
        ap₂ (λ (z : A) (zs : List A). z ∷ zs) e
        (rising-same xs ys r.1 s.1 (tail_into x xs y ys r.0 e f) (tail_into y ys x xs s.0 (sym e) g))
