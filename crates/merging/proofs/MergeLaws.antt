-- Merging by halves: where no member behind a cut comes before one in front of it, inserting all is inserting all in front and all
-- behind. For any order given as a test in which members that are not before each other are the same. Assumes nothing.
use mathlib.Core.Path.{◌≡◌, refl, sym, ap, ap₂, subst, ◌∙◌}
use mathlib.Core.Logic.{◌⊎◌, inl, inr}
use mathlib.Core.Bool.{Bool, true, false}
use mathlib.Core.List.Memᴰ
use mathlib.Core.List.{List, [], ◌∷◌, ◌++◌}
use Prim.Native.Nat.{ℕ, zero, suc, ◌<◌}
use native.Mathlib.Omega.{arith}
use lib.ListN.{length, get_or, take, drop, take-append-drop}
use Rattle.base.proofs.Members.{◌∈◌}
use Rattle.base.proofs.EntryLaws.{entry_in}
use Rattle.insertion.specs.Sorted.{insert_past, insert_by, insert_all, Up}
use Rattle.insertion.proofs.SortedLaws.{insert_keeps_up, insert_all-keeps_up, insert_all-append, insert_all-from}

pub drop-from : {A : Type 0} (i : ℕ) (xs : List A) (z : A) → z ∈ drop i xs → z ∈ xs
drop-from {A} i xs z m = subst (λ (l : List A). z ∈ l) (take-append-drop i xs) (Memᴰ.append_right (take i xs) m)

module _ {A : Type 0} (less : A → A → Bool) (le_lt : (y x r : A) → less y x ≡ false → less y r ≡ true → less x r ≡ true) (asym : (x y : A) → less x y ≡ true → less y x ≡ false)
    (same : (x y : A) → less x y ≡ false → less y x ≡ false → x ≡ y) where
  -- nothing comes before the new member: it goes in front
  insert_first : (x : A) (ys : List A) → ((y : A) → y ∈ ys → less y x ≡ false) → insert_by less x ys ≡ x ∷ ys
  unfolding insert_by insert_past
  insert_first x [] h = refl
  insert_first x (y ∷ ys) h = rw (h y (Memᴰ.head refl)) refl

  -- nothing of R comes before the new member: it goes into L
  insert_low : (x : A) (L R : List A) → ((r : A) → r ∈ R → less r x ≡ false) → insert_by less x (L ++ R) ≡ insert_by less x L ++ R
  unfolding insert_by insert_past
  insert_low x [] R h = insert_first x R h
  insert_low x (l ∷ L) R h = go (less l x) (insert_low x L R h)
    where
      go : (t : Bool) → insert_by less x (L ++ R) ≡ insert_by less x L ++ R → insert_past t x l (insert_by less x (L ++ R)) (L ++ R) ≡ insert_past t x l (insert_by less x L) L ++ R
      go true e = ap (λ (z : List A). l ∷ z) e
      go false e = refl

  insert_all-low : (ys L R : List A) → ((y r : A) → y ∈ ys → r ∈ R → less r y ≡ false) → insert_all less ys (L ++ R) ≡ insert_all less ys L ++ R
  unfolding insert_all
  insert_all-low [] L R h = refl
  insert_all-low (y ∷ ys) L R h = ap (insert_all less ys) (insert_low y L R (λ r m. h y r (Memᴰ.head refl) m)) ∙ insert_all-low ys (insert_by less y L) R (λ z r k m. h z r (Memᴰ.tail k) m)

  -- the new member comes before nothing of L: it goes into R, or among its likes at the end of L
  insert_high : (x : A) (L R : List A) → Up less (L ++ R) → ((l : A) → l ∈ L → less x l ≡ false) → insert_by less x (L ++ R) ≡ L ++ insert_by less x R
  unfolding insert_by insert_past
  insert_high x [] R u h = refl
  insert_high x (l ∷ L) R u h = go (less l x) refl (insert_high x L R u.1 (λ k m. h k (Memᴰ.tail m)))
    where
      go : (t : Bool) → less l x ≡ t → insert_by less x (L ++ R) ≡ L ++ insert_by less x R → insert_past t x l (insert_by less x (L ++ R)) (L ++ R) ≡ l ∷ (L ++ insert_by less x R)
      go true e f = ap (λ (z : List A). l ∷ z) f
      go false e f =
          let q : l ≡ x = same l x e (h l (Memᴰ.head refl)) in
          let g : insert_by less x (L ++ R) ≡ x ∷ (L ++ R) = insert_first x (L ++ R) (λ y m. subst (λ (z : A). less y z ≡ false) q (u.0 y m)) in
          ap₂ (λ (y z : A). y ∷ (z ∷ (L ++ R))) (sym q) q ∙ ap (λ (z : List A). l ∷ z) (sym g ∙ f)

  insert_all-high : (ys L R : List A) → Up less (L ++ R) → ((y l : A) → y ∈ ys → l ∈ L → less y l ≡ false) → insert_all less ys (L ++ R) ≡ L ++ insert_all less ys R
  unfolding insert_all
  insert_all-high [] L R u h = refl
  insert_all-high (y ∷ ys) L R u h =
      let e : insert_by less y (L ++ R) ≡ L ++ insert_by less y R = insert_high y L R u (λ l m. h y l (Memᴰ.head refl) m) in
      ap (insert_all less ys) e ∙ insert_all-high ys L (insert_by less y R) (subst (λ (z : List A). Up less z) e (insert_keeps_up less le_lt asym y (L ++ R) u)) (λ z l k m. h z l (Memᴰ.tail k) m)

  pub up_apart : (xs ys : List A) → Up less (xs ++ ys) → (l r : A) → l ∈ xs → r ∈ ys → less r l ≡ false
  up_apart [] ys u l r m k = absurd (Memᴰ.not-nil m)
  up_apart (x ∷ xs) ys u l r m k = go (λ j. up_apart xs ys u.1 l r j k) (Memᴰ.cases_cons m)
    where
      go : (l ∈ xs → less r l ≡ false) → (l ≡ x) ⊎ l ∈ xs → less r l ≡ false
      go f (inl e) = subst (λ (z : A). less r z ≡ false) (sym e) (u.0 r (Memᴰ.append_right xs k))
      go f (inr j) = f j

  -- the whole from the halves
  pub merge_halves : (x₁ x₂ y₁ y₂ : List A) → Up less (x₁ ++ x₂) → Up less (y₁ ++ y₂)
      → ((l r : A) → l ∈ x₁ → r ∈ y₂ → less r l ≡ false) → ((l r : A) → l ∈ y₁ → r ∈ x₂ → less r l ≡ false)
      → insert_all less (y₁ ++ y₂) (x₁ ++ x₂) ≡ insert_all less y₁ x₁ ++ insert_all less y₂ x₂
  merge_halves x₁ x₂ y₁ y₂ u v f g =
      let e : insert_all less y₁ (x₁ ++ x₂) ≡ insert_all less y₁ x₁ ++ x₂ = insert_all-low y₁ x₁ x₂ (λ y r m k. g y r m k) in
      insert_all-append less y₁ y₂ (x₁ ++ x₂) ∙ ap (insert_all less y₂) e
      ∙ insert_all-high y₂ (insert_all less y₁ x₁) x₂ (subst (λ (z : List A). Up less z) e (insert_all-keeps_up less le_lt asym y₁ (x₁ ++ x₂) u)) (λ y l m k. go y l m (insert_all-from less y₁ x₁ l k))
    where
      go : (y l : A) → y ∈ y₂ → l ∈ y₁ ⊎ l ∈ x₁ → less y l ≡ false
      go y l m (inl k) = up_apart y₁ y₂ v l y k m
      go y l m (inr k) = f l y k m

  -- rising members inserted one by one into nothing
  pub insert_all-nothing : (ys : List A) → Up less ys → insert_all less ys [] ≡ ys
  unfolding insert_all insert_by
  insert_all-nothing [] u = refl
  insert_all-nothing (y ∷ ys) u = insert_all-high ys (y ∷ []) [] (λ z m. absurd (Memᴰ.not-nil m), tt) (λ z l m k. go z l m (Memᴰ.cases_cons k)) ∙ ap (λ (z : List A). y ∷ z) (insert_all-nothing ys u.1)
    where
      go : (z l : A) → z ∈ ys → (l ≡ y) ⊎ l ∈ [] → less z l ≡ false
      go z l m (inl e) = subst (λ (k : A). less z k ≡ false) (sym e) (u.0 z m)
      go z l m (inr k) = absurd (Memᴰ.not-nil k)

  -- in a rising list: what stands in front of a place, at it, and behind it
  pub up_front : (d : A) (xs : List A) (i : ℕ) → Up less xs → i < length xs → (l : A) → l ∈ take i xs → less (get_or xs i d) l ≡ false
  up_front d [] i u h l m = absurd (omega arith)
  up_front d (x ∷ xs) zero u h l m = absurd (Memᴰ.not-nil m)
  up_front d (x ∷ xs) (suc i) u h l m = go (λ j. up_front d xs i u.1 (omega arith) l j) (Memᴰ.cases_cons m)
    where
      go : (l ∈ take i xs → less (get_or xs i d) l ≡ false) → (l ≡ x) ⊎ l ∈ take i xs → less (get_or xs i d) l ≡ false
      go f (inl e) = subst (λ (z : A). less (get_or xs i d) z ≡ false) (sym e) (u.0 (get_or xs i d) (entry_in xs i d (omega arith)))
      go f (inr j) = f j

  irreflexive : (x : A) → less x x ≡ false
  irreflexive x = go (less x x) refl
    where
      go : (t : Bool) → less x x ≡ t → less x x ≡ false
      go true e = asym x x e
      go false e = e

  pub up_behind : (d : A) (xs : List A) (i : ℕ) → Up less xs → (r : A) → r ∈ drop i xs → less r (get_or xs i d) ≡ false
  up_behind d [] zero u r m = absurd (Memᴰ.not-nil m)
  up_behind d [] (suc i) u r m = absurd (Memᴰ.not-nil m)
  up_behind d (x ∷ xs) zero u r m = go (Memᴰ.cases_cons m)
    where
      go : (r ≡ x) ⊎ r ∈ xs → less r x ≡ false
      go (inl e) = subst (λ (z : A). less z x ≡ false) (sym e) (irreflexive x)
      go (inr k) = u.0 r k
  up_behind d (x ∷ xs) (suc i) u r m = up_behind d xs i u.1 r m

  -- the last of what stands in front
  pub up_last : (d : A) (xs : List A) (i : ℕ) → Up less xs → i < length xs → (l : A) → l ∈ take (suc i) xs → less (get_or xs i d) l ≡ false
  up_last d [] i u h l m = absurd (omega arith)
  up_last d (x ∷ xs) zero u h l m = go (Memᴰ.cases_cons m)
    where
      go : (l ≡ x) ⊎ l ∈ take zero xs → less x l ≡ false
      go (inl e) = subst (λ (z : A). less x z ≡ false) (sym e) (irreflexive x)
      go (inr k) = absurd (Memᴰ.not-nil k)
  up_last d (x ∷ xs) (suc i) u h l m = go (λ j. up_last d xs i u.1 (omega arith) l j) (Memᴰ.cases_cons m)
    where
      go : (l ∈ take (suc i) xs → less (get_or xs i d) l ≡ false) → (l ≡ x) ⊎ l ∈ take (suc i) xs → less (get_or xs i d) l ≡ false
      go f (inl e) = subst (λ (z : A). less (get_or xs i d) z ≡ false) (sym e) (u.0 (get_or xs i d) (entry_in xs i d (omega arith)))
      go f (inr j) = f j
