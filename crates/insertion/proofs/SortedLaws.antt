-- Insertion into a rising list keeps it rising and adds one member: which members there are then, and how many. The crates above cite it
-- for records and for the states found. Assumes nothing.
use mathlib.Core.Path.{◌≡◌, refl, sym, ap, subst, ◌∙◌}
use mathlib.Core.Logic.{◌⊎◌, inl, inr}
use mathlib.Core.Bool.{Bool, true, false}
use mathlib.Core.List.Memᴰ
use mathlib.Core.List.{List, [], ◌∷◌, ◌++◌, map}
use Prim.Native.Nat.{ℕ, zero, suc, ◌+◌}
use native.Mathlib.Omega.{arith}
use lib.Dec.{T}
use lib.ListN.{length, take, drop, take-append-drop}
use Rattle.base.proofs.Members.{◌∈◌}
use Rattle.insertion.specs.Sorted.{insert_past, insert_by, insert_all, Up}

pub take-from : {A : Type 0} (i : ℕ) (xs : List A) (z : A) → z ∈ take i xs → z ∈ xs
take-from {A} i xs z m = subst (λ (l : List A). z ∈ l) (take-append-drop i xs) (Memᴰ.append_left (drop i xs) m)

module _ {A : Type 0} (less : A → A → Bool) where
  pub take-keeps_up : (i : ℕ) (xs : List A) → Up less xs → Up less (take i xs)
  take-keeps_up zero xs u = tt
  take-keeps_up (suc i) [] u = tt
  take-keeps_up (suc i) (x ∷ xs) u = (λ y m. u.0 y (take-from i xs y m), take-keeps_up i xs u.1)

  insert_past-from : (t : Bool) (x y z : A) (rest ys : List A) → (z ∈ rest → (z ≡ x) ⊎ z ∈ ys) → z ∈ insert_past t x y rest ys → (z ≡ x) ⊎ z ∈ (y ∷ ys)
  unfolding insert_past
  insert_past-from true x y z rest ys f m = go (Memᴰ.cases_cons m)
    where
      next : (z ≡ x) ⊎ z ∈ ys → (z ≡ x) ⊎ z ∈ (y ∷ ys)
      next (inl e) = inl e
      next (inr k) = inr (Memᴰ.tail k)

      go : (z ≡ y) ⊎ z ∈ rest → (z ≡ x) ⊎ z ∈ (y ∷ ys)
      go (inl e) = inr (Memᴰ.head e)
      go (inr k) = next (f k)
  insert_past-from false x y z rest ys f m = Memᴰ.cases_cons m

  pub insert_from : (x z : A) (ys : List A) → z ∈ insert_by less x ys → (z ≡ x) ⊎ z ∈ ys
  unfolding insert_by
  insert_from x z [] m = Memᴰ.cases_cons m
  insert_from x z (y ∷ ys) m = insert_past-from (less y x) x y z (insert_by less x ys) ys (λ k. insert_from x z ys k) m

  insert_past_into : (t : Bool) (x y z : A) (rest ys : List A) → ((z ≡ x) ⊎ z ∈ ys → z ∈ rest) → (z ≡ x) ⊎ z ∈ (y ∷ ys) → z ∈ insert_past t x y rest ys
  unfolding insert_past
  insert_past_into true x y z rest ys f (inl e) = Memᴰ.tail (f (inl e))
  insert_past_into true x y z rest ys f (inr m) = go (Memᴰ.cases_cons m)
    where
      go : (z ≡ y) ⊎ z ∈ ys → z ∈ (y ∷ rest)
      go (inl e) = Memᴰ.head e
      go (inr k) = Memᴰ.tail (f (inr k))
  insert_past_into false x y z rest ys f (inl e) = Memᴰ.head e
  insert_past_into false x y z rest ys f (inr m) = Memᴰ.tail m

  insert_into : (x z : A) (ys : List A) → (z ≡ x) ⊎ z ∈ ys → z ∈ insert_by less x ys
  unfolding insert_by
  insert_into x z [] (inl e) = Memᴰ.head e
  insert_into x z [] (inr m) = absurd (Memᴰ.not-nil m)
  insert_into x z (y ∷ ys) s = insert_past_into (less y x) x y z (insert_by less x ys) ys (λ k. insert_into x z ys k) s

  insert_past-length : (t : Bool) (x y : A) (rest ys : List A) → length rest ≡ suc (length ys) → length (insert_past t x y rest ys) ≡ suc (suc (length ys))
  unfolding insert_past
  insert_past-length true x y rest ys e = ap suc e
  insert_past-length false x y rest ys e = refl

  insert_length : (x : A) (ys : List A) → length (insert_by less x ys) ≡ suc (length ys)
  unfolding insert_by
  insert_length x [] = refl
  insert_length x (y ∷ ys) = insert_past-length (less y x) x y (insert_by less x ys) ys (insert_length x ys)

  module _ (le_lt : (y x r : A) → less y x ≡ false → less y r ≡ true → less x r ≡ true) (asym : (x y : A) → less x y ≡ true → less y x ≡ false) where
    -- not after, put together
    pub le_le : (y x r : A) → less y x ≡ false → less x r ≡ false → less y r ≡ false
    le_le y x r p q = go (less y r) refl
      where
        go : (t : Bool) → less y r ≡ t → less y r ≡ false
        go false e = e
        go true e = absurd (subst T (sym (le_lt y x r p e) ∙ q) tt)

    pub insert_keeps_up : (x : A) (ys : List A) → Up less ys → Up less (insert_by less x ys)
    unfolding insert_by insert_past
    insert_keeps_up x [] u = (λ y m. absurd (Memᴰ.not-nil m), tt)
    insert_keeps_up x (y ∷ ys) u = go (less y x) refl (insert_keeps_up x ys u.1)
      where
        later : less y x ≡ true → (z : A) → (z ≡ x) ⊎ z ∈ ys → less z y ≡ false
        later e z (inl q) = subst (λ (k : A). less k y ≡ false) (sym q) (asym y x e)
        later e z (inr m) = u.0 z m

        here : less y x ≡ false → (z : A) → (z ≡ y) ⊎ z ∈ ys → less z x ≡ false
        here e z (inl q) = subst (λ (k : A). less k x ≡ false) (sym q) e
        here e z (inr m) = le_le z y x (u.0 z m) e

        go : (t : Bool) → less y x ≡ t → Up less (insert_by less x ys) → Up less (insert_past t x y (insert_by less x ys) ys)
        go true e h = (λ z m. later e z (insert_from x z ys m), h)
        go false e h = (λ z m. here e z (Memᴰ.cases_cons m), u)

    pub insert_all-keeps_up : (xs ys : List A) → Up less ys → Up less (insert_all less xs ys)
    unfolding insert_all
    insert_all-keeps_up [] ys u = u
    insert_all-keeps_up (x ∷ xs) ys u = insert_all-keeps_up xs (insert_by less x ys) (insert_keeps_up x ys u)

  pub insert_all-append : (xs ys l : List A) → insert_all less (xs ++ ys) l ≡ insert_all less ys (insert_all less xs l)
  unfolding insert_all
  insert_all-append [] ys l = refl
  insert_all-append (x ∷ xs) ys l = insert_all-append xs ys (insert_by less x l)

  pub insert_all-length : (xs l : List A) → length (insert_all less xs l) ≡ length xs + length l
  unfolding insert_all
  insert_all-length [] l = omega arith
  insert_all-length (x ∷ xs) l = omega (arith, insert_all-length xs (insert_by less x l), insert_length x l)

  pub insert_all-from : (xs l : List A) (z : A) → z ∈ insert_all less xs l → z ∈ xs ⊎ z ∈ l
  unfolding insert_all
  insert_all-from [] l z m = inr m
  insert_all-from (x ∷ xs) l z m = go (insert_all-from xs (insert_by less x l) z m)
    where
      last : (z ≡ x) ⊎ z ∈ l → z ∈ (x ∷ xs) ⊎ z ∈ l
      last (inl e) = inl (Memᴰ.head e)
      last (inr k) = inr k

      go : z ∈ xs ⊎ z ∈ insert_by less x l → z ∈ (x ∷ xs) ⊎ z ∈ l
      go (inl k) = inl (Memᴰ.tail k)
      go (inr k) = last (insert_from x z l k)

  pub insert_all_into : (xs l : List A) (z : A) → z ∈ xs ⊎ z ∈ l → z ∈ insert_all less xs l
  unfolding insert_all
  insert_all_into [] l z (inl m) = absurd (Memᴰ.not-nil m)
  insert_all_into [] l z (inr m) = m
  insert_all_into (x ∷ xs) l z (inl m) = go (λ k. insert_all_into xs (insert_by less x l) z k) (Memᴰ.cases_cons m)
    where
      go : (z ∈ xs ⊎ z ∈ insert_by less x l → z ∈ insert_all less xs (insert_by less x l)) → (z ≡ x) ⊎ z ∈ xs → z ∈ insert_all less xs (insert_by less x l)
      go rec (inl e) = rec (inr (insert_into x z l (inl e)))
      go rec (inr k) = rec (inl k)
  insert_all_into (x ∷ xs) l z (inr m) = insert_all_into xs (insert_by less x l) z (inr (insert_into x z l (inr m)))

-- the same insertion seen through a map
module _ {A B : Type 0} (f : A → B) (less : B → B → Bool) where
  insert_past-map : (t : Bool) (x y : A) (rest ys : List A) → map f (insert_past t x y rest ys) ≡ insert_past t (f x) (f y) (map f rest) (map f ys)
  unfolding insert_past
  insert_past-map true x y rest ys = refl
  insert_past-map false x y rest ys = refl

  insert_map : (x : A) (ys : List A) → map f (insert_by (λ a b. less (f a) (f b)) x ys) ≡ insert_by less (f x) (map f ys)
  unfolding insert_by
  insert_map x [] = refl
  insert_map x (y ∷ ys) =
      insert_past-map (less (f y) (f x)) x y (insert_by (λ a b. less (f a) (f b)) x ys) ys
      ∙ ap (λ (r : List B). insert_past (less (f y) (f x)) (f x) (f y) r (map f ys)) (insert_map x ys)

  pub insert_all-map : (xs ys : List A) → map f (insert_all (λ a b. less (f a) (f b)) xs ys) ≡ insert_all less (map f xs) (map f ys)
  unfolding insert_all
  insert_all-map [] ys = refl
  insert_all-map (x ∷ xs) ys = insert_all-map xs (insert_by (λ a b. less (f a) (f b)) x ys) ∙ ap (insert_all less (map f xs)) (insert_map x ys)
