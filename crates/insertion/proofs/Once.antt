-- Lists in which no member is twice, and that insertion keeps them so. The crates above turn a list that rises weakly into one
-- that rises strictly by it. Assumes nothing.
use mathlib.Core.Path.{◌≡◌, refl, sym, subst}
use mathlib.Core.Logic.{◌⊎◌, inl, inr}
use mathlib.Core.Bool.{Bool, true, false}
use mathlib.Core.List.Memᴰ
use mathlib.Core.List.{List, [], ◌∷◌, ◌++◌}
use Prim.Native.Nat.{◌≤◌}
use native.Mathlib.Omega.{arith}
use lib.ListN.{length}
use Rattle.base.proofs.Members.{◌∈◌}
use Rattle.insertion.specs.Sorted.{insert_past, insert_by, insert_all}
use Rattle.insertion.proofs.SortedLaws.{insert_from}

module _ {A : Type 0} where
  abbrev pub Once : List A → Type 0
  Once [] = Unit {0}
  Once (x ∷ xs) = (x ∈ xs → ⊥) × Once xs

  pub short-once : (xs : List A) → length xs ≤ 1 → Once xs
  short-once [] h = tt
  short-once (x ∷ []) h = (λ m. Memᴰ.not-nil m, tt)
  short-once (x ∷ y ∷ xs) h = absurd (omega arith)

  pub append-once : (xs ys : List A) → Once xs → Once ys → ((z : A) → z ∈ xs → z ∈ ys → ⊥) → Once (xs ++ ys)
  append-once [] ys o q d = q
  append-once (x ∷ xs) ys o q d = (λ m. go (Memᴰ.append_cases xs m), append-once xs ys o.1 q (λ z k j. d z (Memᴰ.tail k) j))
    where
      go : x ∈ xs ⊎ x ∈ ys → ⊥
      go (inl k) = o.0 k
      go (inr k) = d x (Memᴰ.head refl) k

  module _ (less : A → A → Bool) where
    insert_past-once : (t : Bool) (x y : A) (rest ys : List A) → (x ∈ (y ∷ ys) → ⊥) → Once (y ∷ ys) → Once rest → ((z : A) → z ∈ rest → (z ≡ x) ⊎ z ∈ ys) → Once (insert_past t x y rest ys)
    unfolding insert_past
    insert_past-once true x y rest ys f o r g = (λ m. go (g y m), r)
      where
        go : (y ≡ x) ⊎ y ∈ ys → ⊥
        go (inl e) = f (Memᴰ.head (sym e))
        go (inr k) = o.0 k
    insert_past-once false x y rest ys f o r g = (f, o)

    insert_keeps_once : (x : A) (ys : List A) → (x ∈ ys → ⊥) → Once ys → Once (insert_by less x ys)
    unfolding insert_by
    insert_keeps_once x [] f o = (f, tt)
    insert_keeps_once x (y ∷ ys) f o = insert_past-once (less y x) x y (insert_by less x ys) ys f o (insert_keeps_once x ys (λ m. f (Memᴰ.tail m)) o.1) (λ z m. insert_from less x z ys m)

    pub insert_all-once : (xs l : List A) → Once xs → Once l → ((z : A) → z ∈ xs → z ∈ l → ⊥) → Once (insert_all less xs l)
    unfolding insert_all
    insert_all-once [] l o q d = q
    insert_all-once (x ∷ xs) l o q d = insert_all-once xs (insert_by less x l) o.1 (insert_keeps_once x l (λ m. d x (Memᴰ.head refl) m) q) (λ z k m. go z k (insert_from less x z l m))
      where
        go : (z : A) → z ∈ xs → (z ≡ x) ⊎ z ∈ l → ⊥
        go z k (inl e) = o.0 (subst (λ (y : A). y ∈ xs) e k)
        go z k (inr m) = d z (Memᴰ.tail k) m
