-- The computed closure is exactly what follows by the clauses: each turn adds only what follows, and leaves fewer clauses that wait
-- for their conclusion, so as many turns as clauses are enough. Used for `below` and for `least`. Assumes nothing.
use mathlib.Core.Path.{◌≡◌, refl, sym, subst}
use mathlib.Core.Logic.{◌⊎◌, inl, inr}
use mathlib.Core.Bool.{Bool, true, false, not}
use mathlib.Core.List.Memᴰ
use mathlib.Core.List.{List, [], ◌∷◌}
use Prim.Native.Nat.{ℕ, zero, suc, ◌<◌, ◌≤◌}
use native.Mathlib.Omega.{arith}
use lib.Dec.{T, T_not, not_T}
use lib.ListN.{length}
use Rattle.base.specs.Lists.{cons_if, all, filter}
use Rattle.base.specs.Closure.{Clause, Consequence, given, by_clause, extend, member, fires, saturate, closure}
use Rattle.base.proofs.Members.{◌∈◌, and_left, and_right, and_both, filter-from, filter_into, all_at, all_of, any_at, any_of, test}

-- fewer pass the narrower test, if one that passes the wider fails it
module _ {A : Type 0} (p q : A → Bool) (narrower : (x : A) → T (q x) → T (p x)) where
  cons_if_le : (c d : Bool) (x : A) (xs ys : List A) → (T d → T c) → length ys ≤ length xs → length (cons_if d x ys) ≤ length (cons_if c x xs)
  unfolding cons_if
  cons_if_le true true x xs ys f h = omega arith
  cons_if_le true false x xs ys f h = omega arith
  cons_if_le false true x xs ys f h = absurd (f tt)
  cons_if_le false false x xs ys f h = h

  filter_le : (xs : List A) → length (filter q xs) ≤ length (filter p xs)
  unfolding filter
  filter_le [] = omega arith
  filter_le (x ∷ xs) = cons_if_le (p x) (q x) x (filter p xs) (filter q xs) (narrower x) (filter_le xs)

  cons_if_lt : (c d : Bool) (x : A) (xs ys : List A) → (T d → T c) → length ys < length xs → length (cons_if d x ys) < length (cons_if c x xs)
  unfolding cons_if
  cons_if_lt true true x xs ys f h = omega arith
  cons_if_lt true false x xs ys f h = omega arith
  cons_if_lt false true x xs ys f h = absurd (f tt)
  cons_if_lt false false x xs ys f h = h

  cons_if-drop : (c d : Bool) (x : A) (xs ys : List A) → T c → T (not d) → length ys ≤ length xs → length (cons_if d x ys) < length (cons_if c x xs)
  unfolding cons_if
  cons_if-drop true true x xs ys t u h = absurd u
  cons_if-drop true false x xs ys t u h = omega arith
  cons_if-drop false d x xs ys t u h = absurd t

  pub filter_lt : {x : A} {xs : List A} → x ∈ xs → T (p x) → T (not (q x)) → length (filter q xs) < length (filter p xs)
  unfolding filter
  filter_lt (Memᴰ.head {x = y} {xs = ys} e) t u =
      cons_if-drop (p y) (q y) y (filter p ys) (filter q ys) (subst (λ (z : A). T (p z)) e t) (subst (λ (z : A). T (not (q z))) e u) (filter_le ys)
  filter_lt (Memᴰ.tail {x = y} {xs = ys} k) t u = cons_if_lt (p y) (q y) y (filter p ys) (filter q ys) (narrower y) (filter_lt k t u)

module _ {A : Type 0} (p : A → Bool) where
  pub filter-length : (xs : List A) → length (filter p xs) ≤ length xs
  unfolding filter cons_if
  filter-length [] = omega arith
  filter-length (x ∷ xs) = go (p x) (filter-length xs)
    where
      go : (c : Bool) → length (filter p xs) ≤ length xs → length (cons_if c x (filter p xs)) ≤ suc (length xs)
      go true h = omega arith
      go false h = omega arith

  empty_none : {x : A} {xs : List A} → x ∈ xs → T (p x) → length (filter p xs) ≤ 0 → ⊥
  empty_none {x} {xs} j t h = go (filter p xs) (filter_into p j t) h
    where
      go : (fs : List A) → x ∈ fs → length fs ≤ 0 → ⊥
      go [] i u = Memᴰ.not-nil i
      go (y ∷ fs) i u = omega arith

module _ {A : Type 0} (eq : A → A → Bool) (eq_same : (a b : A) → T (eq a b) → a ≡ b) (eq_self : (a : A) → T (eq a a)) where
  pub member-sound : (a : A) (xs : List A) → T (member eq a xs) → a ∈ xs
  unfolding member
  member-sound a xs t = let w : (x : A) × x ∈ xs × T (eq a x) = any_at (eq a) xs t in Memᴰ.cast (eq_same a w.0 w.2) w.1

  pub member_complete : {a : A} {xs : List A} → a ∈ xs → T (member eq a xs)
  unfolding member
  member_complete {a} k = any_of (eq a) k (eq_self a)

  -- a clause gives what is not there yet
  waits : List A → Clause A → Bool
  waits got c = not (member eq c.conclusion got)

  module _ (cs : List (Clause A)) where
    module _ (start : List A) where
      saturate-sound : (k : ℕ) (got : List A) → ((a : A) → a ∈ got → Consequence cs start a) → (a : A) → a ∈ saturate eq k cs got → Consequence cs start a
      unfolding saturate extend fires
      saturate-sound zero got h a j = h a j
      saturate-sound (suc k) got h a j = go (filter (fires eq got) cs) (λ c i. filter-from (fires eq got) cs i) (λ more f i. saturate-sound k more f a i) j
        where
          added : (c : Clause A) → c ∈ cs × T (fires eq got c) → (x : A) → x ∈ (c.conclusion ∷ got) → Consequence cs start x
          added c w x i =
              elim (Memᴰ.cases_cons i) [
                | inl e ↦ subst (Consequence cs start) (sym e) (by_clause c w.0 (λ y n. h y (member-sound y got (all_at (λ z. member eq z got) (and_left (all (λ z. member eq z got) c.premises) (not (member eq c.conclusion got)) w.1) n))))
                | inr n ↦ h x n
              ]

          go : (fs : List (Clause A)) → ((c : Clause A) → c ∈ fs → c ∈ cs × T (fires eq got c))
              → ((more : List A) → ((x : A) → x ∈ more → Consequence cs start x) → a ∈ saturate eq k cs more → Consequence cs start a)
              → a ∈ extend fs got (λ more. saturate eq k cs more) → Consequence cs start a
          go [] f rec i = h a i
          go (c ∷ fs) f rec i = rec (c.conclusion ∷ got) (added c (f c (Memᴰ.head refl))) i

    saturate-keeps : (k : ℕ) (got : List A) (a : A) → a ∈ got → a ∈ saturate eq k cs got
    unfolding saturate extend
    saturate-keeps zero got a j = j
    saturate-keeps (suc k) got a j = go (filter (fires eq got) cs) (λ more i. saturate-keeps k more a i)
      where
        go : (fs : List (Clause A)) → ((more : List A) → a ∈ more → a ∈ saturate eq k cs more) → a ∈ extend fs got (λ more. saturate eq k cs more)
        go [] rec = j
        go (c ∷ fs) rec = rec (c.conclusion ∷ got) (Memᴰ.tail j)

    -- with a turn for each waiting clause, none adds at the end
    saturate-closed : (k : ℕ) (got : List A) → length (filter (waits got) cs) ≤ k → (c : Clause A) → c ∈ cs → T (fires eq (saturate eq k cs got) c) → ⊥
    unfolding saturate extend fires waits
    saturate-closed zero got h c j t = empty_none (waits got) j (and_right (all (λ z. member eq z got) c.premises) (not (member eq c.conclusion got)) t) h
    saturate-closed (suc k) got h c j t =
        go (filter (fires eq got) cs) refl (λ x i. filter-from (fires eq got) cs i) (λ more u v. saturate-closed k more u c j v) t
      where
        fewer : (x : Clause A) → x ∈ cs × T (fires eq got x) → length (filter (waits (x.conclusion ∷ got)) cs) ≤ k
        fewer x w =
            let u : T (not (member eq x.conclusion got)) = and_right (all (λ z. member eq z got) x.premises) (not (member eq x.conclusion got)) w.1 in
            let v : length (filter (waits (x.conclusion ∷ got)) cs) < length (filter (waits got) cs) =
            filter_lt (waits got) (waits (x.conclusion ∷ got))
            (λ y n. not_T (member eq y.conclusion got) (λ i. T_not (member eq y.conclusion (x.conclusion ∷ got)) n (member_complete (Memᴰ.tail (member-sound y.conclusion got i)))))
            w.0 u (not_T (waits (x.conclusion ∷ got) x) (λ n. T_not (member eq x.conclusion (x.conclusion ∷ got)) n (member_complete {xs = x.conclusion ∷ got} (Memᴰ.head refl)))) in
            omega arith

        go : (fs : List (Clause A)) → filter (fires eq got) cs ≡ fs → ((x : Clause A) → x ∈ fs → x ∈ cs × T (fires eq got x))
            → ((more : List A) → length (filter (waits more) cs) ≤ k → T (fires eq (saturate eq k cs more) c) → ⊥)
            → T (fires eq (extend fs got (λ more. saturate eq k cs more)) c) → ⊥
        go [] e f rec u = Memᴰ.not-nil (subst (λ (gs : List (Clause A)). c ∈ gs) e (filter_into (fires eq got) j u))
        go (x ∷ fs) e f rec u = rec (x.conclusion ∷ got) (fewer x (f x (Memᴰ.head refl))) u

    pub closure-sound : (start : List A) (a : A) → a ∈ closure eq cs start → Consequence cs start a
    unfolding closure
    closure-sound start a k = saturate-sound start (length cs) start (λ x i. given i) a k

    closed : (start : List A) (c : Clause A) → c ∈ cs → ((a : A) → a ∈ c.premises → a ∈ closure eq cs start) → c.conclusion ∈ closure eq cs start
    unfolding fires closure
    closed start c j h = go (test (member eq c.conclusion end))
      where
        end : List A
        end = saturate eq (length cs) cs start

        go : T (member eq c.conclusion end) ⊎ T (not (member eq c.conclusion end)) → c.conclusion ∈ end
        go (inl t) = member-sound c.conclusion end t
        go (inr t) =
            absurd (saturate-closed (length cs) start (filter-length (waits start) cs) c j
            (and_both (all (λ z. member eq z end) c.premises) (not (member eq c.conclusion end)) (all_of (λ z. member eq z end) c.premises (λ z i. member_complete (h z i))) t))

    pub closure_complete : (start : List A) (a : A) → Consequence cs start a → a ∈ closure eq cs start
    unfolding closure
    closure_complete start a (given k) = saturate-keeps (length cs) start a k
    closure_complete start a (by_clause c k h) = closed start c k (λ x i. closure_complete start x (h x i))
