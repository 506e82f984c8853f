-- A fact's place: what one pass that settles it tells, each refusal in its turn, and what each place says of the stable models of
-- the inductive definition. Assumes nothing.
use mathlib.Core.Path.{◌≡◌, refl, sym, ap, subst, ◌∙◌}
use mathlib.Core.Logic.{◌⊎◌, inl, inr}
use mathlib.Core.Bool.{Bool, true, false, not, ◌&&◌}
use mathlib.Core.List.Memᴰ
use mathlib.Core.List.{List, [], ◌∷◌}
use Prim.Native.Nat.{ℕ, suc, ◌<◌, ◌≤◌}
use native.Mathlib.Decide.{dec_lt}
use native.Mathlib.Omega.{arith}
use borrow.Author.Tests.{le-ltb, ltb-false}
use lib.Dec.{T, T_not, not_T, eqb, ltb}
use lib.ListN.{length}
use Rattle.base.specs.Bounds.{max_atoms, max_branching}
use Rattle.base.specs.Lists.{cons_if, all, any, filter}
use Rattle.base.proofs.Members.{◌∈◌, test, filter-from, filter_into, all_at, all_of, any_of, any_at}
use Rattle.base.proofs.ClosureLaws.{filter_lt, filter-length}
use Rattle.base.proofs.UpTo.{passed, failed}
use Rattle.book.specs.Causes.{Test, verdict_if, first_of, Verdict}
use Rattle.book.specs.declared.Cause.{Cause}
use Rattle.book.specs.declared.Cause.TheVariants.{TooManyBranching, NoStableState}
use Rattle.models.specs.Program.{Program}
use Rattle.models.specs.StableModels.{Interpretation, atom_holds, StableModel, WellFormed}
use Rattle.models.specs.Branching.{branching_count}
use Rattle.models.specs.Listing.{stable_models}
use Rattle.models.specs.Alike.{Alike}
use Rattle.models.proofs.AlikeLaws.{alike_models, alike-count}
use Rattle.table.specs.Table.{program_of}
use Rattle.accepted.specs.Driven.{layer_tests}
use Rattle.accepted.proofs.FirstLaws.{accepted-none}
use Rattle.accepted.proofs.GrantedLaws.{granted}
use Rattle.search.specs.declared.Goal.TheVariants.{Settle}
use Rattle.search.specs.Visits.{reaches}
use Rattle.search.specs.Space.{space_atoms, space_program}
use Rattle.search.specs.declared.space.Space.{Space}
use Rattle.passes.proofs.SpaceLaws.{space_formed, space_count, space_few}
use Rattle.passes.specs.Limit.{has_too_many_branching, has_no_stable_state}
use Rattle.passes.specs.Tallied.{Tallied}
use Rattle.passes.proofs.StateLaws.{models_from, models_into, some_state, seen-from, seen_into, tallied_none, tallied_some, settled_weight}
use Rattle.place_call.specs.declared.Place.{Place}
use Rattle.place_call.specs.declared.Place.TheVariants.{Every, InSome, Nowhere}
use Rattle.place_call.specs.declared.Placed.{Placed}
use Rattle.std.proofs.Common.{Result, Ok, Err}
use Rattle.place_call.specs.Reply.{state_tests, search_tests, fact_tests, place_tests, place_by, place_in, reply_of, place_reply, NoCause, SomeModel, Answers, EveryExactly, NowhereExactly, InSomeExactly}

-- ---- how many of a list pass a test
module _ {A : Type 0} (p : A → Bool) where
  one_in : (xs : List A) → 0 < length xs → (x : A) × x ∈ xs
  one_in [] h = absurd (omega arith)
  one_in (x ∷ xs) h = (x, Memᴰ.head refl)

  not_empty : {x : A} (xs : List A) → x ∈ xs → 0 < length xs
  not_empty [] k = absurd (Memᴰ.not-nil k)
  not_empty (y ∷ xs) k = omega arith

  none_pass : (xs : List A) → length (filter p xs) ≡ 0 → (x : A) → x ∈ xs → T (p x) → ⊥
  none_pass xs e x k t = let h : 0 < length (filter p xs) = not_empty (filter p xs) (filter_into p k t) in omega arith

  one_passes : (xs : List A) → 0 < length (filter p xs) → (x : A) × x ∈ xs × T (p x)
  one_passes xs h = let w = one_in (filter p xs) h in let f = filter-from p xs w.1 in (w.0, f.0, f.1)

  all_pass : (xs : List A) → ((x : A) → x ∈ xs → T (p x)) → length (filter p xs) ≡ length xs
  unfolding filter cons_if
  all_pass [] h = refl
  all_pass (x ∷ xs) h = rw (passed (p x) (h x (Memᴰ.head refl))) (ap suc (all_pass xs (λ y k. h y (Memᴰ.tail k))))

  pass_all : (xs : List A) → length xs ≤ length (filter p xs) → (x : A) → x ∈ xs → T (p x)
  pass_all xs h x k = go (test (p x))
    where
      go : (T (p x)) ⊎ (T (not (p x))) → T (p x)
      go (inl t) = t
      go (inr f) = absurd (omega (arith, filter_lt (λ _. true) p (λ _ _. tt) k tt f, filter-length (λ _. true) xs))

  one_fails : (xs : List A) → length (filter p xs) < length xs → (x : A) × x ∈ xs × T (not (p x))
  unfolding filter cons_if
  one_fails [] h = absurd (omega arith)
  one_fails (x ∷ xs) h = go (p x) refl (λ b. one_fails xs b) h
    where
      go : (b : Bool) → p x ≡ b → (length (filter p xs) < length xs → (y : A) × y ∈ xs × T (not (p y)))
          → length (cons_if b x (filter p xs)) < suc (length xs) → (y : A) × y ∈ (x ∷ xs) × T (not (p y))
      go true e r h = let w = r (omega arith) in (w.0, Memᴰ.tail w.1, w.2)
      go false e r h = (x, Memᴰ.head refl, subst (λ (b : Bool). T (not b)) (sym e) tt)

-- ---- the place
module _ (P : Program) (fact : ℕ) where
  abbrev stands : Interpretation → Bool
  stands m = atom_holds m fact

  place-every : ((m : Interpretation) → StableModel P m → T (stands m)) → place_in P fact ≡ Every
  unfolding place_in place_by
  place-every h = rw (passed (all stands (stable_models P)) (all_of stands (stable_models P) (λ m k. h m (models_from P m k)))) refl

  not-all : (m : Interpretation) → StableModel P m → T (not (stands m)) → all stands (stable_models P) ≡ false
  not-all m s f = failed (all stands (stable_models P)) (λ t. T_not (stands m) f (all_at stands t (models_into P m s)))

  place_nowhere : (m : Interpretation) → StableModel P m → ((m : Interpretation) → StableModel P m → T (not (stands m))) → place_in P fact ≡ Nowhere
  unfolding place_in place_by
  place_nowhere m s h =
      rw (not-all m s (h m s), failed (any stands (stable_models P)) (λ t. let w = any_at stands (stable_models P) t in T_not (stands w.0) (h w.0 (models_from P w.0 w.1)) w.2)) refl

  place_in-some : (m : Interpretation) → StableModel P m → T (stands m) → (o : Interpretation) → StableModel P o → T (not (stands o)) → place_in P fact ≡ InSome
  unfolding place_in place_by
  place_in-some m s t o r f = rw (not-all o r f, passed (any stands (stable_models P)) (any_of stands (models_into P m s) t)) refl

-- ---- what the pass tells
and_false : (b : Bool) → (b && false) ≡ false
and_false true = refl
and_false false = refl

module _ (space : Space) (fact : ℕ) {count standing : ℕ} (t : Tallied (space_program space) (Settle fact) count standing) where
  abbrev P : Program
  P = space_program space

  formed : WellFormed P
  formed = space_formed space

  few : P.atoms ≤ max_atoms
  few = space_few space

  standing_is : standing ≡ length (filter (λ m. atom_holds m fact) t.seen)
  standing_is = t.weight_is ∙ settled_weight fact t.seen

  unsettled : (standing ≡ 0) ⊎ (count ≤ standing) → reaches (Settle fact) count standing ≡ false
  unfolding reaches
  unsettled (inl e) = rw (le-ltb 0 standing (omega arith)) refl
  unsettled (inr h) = rw (le-ltb standing count h) (and_false (ltb 0 standing))

  fails : (m : Interpretation) → (T (atom_holds m fact) → ⊥) → T (not (atom_holds m fact))
  fails m h = not_T (atom_holds m fact) h

  pub refused_state : count ≡ 0 → Err NoStableState ≡ reply_of (first_of (state_tests P)) P fact
  unfolding first_of verdict_if state_tests reply_of
  refused_state e = rw (tallied_none P formed few t e) refl

  module _ (some : 0 < count) {g : ℕ} (eg : g ≡ length (space_atoms space)) where
    placed : (p : Place) → place_in P fact ≡ p → Ok (record { place = p; branching = g }) ≡ reply_of (first_of (state_tests P)) P fact
    unfolding first_of verdict_if state_tests reply_of
    placed p e = rw (tallied_some P formed few t some) (λ i. Ok (record { place = sym e i; branching = (eg ∙ space_count space) i }))

    pub placed_nowhere : standing ≡ 0 → Ok (record { place = Nowhere; branching = g }) ≡ reply_of (first_of (state_tests P)) P fact
    placed_nowhere e =
        let s = some_state P (tallied_some P formed few t some) in
        placed Nowhere (place_nowhere P fact s.0 s.1
        (λ m k. fails m (none_pass (λ m. atom_holds m fact) t.seen (sym (standing_is) ∙ e) m (seen_into P formed few t (unsettled (inl e)) m k))))

    pub placed_in_some : 0 < standing → standing < count → Ok (record { place = InSome; branching = g }) ≡ reply_of (first_of (state_tests P)) P fact
    placed_in_some a b =
        let y = one_passes (λ m. atom_holds m fact) t.seen (omega (arith, standing_is)) in
        let z = one_fails (λ m. atom_holds m fact) t.seen (omega (arith, standing_is, t.count_is)) in
        placed InSome (place_in-some P fact y.0 (seen-from P formed few t y.0 y.1) y.2 z.0 (seen-from P formed few t z.0 z.1) z.2)

    pub placed_every : count ≤ standing → Ok (record { place = Every; branching = g }) ≡ reply_of (first_of (state_tests P)) P fact
    placed_every h =
        placed Every (place-every P fact (λ m k. pass_all (λ m. atom_holds m fact) t.seen (omega (arith, standing_is, t.count_is)) m (seen_into P formed few t (unsettled (inr h)) m k)))

-- ---- the program that the table stands for, and the driven layer's
module _ {P Q : Program} (a : Alike P Q) (fact : ℕ) where
  pub state_same : state_tests P ≡ state_tests Q
  unfolding state_tests has_no_stable_state
  state_same = ap (λ (ms : List Interpretation). record { cause = NoStableState; applies = eqb (length ms) 0 } ∷ []) (alike_models a)

  place_same : place_in P fact ≡ place_in Q fact
  unfolding place_in
  place_same = ap (λ (ms : List Interpretation). place_by (all (λ m. atom_holds m fact) ms) (any (λ m. atom_holds m fact) ms)) (alike_models a)

  pub reply_same : (v : Verdict) → reply_of v P fact ≡ reply_of v Q fact
  unfolding reply_of
  reply_same (Err c) = refl
  reply_same (Ok tt) = λ i. Ok (record { place = place_same i; branching = alike-count a i })

  pub reply_over : (r : Result Placed Cause) → r ≡ reply_of (first_of (state_tests Q)) Q fact → r ≡ reply_of (first_of (state_tests P)) P fact
  reply_over r e = e ∙ sym (reply_same (first_of (state_tests Q))) ∙ sym (ap (λ (ts : List Test). reply_of (first_of ts) P fact) state_same)

-- ---- the places, by the stable models of the inductive definition
not-every : (b : Bool) → place_by false b ≡ Every → ⊥
unfolding place_by
not-every true e = let z : ◌≡◌ {A = ℕ} 0 1 = cc in omega arith
not-every false e = let z : ◌≡◌ {A = ℕ} 0 1 = cc in omega arith

not_nowhere : (a : Bool) → place_by a true ≡ Nowhere → ⊥
unfolding place_by
not_nowhere true e = let z : ◌≡◌ {A = ℕ} 0 1 = cc in omega arith
not_nowhere false e = let z : ◌≡◌ {A = ℕ} 0 1 = cc in omega arith

in_some_from : (a b : Bool) → place_by a b ≡ InSome → (a ≡ false) × (b ≡ true)
unfolding place_by
in_some_from true b e = let z : ◌≡◌ {A = ℕ} 0 1 = cc in absurd (omega arith)
in_some_from false true e = (refl, refl)
in_some_from false false e = let z : ◌≡◌ {A = ℕ} 0 1 = cc in absurd (omega arith)

all_fails : {A : Type 0} (p : A → Bool) (xs : List A) → all p xs ≡ false → (x : A) × x ∈ xs × T (not (p x))
all_fails {A} p xs e = go (dec_lt (length (filter p xs)) (length xs))
  where
    go : Dec (length (filter p xs) < length xs) → (x : A) × x ∈ xs × T (not (p x))
    go (yes h) = one_fails p xs h
    go (no h) = absurd (subst T e (all_of p xs (pass_all p xs (omega arith))))

module _ (book : List ℕ) (layer off fact : ℕ) where
  abbrev Q : Program
  Q = program_of book layer off

  abbrev has : Interpretation → Bool
  has m = atom_holds m fact

  told : (p : Place) → Answers book layer off fact p → NoCause book layer off fact × (place_in Q fact ≡ p)
  unfolding place_reply reply_of
  told p e =
      let w = granted (first_of (place_tests book layer off fact)) e in
      ((accepted-none (place_tests book layer off fact)).0 w.0, ap (λ (x : Placed). x.place) w.1)

  tells : (p : Place) → NoCause book layer off fact → place_in Q fact ≡ p → Answers book layer off fact p
  unfolding place_reply reply_of
  tells p n e = ap (λ (v : Verdict). reply_of v Q fact) ((accepted-none (place_tests book layer off fact)).1 n) ∙ ap (λ (x : Place). Ok (record { place = x; branching = branching_count Q })) e

  pub some_model : SomeModel book layer off fact
  unfolding place_tests fact_tests search_tests state_tests
  some_model n =
      some_state Q (n (record { cause = NoStableState; applies = has_no_stable_state Q }) (Memᴰ.append_right (layer_tests book layer off) (Memᴰ.tail (Memᴰ.tail (Memᴰ.head refl)))))

  every-from : place_in Q fact ≡ Every → (m : Interpretation) → StableModel Q m → T (has m)
  unfolding place_in
  every-from e m s = go (test (has m))
    where
      go : (T (has m)) ⊎ (T (not (has m))) → T (has m)
      go (inl t) = t
      go (inr f) = absurd (not-every (any has (stable_models Q)) (ap (λ (b : Bool). place_by b (any has (stable_models Q))) (sym (not-all Q fact m s f)) ∙ e))

  nowhere_from : place_in Q fact ≡ Nowhere → (m : Interpretation) → StableModel Q m → T (not (has m))
  unfolding place_in
  nowhere_from e m s = go (test (has m))
    where
      go : (T (has m)) ⊎ (T (not (has m))) → T (not (has m))
      go (inl t) = absurd (not_nowhere (all has (stable_models Q)) (ap (λ (b : Bool). place_by (all has (stable_models Q)) b) (sym (passed (any has (stable_models Q)) (any_of has (models_into Q m s) t))) ∙ e))
      go (inr f) = f

  pub every-exactly : EveryExactly book layer off fact
  every-exactly = (λ e. let w = told Every e in (w.0, every-from w.1), λ w. tells Every w.0 (place-every Q fact w.1))

  pub nowhere_exactly : NowhereExactly book layer off fact
  nowhere_exactly = (
    λ e. let w = told Nowhere e in (w.0, nowhere_from w.1),
    λ w. let s = some_model w.0 in tells Nowhere w.0 (place_nowhere Q fact s.0 s.1 w.1),
  )

  pub in_some_exactly : InSomeExactly book layer off fact
  unfolding place_in
  in_some_exactly = (
    λ e.
        let w = told InSome e in
        let b = in_some_from (all has (stable_models Q)) (any has (stable_models Q)) w.1 in
        let y = any_at has (stable_models Q) (subst T (sym b.1) tt) in
        let z = all_fails has (stable_models Q) b.0 in
        (w.0, ((y.0, models_from Q y.0 y.1, y.2), (z.0, models_from Q z.0 z.1, z.2))),
    λ w. tells InSome w.0 (place_in-some Q fact w.1.0.0 w.1.0.1 w.1.0.2 w.1.1.0 w.1.1.1 w.1.1.2),
  )

  -- a granted answer carries a g of at most 20
  pub granted-small : (p : Place) (g : ℕ) → place_reply book layer off fact ≡ Ok (record { place = p; branching = g }) → g ≤ max_branching
  unfolding place_reply reply_of place_tests fact_tests search_tests has_too_many_branching
  granted-small p g e =
      let w = granted (first_of (place_tests book layer off fact)) e in
      let b : branching_count Q ≡ g = ap (λ (x : Placed). x.branching) w.1 in
      omega (
        arith,
        b,
        ltb-false max_branching (branching_count Q)
            ((accepted-none (place_tests book layer off fact)).0 w.0 (record { cause = TooManyBranching; applies = has_too_many_branching Q }) (Memᴰ.append_right (layer_tests book layer off) (Memᴰ.tail (Memᴰ.head refl)))),
      )
