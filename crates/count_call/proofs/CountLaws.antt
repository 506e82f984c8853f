-- Counting states that fit a condition: the order of the causes, what one pass tells, the answer over programs that are alike, and what
-- it says of the stable models of the inductive definition. Assumes nothing.
use mathlib.Core.Path.{◌≡◌, refl, sym, ap, subst, ◌∙◌}
use mathlib.Core.Bool.{Bool, false}
use mathlib.Core.List.Memᴰ
use mathlib.Core.List.{List, [], ◌∷◌, ◌++◌, append-nil}
use Prim.Native.Nat.{ℕ, ◌^◌, ◌≤◌}
use native.Mathlib.Nat.{pow-le-pow_right}
use native.Mathlib.Omega.{arith}
use borrow.Author.Tests.{ltb-false}
use lib.ListN.{length}
use Rattle.base.specs.Bounds.{max_atoms, max_branching}
use Rattle.base.specs.Lists.{filter}
use Rattle.base.proofs.Members.{◌∈◌, filter-from, filter_into}
use Rattle.base.proofs.ClosureLaws.{filter-length}
use Rattle.base.proofs.Rising.{Rising, filter-rising}
use Rattle.book.specs.Causes.{Test, first_of, Verdict}
use Rattle.book.specs.declared.Cause.{Cause}
use Rattle.book.specs.declared.Cause.TheVariants.{TooManyBranching}
use Rattle.format.specs.Book.{atom_count}
use Rattle.models.specs.Program.{Program, program_at}
use Rattle.models.specs.StableModels.{Interpretation, stable}
use Rattle.models.specs.Branching.{branching_count}
use Rattle.models.specs.Listing.{interpretations, stable_models}
use Rattle.models.specs.Alike.{Alike}
use Rattle.models.proofs.AlikeLaws.{alike_models, alike-count}
use Rattle.models.proofs.InterpretationLaws.{◌⊏◌, asym, interpretations-rising}
use Rattle.table.specs.Table.{program_of}
use Rattle.accepted.specs.Accepted.{IsAccepted}
use Rattle.accepted.specs.Driven.{layer_tests}
use Rattle.accepted.proofs.DrivenLaws.{driven}
use Rattle.accepted.proofs.FirstLaws.{accepted-none, first_append, first_refused}
use Rattle.accepted.proofs.GrantedLaws.{granted}
use Rattle.accepted.proofs.RangeFacts.{atoms_are}
use Rattle.accepted.proofs.RecordFacts.{accepted-formed}
use Rattle.grammar.specs.Conditions.{Condition, Reads, or-level, fits}
use Rattle.grammar.proofs.ParseLaws.{read_exactly}
use Rattle.condition.specs.declared.Code.{Code}
use Rattle.condition.specs.Code.{code_holds, StackFits}
use Rattle.condition.specs.Causes.{condition_tests, fits_in, fits_text}
use Rattle.search.specs.declared.Goal.TheVariants.{Fit}
use Rattle.search.specs.Visits.{Asks, reaches}
use Rattle.search.specs.Space.{space_atoms, space_program}
use Rattle.search.specs.declared.space.Space.{Space}
use Rattle.passes.proofs.SpaceLaws.{space_formed, space_count, space_few}
use Rattle.passes.specs.Limit.{has_too_many_branching}
use Rattle.passes.specs.Tallied.{searched, Tallied}
use Rattle.passes.proofs.PassLaws.{searched-length, models_le}
use Rattle.passes.proofs.StateLaws.{models_from, models_into, fitted_weight, searched_passing}
use Rattle.count_call.specs.declared.Counted.{Counted}
use Rattle.std.proofs.Common.{Ok, Err, Bor}
use Rattle.count_call.specs.Reply.{search_tests, fit_tests, count_tests, reply_of, count_reply, Once, Fitting, CountsExactly}

-- ---- the order of the causes: the condition's own, and only then 12
module _ (P : Program) (condition : List ℕ) where
  pub condition_first : (c : Cause) → first_of (condition_tests P.atoms condition) ≡ Err c → first_of (fit_tests P condition) ≡ Err c
  unfolding fit_tests
  condition_first c h = first_refused (condition_tests P.atoms condition) (search_tests P) c h

  pub search_last : first_of (condition_tests P.atoms condition) ≡ Ok tt → first_of (fit_tests P condition) ≡ first_of (search_tests P)
  unfolding fit_tests
  search_last h = first_append (condition_tests P.atoms condition) (search_tests P) h

-- ---- what the pass tells
module _ (space : Space) {codes : Bor (List Code)} {count weight : ℕ} (t : Tallied (space_program space) (Fit codes) count weight) where
  abbrev P : Program
  P = space_program space

  all_seen : t.seen ≡ searched P
  unfolding reaches
  all_seen = sym (append-nil t.seen) ∙ ap (λ (l : List Interpretation). t.seen ++ l) (sym (t.whole refl)) ∙ sym t.split

  k_is : count ≡ length (stable_models P)
  k_is = t.count_is ∙ ap length all_seen ∙ searched-length P (space_formed space) (space_few space)

  count_is : weight ≡ length (filter (code_holds codes.now) (stable_models P))
  count_is =
      t.weight_is ∙ fitted_weight codes t.seen ∙ ap (λ (l : List Interpretation). length (filter (code_holds codes.now) l)) all_seen
      ∙ searched_passing (code_holds codes.now) P (space_formed space) (space_few space)

  pub counted : {g : ℕ} → g ≡ length (space_atoms space) → Ok (record { states = count; branching = g; fitting = weight }) ≡ reply_of (Ok tt) P (code_holds codes.now)
  unfolding reply_of
  counted eg = λ i. Ok (record { states = k_is i; branching = (eg ∙ space_count space) i; fitting = count_is i })

pub asks_fit : (codes : Bor (List Code)) → StackFits codes.now → Asks (Fit codes)
unfolding Asks
asks_fit codes h = h

-- ---- the program that the table stands for, and the driven layer's
pub reply_over : {P Q : Program} → Alike P Q → (v : Verdict) (p : Interpretation → Bool) → reply_of v P p ≡ reply_of v Q p
unfolding reply_of
reply_over a (Err c) p = refl
reply_over a (Ok tt) p = λ i. Ok (record { states = length (alike_models a i); branching = alike-count a i; fitting = length (filter p (alike_models a i)) })

-- ---- the answer, by the stable models of the inductive definition
rising-once : (ms : List Interpretation) → Rising ◌⊏◌ ms → Once ms
rising-once [] r = tt
rising-once (m ∷ ms) r = (λ k. let l : m ⊏ m = r.0 m k in asym m m l l, rising-once ms r.1)

module _ (book : List ℕ) (layer off : ℕ) (condition : List ℕ) where
  abbrev Q : Program
  Q = program_of book layer off

  fitting : (a : Condition) → Fitting book layer off condition a (filter (λ m. fits m a) (stable_models Q))
  unfolding stable_models
  fitting a = record {
    exactly = λ m. (
      λ k. let f = filter-from (λ m. fits m a) (stable_models Q) k in (models_from Q m f.0, f.1),
      λ s. filter_into (λ m. fits m a) (models_into Q m s.0) s.1,
    );
    once = rising-once (filter (λ m. fits m a) (stable_models Q)) (filter-rising ◌⊏◌ (λ m. fits m a) (stable_models Q) (filter-rising ◌⊏◌ (stable Q) (interpretations Q.atoms) (interpretations-rising Q.atoms)));
  }

  read_fits : (a : Condition) → Reads or-level a condition → fits_text condition ≡ (λ m. fits m a)
  unfolding fits_text fits_in
  read_fits a h = λ i m. fits_in m ((read_exactly condition a).1 h i)

  pub counts_exactly : CountsExactly book layer off condition
  unfolding count_reply reply_of
  counts_exactly n a h = (
    filter (λ m. fits m a) (stable_models Q),
    fitting a,
    ap (λ (v : Verdict). reply_of v Q (fits_text condition)) ((accepted-none (count_tests book layer off condition)).1 n) ∙ ap (reply_of (Ok tt) Q) (read_fits a h),
  )

  -- ---- a granted answer carries numbers that keep to their bits
  module _ (g : first_of (count_tests book layer off condition) ≡ Ok tt) where
    passed : (t : Test) → t ∈ count_tests book layer off condition → t.applies ≡ false
    passed = (accepted-none (count_tests book layer off condition)).0 g

    few-branching : branching_count Q ≤ max_branching
    unfolding count_tests fit_tests search_tests has_too_many_branching
    few-branching =
        ltb-false max_branching (branching_count Q)
        (passed (record { cause = TooManyBranching; applies = has_too_many_branching Q }) (Memᴰ.append_right (layer_tests book layer off) (Memᴰ.append_right (condition_tests Q.atoms condition) (Memᴰ.head refl))))

    accepted : IsAccepted book
    unfolding count_tests
    accepted = (driven book layer off ((accepted-none (layer_tests book layer off)).1 (λ t k. passed t (Memᴰ.append_left (fit_tests Q condition) k)))).0

    atoms_few : Q.atoms ≤ max_atoms
    unfolding program_at
    atoms_few = let r = atoms_are book accepted (atom_count book) refl in subst (λ (n : ℕ). n ≤ max_atoms) r.0 r.2

    k_small : length (stable_models Q) ≤ 2 ^ max_branching
    k_small = omega (arith, models_le Q (accepted-formed book accepted layer off) atoms_few, pow-le-pow_right {n = 2} (omega arith) few-branching)

  -- g is at most 20, k at most 2 to its power, and the count at most k
  pub granted-small : (k g c : ℕ) → count_reply book layer off condition ≡ Ok (record { states = k; branching = g; fitting = c }) → (k ≤ 2 ^ max_branching) × (g ≤ max_branching) × (c ≤ k)
  unfolding count_reply reply_of
  granted-small k g c e =
      let w = granted (first_of (count_tests book layer off condition)) e in
      let x : length (stable_models Q) ≡ k = ap (λ (r : Counted). r.states) w.1 in
      let b : branching_count Q ≡ g = ap (λ (r : Counted). r.branching) w.1 in
      let y : length (filter (fits_text condition) (stable_models Q)) ≡ c = ap (λ (r : Counted). r.fitting) w.1 in
      (omega (arith, x, k_small w.0), omega (arith, b, few-branching w.0), omega (arith, x, y, filter-length (fits_text condition) (stable_models Q)))
