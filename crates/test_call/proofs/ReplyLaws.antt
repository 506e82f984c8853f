-- The answer from the tests made so far, and what "yes" and "no" say: no cause applies, and the candidate's state is a stable model by
-- the inductive definition, or is none. Used by `test` and `candidate_stable`. Assumes nothing.
use mathlib.Core.Path.{◌≡◌, refl, sym, ap, ap₂, subst, ◌∙◌}
use mathlib.Core.Bool.{Bool, true, false, not, ◌&&◌}
use mathlib.Core.List.{List, [], ◌∷◌}
use Prim.Native.Nat.{ℕ}
use lib.Dec.{T}
use lib.ListN.{length}
use Rattle.base.proofs.UpTo.{passed, failed}
use Rattle.format.specs.Book.{book_of}
use Rattle.models.specs.Program.{Program, constrained}
use Rattle.models.specs.Alike.{Alike}
use Rattle.models.specs.StableModels.{Interpretation, holds, settled, forbidden, stable, StableModel, WellFormed}
use Rattle.models.specs.Listing.{interpretation_of}
use Rattle.models.proofs.LeastLaws.{stable_sound, stable_complete}
use Rattle.models.proofs.AlikeLaws.{alike-stable, alike-formed}
use Rattle.models.proofs.ConstraintLaws.{constrained-filter}
use Rattle.base.specs.Lists.{all, any}
use Rattle.table.specs.Table.{program_of, Tabulates, TableMade}
use Rattle.table.specs.Tabled.{tabled}
use Rattle.table.specs.declared.Table.{Table}
use Rattle.table.proofs.TabledLaws.{tabled-free, lent_alike, lent_tabled}
use Rattle.book.specs.Causes.{verdict_if, first_of, Verdict}
use Rattle.book.specs.declared.Cause.{Cause}
use Rattle.book.specs.declared.Cause.TheVariants.{BadCandidate}
use Rattle.accepted.specs.Driven.{layer_tests}
use Rattle.accepted.specs.Driving.{driven_program}
use Rattle.accepted.specs.declared.Driving.{Driving}
use Rattle.accepted.proofs.FirstLaws.{first_append, first_refused, accepted-none}
use Rattle.accepted.proofs.GrantedLaws.{granted}
use Rattle.accepted.proofs.RecordFacts.{accepted-formed, program_atoms}
use Rattle.candidate.specs.Candidate.{is_bad_candidate}
use Rattle.candidate.proofs.CandidateLaws.{read_length}
use Rattle.test_call.specs.Reply.{test_tests, reply_of, test_reply, NoCause, YesExactly, NoExactly}
use Rattle.std.proofs.Common.{Ok, Err, Bor}

-- a state that a constraint forbids is not stable
pub forbidden_over : (P : Program) (m : List Bool) (f : Bool) → f ≡ any (all (holds m)) P.constraints → f ≡ true → false ≡ stable P m
unfolding stable forbidden
forbidden_over P m f ef t = rw (sym ef ∙ t) (sym (and_false (settled P m)))
  where
    and_false : (c : Bool) → (c && false) ≡ false
    and_false true = refl
    and_false false = refl

-- the state that a candidate of a driven layer gives, and the layer's table
module _ (d : Driving) (s : List ℕ) (n : ℕ) (en : n ≡ (book_of d.book.now).atoms) (m : List Bool) (read : m ≡ interpretation_of n s) where
  pub state_is : m ≡ interpretation_of (book_of d.book.now).atoms s
  state_is = read ∙ ap (λ (k : ℕ). interpretation_of k s) en

  size : length m ≡ (driven_program d).atoms
  size = ap length state_is ∙ program_atoms d.book.now d.layer d.off _ (read_length (book_of d.book.now).atoms s)

  module _ (t : Table) (made : TableMade (driven_program d) d.book.now t.rows.now) (at : t.book ≡ d.book) where
    here : TableMade (driven_program d) t.book.now t.rows.now
    here = subst (λ (b : Bor (List ℕ)). TableMade (driven_program d) b.now t.rows.now) (sym at) made

    alike : Alike (driven_program d) (constrained (tabled t.book.now t.rows.now (length m)) (driven_program d).constraints)
    alike = lent_alike here size (driven_program d).constraints refl

    -- its rules are well formed
    pub lent_formed : WellFormed (tabled t.book.now t.rows.now (length m))
    unfolding constrained
    lent_formed = let f = alike-formed alike (accepted-formed d.book.now d.accepted d.layer d.off) in record { heads = f.heads; bodies = f.bodies }

    pub lent_table : Tabulates (tabled t.book.now t.rows.now (length m)) t.book.now t.rows.now
    lent_table = lent_tabled here size

    -- its test is that of the layer's program, where no constraint forbids the state
    pub stable_over : (f : Bool) → f ≡ any (all (holds m)) (driven_program d).constraints → f ≡ false → stable (tabled t.book.now t.rows.now (length m)) m ≡ stable (driven_program d) m
    stable_over f ef z =
        let Q : Program = tabled t.book.now t.rows.now (length m) in
        sym (alike-stable alike m size ∙ constrained-filter Q (driven_program d).constraints (tabled-free t.book.now t.rows.now (length m)) m
        ∙ ap (λ (c : Bool). stable Q m && not c) (sym ef ∙ z) ∙ and_true (stable Q m))
      where
        and_true : (c : Bool) → (c && true) ≡ c
        and_true true = refl
        and_true false = refl

module _ (book : List ℕ) (layer off : ℕ) (candidate : List ℕ) where
  -- a cause of the book or the layer
  pub layer_refused : (c : Cause) → Err c ≡ first_of (layer_tests book layer off) → Err c ≡ test_reply book layer off candidate
  unfolding test_reply test_tests reply_of
  layer_refused c e =
      sym (ap (λ (w : Verdict). reply_of w (stable (program_of book layer off) (interpretation_of (book_of book).atoms candidate)))
      (first_refused (layer_tests book layer off) (record { cause = BadCandidate; applies = is_bad_candidate (book_of book).atoms candidate } ∷ []) c (sym e)))

  -- none of them, and cause 10 by its test
  module _ (e : Ok tt ≡ first_of (layer_tests book layer off)) (d : Driving) (is : (d.book.now ≡ book) × (d.layer ≡ layer) × (d.off ≡ off)) (n : ℕ) (en : n ≡ (book_of d.book.now).atoms) (t : Bool) (et : t ≡ is_bad_candidate n candidate) where
    bad_is : t ≡ is_bad_candidate (book_of book).atoms candidate
    bad_is = et ∙ ap (λ (k : ℕ). is_bad_candidate k candidate) (en ∙ ap (λ (s : List ℕ). (book_of s).atoms) is.0)

    ten : first_of (test_tests book layer off candidate) ≡ verdict_if t (Err BadCandidate) (Ok tt)
    unfolding test_tests first_of
    ten =
        first_append (layer_tests book layer off) (record { cause = BadCandidate; applies = is_bad_candidate (book_of book).atoms candidate } ∷ []) (sym e)
        ∙ ap (λ (b : Bool). verdict_if b (Err BadCandidate) (Ok tt)) (sym bad_is)

    pub candidate_refused : t ≡ true → Err BadCandidate ≡ test_reply book layer off candidate
    unfolding test_reply reply_of verdict_if
    candidate_refused f = sym (rw (ten, f) refl)

    pub not_bad : t ≡ false → is_bad_candidate (book_of d.book.now).atoms candidate ≡ false
    not_bad f = ap (λ (k : ℕ). is_bad_candidate k candidate) (sym en) ∙ sym et ∙ f

    pub answered : t ≡ false → Ok (stable (driven_program d) (interpretation_of (book_of d.book.now).atoms candidate)) ≡ test_reply book layer off candidate
    unfolding test_reply reply_of verdict_if
    answered f = sym (rw (ten, f) (ap Ok (sym (λ i. stable (program_of (is.0 i) (is.1 i) (is.2 i)) (interpretation_of (book_of (is.0 i)).atoms candidate)))))

  -- the state that the candidate gives
  abbrev state : Interpretation
  state = interpretation_of (book_of book).atoms candidate

  state_size : length state ≡ (program_of book layer off).atoms
  state_size = program_atoms book layer off (length state) (read_length (book_of book).atoms candidate)

  state_stable : T (stable (program_of book layer off) state) → StableModel (program_of book layer off) state
  state_stable t = stable_sound (program_of book layer off) state state_size t

  -- "yes" or "no" with no cause, and the test's answer
  told : (b : Bool) → test_reply book layer off candidate ≡ Ok b → NoCause book layer off candidate × (stable (program_of book layer off) state ≡ b)
  unfolding test_reply reply_of
  told b e = let w = granted (first_of (test_tests book layer off candidate)) e in ((accepted-none (test_tests book layer off candidate)).0 w.0, w.1)

  tells : (b : Bool) → NoCause book layer off candidate → stable (program_of book layer off) state ≡ b → test_reply book layer off candidate ≡ Ok b
  unfolding test_reply reply_of
  tells b n e = ap₂ reply_of ((accepted-none (test_tests book layer off candidate)).1 n) e

  pub yes_exactly : YesExactly book layer off candidate
  yes_exactly = (
    λ e. let w = told true e in (w.0, state_stable (subst T (sym w.1) tt)),
    λ w. tells true w.0 (passed (stable (program_of book layer off) state) (stable_complete (program_of book layer off) state w.1)),
  )

  pub no_exactly : NoExactly book layer off candidate
  no_exactly = (
    λ e. let w = told false e in (w.0, λ m. subst T w.1 (stable_complete (program_of book layer off) state m)),
    λ w. tells false w.0 (failed (stable (program_of book layer off) state) (λ t. w.1 (state_stable t))),
  )
