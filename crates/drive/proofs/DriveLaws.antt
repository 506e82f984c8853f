-- The calls that search, side by side: which of a call's tests decides, and what its answer and its buffer then are. The table stands for
-- a program that is alike to the driven layer's, so that they are the same of both. Assumes nothing.
use mathlib.Core.Path.{◌≡◌, refl, sym, ap, subst, ◌∙◌}
use mathlib.Core.Bool.{Bool, true, false}
use mathlib.Core.List.{List, [], ◌∷◌, ◌++◌}
use Prim.Native.Nat.{ℕ, ◌<◌, ◌≤◌}
use borrow.Author.Tests.{lt-ltb, le-ltb}
use lib.ListN.{length}
use Rattle.std.proofs.Common.{Result, Ok, Err}
use Rattle.format.specs.Book.{book_of}
use Rattle.models.specs.Program.{Program, program_at}
use Rattle.models.specs.StableModels.{Interpretation}
use Rattle.models.specs.Listing.{interpretation_of}
use Rattle.models.specs.Alike.{Alike}
use Rattle.table.specs.Table.{program_of}
use Rattle.book.specs.Causes.{Test, Verdict, verdict_if, first_of}
use Rattle.book.specs.declared.Cause.{Cause}
use Rattle.book.specs.declared.Cause.TheVariants.{BadCandidate, NoSuchFact, TooManyBranching}
use Rattle.accepted.specs.Driven.{layer_tests}
use Rattle.accepted.specs.Driving.{driven_program}
use Rattle.accepted.specs.declared.Driving.{Driving}
use Rattle.accepted.proofs.FirstLaws.{first_append, first_refused}
use Rattle.candidate.specs.Candidate.{is_bad_candidate}
use Rattle.condition.specs.Causes.{condition_tests, fits_text}
use Rattle.passes.specs.Limit.{has_too_many_branching}
use Rattle.list_call.specs.declared.Listed.{Listed}
use Rattle.list_call.specs.Reply as list
use Rattle.list_call.proofs.ListLaws as list-laws
use Rattle.one_call.specs.Reply as one
use Rattle.one_call.proofs.OneLaws as one_laws
use Rattle.near_call.specs.declared.Nearest.{Nearest}
use Rattle.near_call.specs.Reply as near
use Rattle.near_call.proofs.NearLaws as near-laws
use Rattle.place_call.specs.declared.Placed.{Placed}
use Rattle.place_call.specs.Reply as place
use Rattle.place_call.proofs.PlaceLaws as place-laws
use Rattle.count_call.specs.declared.Counted.{Counted}
use Rattle.count_call.specs.Reply as count
use Rattle.count_call.proofs.CountLaws as count-laws

-- ---- 12, and what comes behind it
module _ (P : Program) (own : List Test) where
  twelve : has_too_many_branching P ≡ true → first_of (record { cause = TooManyBranching; applies = has_too_many_branching P } ∷ own) ≡ Err TooManyBranching
  unfolding first_of verdict_if
  twelve h = rw h refl

  not_twelve : has_too_many_branching P ≡ false → first_of (record { cause = TooManyBranching; applies = has_too_many_branching P } ∷ own) ≡ first_of own
  unfolding first_of verdict_if
  not_twelve h = rw h refl

module _ (book : List ℕ) (layer off : ℕ) where
  abbrev P : Program
  P = program_of book layer off

  abbrev layer_verdict : Verdict
  layer_verdict = first_of (layer_tests book layer off)

  -- the verdict of a call whose own tests are these
  abbrev call_verdict : List Test → Verdict
  call_verdict ts = first_of (layer_tests book layer off ++ ts)

  layer_refuses : (ts : List Test) (c : Cause) → Err c ≡ layer_verdict → call_verdict ts ≡ Err c
  layer_refuses ts c e = first_refused (layer_tests book layer off) ts c (sym e)

  layer_passes : (ts : List Test) → Ok tt ≡ layer_verdict → call_verdict ts ≡ first_of ts
  layer_passes ts e = first_append (layer_tests book layer off) ts (sym e)

  -- the driven layer, as the check of it hands it on
  module _ (d : Driving) (is : (d.book.now ≡ book) × (d.layer ≡ layer) × (d.off ≡ off)) where
    pub program_is : driven_program d ≡ P
    program_is = λ i. program_of (is.0 i) (is.1 i) (is.2 i)

    pub limit_is : {b : Bool} → has_too_many_branching (driven_program d) ≡ b → has_too_many_branching P ≡ b
    limit_is h = sym (ap has_too_many_branching program_is) ∙ h

    pub alike_is : {Q : Program} → Alike (driven_program d) Q → Alike P Q
    alike_is {Q} a = subst (λ (R : Program). Alike R Q) program_is a

    pub atoms_is : {n : ℕ} → n ≡ (book_of d.book.now).atoms → n ≡ P.atoms
    unfolding program_at
    atoms_is e = e ∙ ap (λ (s : List ℕ). (book_of s).atoms) is.0

    -- and a candidate, as it was tested
    pub bad_is : {n : ℕ} → n ≡ (book_of d.book.now).atoms → (candidate : List ℕ) {b : Bool} → b ≡ is_bad_candidate n candidate → is_bad_candidate P.atoms candidate ≡ b
    bad_is e candidate q = sym (q ∙ ap (λ (k : ℕ). is_bad_candidate k candidate) (atoms_is e))

  -- ---- the listing
  module _ (old : List ℕ) where
    list_is : (v : Verdict) → call_verdict (list.search_tests P (length old)) ≡ v → (list.reply_of v P ≡ list.list_reply book layer off old) × (list.buffer_of v P old ≡ list.list_buffer book layer off old)
    unfolding list.list_reply list.list_buffer list.list_tests
    list_is v e = (ap (λ (w : Verdict). list.reply_of w P) (sym e), ap (λ (w : Verdict). list.buffer_of w P old) (sym e))

    list_refused : (c : Cause) → call_verdict (list.search_tests P (length old)) ≡ Err c → (Err c ≡ list.list_reply book layer off old) × (old ≡ list.list_buffer book layer off old)
    unfolding list.reply_of list.buffer_of
    list_refused c e = list_is (Err c) e

    pub list_of_layer : {c : Cause} → Err c ≡ layer_verdict → (Err c ≡ list.list_reply book layer off old) × (old ≡ list.list_buffer book layer off old)
    list_of_layer {c} e = list_refused c (layer_refuses (list.search_tests P (length old)) c e)

    pub list_of_twelve : Ok tt ≡ layer_verdict → has_too_many_branching P ≡ true → (Err TooManyBranching ≡ list.list_reply book layer off old) × (old ≡ list.list_buffer book layer off old)
    unfolding list.search_tests
    list_of_twelve e h = list_refused TooManyBranching (layer_passes (list.search_tests P (length old)) e ∙ twelve P (list.room_tests P (length old)) h)

    pub listed : Ok tt ≡ layer_verdict → has_too_many_branching P ≡ false → {Q : Program} → Alike P Q → {r : Result Listed Cause} {new : List ℕ}
        → list.Answers (first_of (list.room_tests Q (length old))) Q old r new → (r ≡ list.list_reply book layer off old) × (new ≡ list.list_buffer book layer off old)
    unfolding list.search_tests
    listed e h a x =
        let y = list-laws.answers_over a x in
        let z = list_is (first_of (list.room_tests P (length old))) (layer_passes (list.search_tests P (length old)) e ∙ not_twelve P (list.room_tests P (length old)) h) in
        (y.reply_is ∙ z.0, y.buffer_is ∙ z.1)

  -- ---- one state
  module _ (old : List ℕ) where
    one_is : (v : Verdict) → call_verdict (one.search_tests P (length old)) ≡ v → (one.reply_of v P ≡ one.one_reply book layer off old) × (one.buffer_of v P old ≡ one.one_buffer book layer off old)
    unfolding one.one_reply one.one_buffer one.one_tests
    one_is v e = (ap (λ (w : Verdict). one.reply_of w P) (sym e), ap (λ (w : Verdict). one.buffer_of w P old) (sym e))

    one_refused : (c : Cause) → call_verdict (one.search_tests P (length old)) ≡ Err c → (Err c ≡ one.one_reply book layer off old) × (old ≡ one.one_buffer book layer off old)
    unfolding one.reply_of one.buffer_of
    one_refused c e = one_is (Err c) e

    pub one_of_layer : {c : Cause} → Err c ≡ layer_verdict → (Err c ≡ one.one_reply book layer off old) × (old ≡ one.one_buffer book layer off old)
    one_of_layer {c} e = one_refused c (layer_refuses (one.search_tests P (length old)) c e)

    pub one_of_twelve : Ok tt ≡ layer_verdict → has_too_many_branching P ≡ true → (Err TooManyBranching ≡ one.one_reply book layer off old) × (old ≡ one.one_buffer book layer off old)
    unfolding one.search_tests
    one_of_twelve e h = one_refused TooManyBranching (layer_passes (one.search_tests P (length old)) e ∙ twelve P (one.room_tests P (length old)) h)

    pub written : Ok tt ≡ layer_verdict → has_too_many_branching P ≡ false → {Q : Program} → Alike P Q → {r : Result ℕ Cause} {new : List ℕ}
        → one.Answers (first_of (one.room_tests Q (length old))) Q old r new → (r ≡ one.one_reply book layer off old) × (new ≡ one.one_buffer book layer off old)
    unfolding one.search_tests
    written e h a x =
        let y = one_laws.answers_over a x in
        let z = one_is (first_of (one.room_tests P (length old))) (layer_passes (one.search_tests P (length old)) e ∙ not_twelve P (one.room_tests P (length old)) h) in
        (y.reply_is ∙ z.0, y.buffer_is ∙ z.1)

  -- ---- a fact's place
  module _ (fact : ℕ) where
    place_is : (v : Verdict) → call_verdict (place.fact_tests P fact) ≡ v → place.reply_of v P fact ≡ place.place_reply book layer off fact
    unfolding place.place_reply place.place_tests
    place_is v e = ap (λ (w : Verdict). place.reply_of w P fact) (sym e)

    place_refused : (c : Cause) → call_verdict (place.fact_tests P fact) ≡ Err c → Err c ≡ place.place_reply book layer off fact
    unfolding place.reply_of
    place_refused c e = place_is (Err c) e

    pub place_of_layer : {c : Cause} → Err c ≡ layer_verdict → Err c ≡ place.place_reply book layer off fact
    place_of_layer {c} e = place_refused c (layer_refuses (place.fact_tests P fact) c e)

    module _ (e : Ok tt ≡ layer_verdict) where
      pub place_of_eleven : P.atoms ≤ fact → Err NoSuchFact ≡ place.place_reply book layer off fact
      unfolding place.fact_tests place.is_no_such_fact first_of verdict_if
      place_of_eleven h = place_refused NoSuchFact (layer_passes (place.fact_tests P fact) e ∙ rw (le-ltb fact P.atoms h) refl)

      fact_passes : fact < P.atoms → first_of (place.fact_tests P fact) ≡ first_of (place.search_tests P)
      unfolding place.fact_tests place.is_no_such_fact first_of verdict_if
      fact_passes h = rw (lt-ltb fact P.atoms h) refl

      pub place_of_twelve : fact < P.atoms → has_too_many_branching P ≡ true → Err TooManyBranching ≡ place.place_reply book layer off fact
      unfolding place.search_tests
      place_of_twelve l h = place_refused TooManyBranching (layer_passes (place.fact_tests P fact) e ∙ fact_passes l ∙ twelve P (place.state_tests P) h)

      pub placed : fact < P.atoms → has_too_many_branching P ≡ false → {Q : Program} → Alike P Q → (r : Result Placed Cause) → r ≡ place.reply_of (first_of (place.state_tests Q)) Q fact
          → r ≡ place.place_reply book layer off fact
      unfolding place.search_tests
      placed l h a r x = place-laws.reply_over a fact r x ∙ place_is (first_of (place.state_tests P)) (layer_passes (place.fact_tests P fact) e ∙ fact_passes l ∙ not_twelve P (place.state_tests P) h)

  -- ---- the closest state
  module _ (candidate old : List ℕ) where
    abbrev given : Interpretation
    given = interpretation_of (book_of book).atoms candidate

    near_is : (v : Verdict) → call_verdict (near.candidate_tests P candidate (length old)) ≡ v
        → (near.reply_of v P given ≡ near.near_reply book layer off candidate old) × (near.buffer_of v P given old ≡ near.near_buffer book layer off candidate old)
    unfolding near.near_reply near.near_buffer near.near_tests
    near_is v e = (ap (λ (w : Verdict). near.reply_of w P given) (sym e), ap (λ (w : Verdict). near.buffer_of w P given old) (sym e))

    near_refused : (c : Cause) → call_verdict (near.candidate_tests P candidate (length old)) ≡ Err c → (Err c ≡ near.near_reply book layer off candidate old) × (old ≡ near.near_buffer book layer off candidate old)
    unfolding near.reply_of near.buffer_of
    near_refused c e = near_is (Err c) e

    pub near_of_layer : {c : Cause} → Err c ≡ layer_verdict → (Err c ≡ near.near_reply book layer off candidate old) × (old ≡ near.near_buffer book layer off candidate old)
    near_of_layer {c} e = near_refused c (layer_refuses (near.candidate_tests P candidate (length old)) c e)

    module _ (e : Ok tt ≡ layer_verdict) where
      pub near_of_ten : is_bad_candidate P.atoms candidate ≡ true → (Err BadCandidate ≡ near.near_reply book layer off candidate old) × (old ≡ near.near_buffer book layer off candidate old)
      unfolding near.candidate_tests first_of verdict_if
      near_of_ten h = near_refused BadCandidate (layer_passes (near.candidate_tests P candidate (length old)) e ∙ rw h refl)

      candidate_passes : is_bad_candidate P.atoms candidate ≡ false → first_of (near.candidate_tests P candidate (length old)) ≡ first_of (one.search_tests P (length old))
      unfolding near.candidate_tests first_of verdict_if
      candidate_passes h = rw h refl

      pub near_of_twelve : is_bad_candidate P.atoms candidate ≡ false → has_too_many_branching P ≡ true → (Err TooManyBranching ≡ near.near_reply book layer off candidate old) × (old ≡ near.near_buffer book layer off candidate old)
      unfolding one.search_tests
      near_of_twelve b h = near_refused TooManyBranching (layer_passes (near.candidate_tests P candidate (length old)) e ∙ candidate_passes b ∙ twelve P (one.room_tests P (length old)) h)

      pub neared : is_bad_candidate P.atoms candidate ≡ false → has_too_many_branching P ≡ false → {Q : Program} → Alike P Q → (n : ℕ) → n ≡ Q.atoms → {r : Result Nearest Cause} {new : List ℕ}
          → near.Answers (first_of (one.room_tests Q (length old))) Q (interpretation_of n candidate) old r new → (r ≡ near.near_reply book layer off candidate old) × (new ≡ near.near_buffer book layer off candidate old)
      unfolding one.search_tests program_at
      neared b h {Q} a n size {r} {new} x =
          let x' : near.Answers (first_of (one.room_tests Q (length old))) Q given old r new =
          subst (λ (k : ℕ). near.Answers (first_of (one.room_tests Q (length old))) Q (interpretation_of k candidate) old r new) (size ∙ sym a.atoms_same) x in
          let y = near-laws.answers_over a given x' in
          let z = near_is (first_of (one.room_tests P (length old))) (layer_passes (near.candidate_tests P candidate (length old)) e ∙ candidate_passes b ∙ not_twelve P (one.room_tests P (length old)) h) in
          (y.reply_is ∙ z.0, y.buffer_is ∙ z.1)

  -- ---- the count
  module _ (condition : List ℕ) where
    count_is : (v : Verdict) → call_verdict (count.fit_tests P condition) ≡ v → count.reply_of v P (fits_text condition) ≡ count.count_reply book layer off condition
    unfolding count.count_reply count.count_tests
    count_is v e = ap (λ (w : Verdict). count.reply_of w P (fits_text condition)) (sym e)

    count_refused : (c : Cause) → call_verdict (count.fit_tests P condition) ≡ Err c → Err c ≡ count.count_reply book layer off condition
    unfolding count.reply_of
    count_refused c e = count_is (Err c) e

    pub count_of_layer : {c : Cause} → Err c ≡ layer_verdict → Err c ≡ count.count_reply book layer off condition
    count_of_layer {c} e = count_refused c (layer_refuses (count.fit_tests P condition) c e)

    module _ (e : Ok tt ≡ layer_verdict) where
      pub count_of_condition : {c : Cause} → first_of (condition_tests P.atoms condition) ≡ Err c → Err c ≡ count.count_reply book layer off condition
      count_of_condition {c} h = count_refused c (layer_passes (count.fit_tests P condition) e ∙ count-laws.condition_first P condition c h)

      module _ (read : first_of (condition_tests P.atoms condition) ≡ Ok tt) where
        pub count_of_twelve : has_too_many_branching P ≡ true → Err TooManyBranching ≡ count.count_reply book layer off condition
        unfolding count.search_tests
        count_of_twelve h = count_refused TooManyBranching (layer_passes (count.fit_tests P condition) e ∙ count-laws.search_last P condition read ∙ twelve P [] h)

        pub counted : has_too_many_branching P ≡ false → {Q : Program} → Alike P Q → (p : Interpretation → Bool) → ((m : Interpretation) → p m ≡ fits_text condition m) → (r : Counted) → Ok r ≡ count.reply_of (Ok tt) Q p
            → Ok r ≡ count.count_reply book layer off condition
        unfolding count.search_tests first_of
        counted h {Q} a p same r x =
            x ∙ ap (count.reply_of (Ok tt) Q) (λ i m. same m i) ∙ sym (count-laws.reply_over a (Ok tt) (fits_text condition))
            ∙ count_is (Ok tt) (layer_passes (count.fit_tests P condition) e ∙ count-laws.search_last P condition read ∙ not_twelve P [] h)
