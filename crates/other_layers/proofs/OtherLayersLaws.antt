-- Everything that a call answers or writes follows from the first of its tests that applies and from the driven layer's program. Where two
-- books agree at the layer and below it, their programs are alike, none of the tests of book and layer applies to either, and each call's
-- own tests, reply and buffer are the same over programs that are alike. Assumes nothing.
use mathlib.Core.Path.{◌≡◌, refl, ap, sym, ◌∙◌}
use mathlib.Core.List.{List, [], ◌∷◌, ◌++◌}
use Prim.Native.Nat.{ℕ}
use lib.ListN.{length}
use Rattle.format.specs.Book.{layer_count, book_of}
use Rattle.models.specs.Program.{Program, program_at}
use Rattle.models.specs.StableModels.{stable}
use Rattle.models.specs.Listing.{interpretation_of}
use Rattle.models.specs.Alike.{Alike}
use Rattle.models.proofs.AlikeAtLaws.{alike_at}
use Rattle.std.proofs.Common.{Ok}
use Rattle.book.specs.Causes.{Test, Verdict, tests, first_of, verdict}
use Rattle.book.specs.declared.Cause.TheVariants.{BadCandidate}
use Rattle.accepted.specs.Accepted.{IsAccepted}
use Rattle.accepted.specs.Driven.{driven_tests, layer_tests}
use Rattle.accepted.proofs.FirstLaws.{first_append}
use Rattle.candidate.specs.Candidate.{is_bad_candidate}
use Rattle.test_call.specs.Reply as test
use Rattle.list_call.specs.Reply as list
use Rattle.list_call.proofs.ListLaws as list-laws
use Rattle.one_call.specs.Reply as one_state
use Rattle.one_call.proofs.OneLaws as one_laws
use Rattle.near_call.specs.Reply as near
use Rattle.near_call.proofs.NearLaws as near-laws
use Rattle.place_call.specs.Reply as place
use Rattle.place_call.proofs.PlaceLaws as place-laws
use Rattle.count_call.specs.Reply as count
use Rattle.count_call.proofs.CountLaws as count-laws
use Rattle.condition.specs.Causes.{fits_text}
use Rattle.lesson.specs.Answers.{test_answer, list_answer, one_answer, place_answer, near_answer, count_answer}
use Rattle.other_layers.specs.OtherLayers.{SameLesson, OtherLayers}
use Rattle.other_layers.proofs.SameTestsLaws.{list_tests_lem, one_tests_lem, place-tests, near_tests_lem, count-tests, candidate-stable}

-- only a call's own tests are left
own-tests : (book : List ℕ) (layer off : ℕ) → IsAccepted book → first_of (driven_tests (layer_count book) layer off) ≡ Ok tt
    → (ts : List Test) → first_of (layer_tests book layer off ++ ts) ≡ first_of ts
unfolding layer_tests verdict
own-tests book layer off ok driven ts = first_append (layer_tests book layer off) ts (first_append (tests book) (driven_tests (layer_count book) layer off) ok ∙ driven)

module _ (one other : List ℕ) (layer off off' : ℕ) (s : SameLesson one other layer off off') where
  abbrev P : Program
  P = program_at (book_of one) layer off

  abbrev Q : Program
  Q = program_at (book_of other) layer off'

  programs : Alike P Q
  programs =
      alike_at (book_of one) (book_of other) layer off off' s.facts_same s.below_same s.off_same s.rules_kept s.no_more_rules s.order_same

  -- what is made from the first cause and the program, where the call's own tests are the same and so is what is made of them
  made : {A : Type 0} (make : Verdict → Program → A) → ((v : Verdict) → make v P ≡ make v Q) → (ts us : List Test) → ts ≡ us
      → make (first_of (layer_tests one layer off ++ ts)) P ≡ make (first_of (layer_tests other layer off' ++ us)) Q
  made make same ts us e =
      ap (λ (v : Verdict). make v P)
      (own-tests one layer off s.accepted s.driven ts ∙ ap first_of e ∙ sym (own-tests other layer off' s.other_accepted s.other_driven us))
      ∙ same (first_of (layer_tests other layer off' ++ us))

  same_test : (candidate : List ℕ) → test.test_reply one layer off candidate ≡ test.test_reply other layer off' candidate
  unfolding test.test_reply test.test_tests program_at
  same_test candidate =
      made (λ v R. test.reply_of v (stable R (interpretation_of R.atoms candidate)))
      (λ v. ap (test.reply_of v) (candidate-stable programs (book_of one).atoms (book_of other).atoms refl s.facts_same candidate)) _ _
      (ap (λ (n : ℕ). record { cause = BadCandidate; applies = is_bad_candidate n candidate } ∷ []) s.facts_same)

  same-listing : (old : List ℕ) → list.list_reply one layer off old ≡ list.list_reply other layer off' old
  unfolding list.list_reply list.list_tests
  same-listing old = made list.reply_of (list-laws.reply_same programs) _ _ (list_tests_lem programs (length old))

  same-listed : (old : List ℕ) → list.list_buffer one layer off old ≡ list.list_buffer other layer off' old
  unfolding list.list_buffer list.list_tests
  same-listed old = made (λ v R. list.buffer_of v R old) (λ v. list-laws.buffer-same programs v old) _ _ (list_tests_lem programs (length old))

  same_one : (old : List ℕ) → one_state.one_reply one layer off old ≡ one_state.one_reply other layer off' old
  unfolding one_state.one_reply one_state.one_tests
  same_one old = made one_state.reply_of (one_laws.reply_same programs) _ _ (one_tests_lem programs (length old))

  same-written : (old : List ℕ) → one_state.one_buffer one layer off old ≡ one_state.one_buffer other layer off' old
  unfolding one_state.one_buffer one_state.one_tests
  same-written old = made (λ v R. one_state.buffer_of v R old) (λ v. one_laws.buffer-same programs v old) _ _ (one_tests_lem programs (length old))

  same_place : (fact : ℕ) → place.place_reply one layer off fact ≡ place.place_reply other layer off' fact
  unfolding place.place_reply place.place_tests
  same_place fact = made (λ v R. place.reply_of v R fact) (place-laws.reply_same programs fact) _ _ (place-tests programs fact)

  same_count : (condition : List ℕ) → count.count_reply one layer off condition ≡ count.count_reply other layer off' condition
  unfolding count.count_reply count.count_tests
  same_count condition =
      made (λ v R. count.reply_of v R (fits_text condition)) (λ v. count-laws.reply_over programs v (fits_text condition)) _ _ (count-tests programs condition)

  same_near : (candidate old : List ℕ) → near.near_reply one layer off candidate old ≡ near.near_reply other layer off' candidate old
  unfolding near.near_reply near.near_tests program_at
  same_near candidate old =
      made (λ v R. near.reply_of v R (interpretation_of R.atoms candidate))
      (λ v. near-laws.reply_same programs v (interpretation_of (book_of one).atoms candidate) ∙ ap (λ (n : ℕ). near.reply_of v Q (interpretation_of n candidate)) s.facts_same) _ _
      (near_tests_lem programs candidate (length old))

  same_neared : (candidate old : List ℕ) → near.near_buffer one layer off candidate old ≡ near.near_buffer other layer off' candidate old
  unfolding near.near_buffer near.near_tests program_at
  same_neared candidate old =
      made (λ v R. near.buffer_of v R (interpretation_of R.atoms candidate) old)
      (λ v. near-laws.buffer-same programs v (interpretation_of (book_of one).atoms candidate) old ∙ ap (λ (n : ℕ). near.buffer_of v Q (interpretation_of n candidate) old) s.facts_same) _ _
      (near_tests_lem programs candidate (length old))

pub other-layers : OtherLayers
other-layers one other layer off off' s = record {
  test_answer_lem = λ candidate. ap test_answer (same_test one other layer off off' s candidate);
  list_answer_lem = λ buffer. ap list_answer (same-listing one other layer off off' s buffer);
  list_bytes = same-listed one other layer off off' s;
  one_answer_lem = λ buffer. ap one_answer (same_one one other layer off off' s buffer);
  one_bytes = same-written one other layer off off' s;
  place_answer_lem = λ fact. ap place_answer (same_place one other layer off off' s fact);
  count_answer_lem = λ condition. ap count_answer (same_count one other layer off off' s condition);
  near_answer_lem = λ candidate buffer. ap near_answer (same_near one other layer off off' s candidate buffer);
  near_bytes = same_neared one other layer off off' s;
}
