-- Each call's answer and buffer are made from the first cause that applies and from the program, so that the law of crates/accepted says
-- that with the set 0 they are document 01's. Assumes nothing.
use mathlib.Core.List.{List, [], ◌∷◌}
use Prim.Native.Nat.{ℕ}
use lib.ListN.{length}
use Rattle.format.specs.Book.{book_of}
use Rattle.models.specs.StableModels.{stable}
use Rattle.models.specs.Listing.{interpretation_of}
use Rattle.book.specs.declared.Cause.TheVariants.{BadCandidate}
use Rattle.accepted.proofs.SwitchedOffLaws.{answers_none}
use Rattle.candidate.specs.Candidate.{is_bad_candidate}
use Rattle.test_call.specs.Reply as test
use Rattle.std.proofs.Common.{Bool, Result}
use Rattle.book.specs.declared.Cause.{Cause}
use Rattle.list_call.specs.Reply as list
use Rattle.list_call.specs.declared.Listed.{Listed}
use Rattle.one_call.specs.Reply as one
use Rattle.near_call.specs.Reply as near
use Rattle.near_call.specs.declared.Nearest.{Nearest}
use Rattle.place_call.specs.Reply as place
use Rattle.count_call.specs.Reply as count
use Rattle.count_call.specs.declared.Counted.{Counted}
use Rattle.condition.specs.Causes.{fits_text}
use Rattle.place_call.specs.declared.Placed.{Placed}
use Rattle.lesson.specs.SwitchedOff.{NothingOff}

module _ (book : List ℕ) (layer : ℕ) where
  pub nothing-off : NothingOff book layer
  unfolding test.test_reply test.test_tests list.list_reply list.list_buffer list.list_tests one.one_reply one.one_buffer one.one_tests place.place_reply place.place_tests near.near_reply near.near_buffer near.near_tests count.count_reply count.count_tests
  nothing-off = record {
    test_reply_lem = λ candidate.
        answers_none (Result Bool Cause) (λ P. record { cause = BadCandidate; applies = is_bad_candidate (book_of book).atoms candidate } ∷ [])
        (λ v P. test.reply_of v (stable P (interpretation_of (book_of book).atoms candidate))) book layer;
    list_reply_lem = λ old. answers_none (Result Listed Cause) (λ P. list.search_tests P (length old)) list.reply_of book layer;
    list_bytes = λ old. answers_none (List ℕ) (λ P. list.search_tests P (length old)) (λ v P. list.buffer_of v P old) book layer;
    one_reply_lem = λ old. answers_none (Result ℕ Cause) (λ P. one.search_tests P (length old)) one.reply_of book layer;
    one_bytes = λ old. answers_none (List ℕ) (λ P. one.search_tests P (length old)) (λ v P. one.buffer_of v P old) book layer;
    place_reply_lem = λ fact. answers_none (Result Placed Cause) (λ P. place.fact_tests P fact) (λ v P. place.reply_of v P fact) book layer;
    near_reply_lem = λ candidate old.
        answers_none (Result Nearest Cause) (λ P. near.candidate_tests P candidate (length old)) (λ v P. near.reply_of v P (interpretation_of (book_of book).atoms candidate)) book layer;
    near_bytes = λ candidate old.
        answers_none (List ℕ) (λ P. near.candidate_tests P candidate (length old)) (λ v P. near.buffer_of v P (interpretation_of (book_of book).atoms candidate) old) book layer;
    count_reply_lem = λ condition. answers_none (Result Counted Cause) (λ P. count.fit_tests P condition) (λ v P. count.reply_of v P (fits_text condition)) book layer;
  }
