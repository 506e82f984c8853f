-- Document 01: testing a candidate. Its causes in order of test, and its answer. Assumes nothing.
use Rattle.std.specs.Prelude.{◌≡◌, ◌↔◌, Bool, true, false, ℕ, Result, Ok}
use Rattle.std.specs.Result.{result_and}
use mathlib.Core.List.{List, [], ◌∷◌, ◌++◌, Memᴰ}
use Rattle.format.specs.Book.{book_of}
use Rattle.models.specs.StableModels.{stable, StableModel}
use Rattle.models.specs.Listing.{interpretation_of}
use Rattle.table.specs.Table.{program_of}
use Rattle.book.specs.Causes.{Test, first_of, Verdict}
use Rattle.book.specs.declared.Cause.{Cause}
use Rattle.book.specs.declared.Cause.TheVariants.{BadCandidate}
use Rattle.accepted.specs.Driven.{layer_tests}
use Rattle.candidate.specs.Candidate.{is_bad_candidate}

-- the causes of the book and of the driven layer, then 10
unfoldable pub test_tests : List ℕ → ℕ → ℕ → List ℕ → List Test
test_tests book layer off candidate =
    layer_tests book layer off ++ (record { cause = BadCandidate; applies = is_bad_candidate (book_of book).atoms candidate } ∷ [])

-- a refusal, or yes or no
unfoldable pub reply_of : Verdict → Bool → Result Bool Cause
reply_of v isStable = result_and v (Ok isStable)

-- the first cause that applies; where none does, whether the state that the candidate gives is stable at the layer
unfoldable pub test_reply : List ℕ → ℕ → ℕ → List ℕ → Result Bool Cause
test_reply book layer off candidate =
    reply_of (first_of (test_tests book layer off candidate)) (stable (program_of book layer off) (interpretation_of (book_of book).atoms candidate))

-- The statements that condition 2 rests on; `yes_exactly` and `no_exactly` of proofs/ReplyLaws.antt prove them for all bytes.
module _ (book : List ℕ) (layer off : ℕ) (candidate : List ℕ) where
  -- none of causes 1 to 10 and 19 applies
  abbrev pub NoCause : Type 0
  NoCause = (t : Test) → Memᴰ t (test_tests book layer off candidate) → t.applies ≡ false

  -- the state that the candidate gives is a stable model at the layer, by the inductive definition
  abbrev pub CandidateStable : Type 0
  CandidateStable = StableModel (program_of book layer off) (interpretation_of (book_of book).atoms candidate)

  abbrev pub YesExactly : Type 0
  YesExactly = (test_reply book layer off candidate ≡ Ok true) ↔ (NoCause × CandidateStable)

  abbrev pub NoExactly : Type 0
  NoExactly = (test_reply book layer off candidate ≡ Ok false) ↔ (NoCause × (CandidateStable → ⊥))
