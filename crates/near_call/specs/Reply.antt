-- Document 02, (j): the stable state closest to a candidate. Its causes in order of test, its answer, and the buffer afterwards. Assumes
-- nothing.
use Rattle.std.specs.Prelude.{◌≡◌, List, [], ◌∷◌, ◌++◌, map, ℕ, length, get_or, take, drop, Result, Ok, Err}
use Rattle.std.specs.Result.{result_and}
use Rattle.base.specs.Lists.{flat}
use Rattle.format.specs.Book.{book_of}
use Rattle.models.specs.Program.{Program}
use Rattle.models.specs.StableModels.{Interpretation}
use Rattle.models.specs.Branching.{branching_count}
use Rattle.models.specs.Listing.{stable_models, record_size, record_of, interpretation_of}
use Rattle.table.specs.Table.{program_of}
use Rattle.book.specs.Causes.{Test, first_of, Verdict}
use Rattle.book.specs.declared.Cause.{Cause}
use Rattle.book.specs.declared.Cause.TheVariants.{BadCandidate}
use Rattle.accepted.specs.Driven.{layer_tests}
use Rattle.candidate.specs.Candidate.{is_bad_candidate}
use Rattle.first.specs.Nearest.{distance, closest}
use Rattle.one_call.specs.Reply.{search_tests}
use Rattle.near_call.specs.declared.Nearest.{Nearest}

-- 10; then, as for one state, 12, 13 and 14
unfoldable pub candidate_tests : Program → List ℕ → ℕ → List Test
candidate_tests P candidate room = record { cause = BadCandidate; applies = is_bad_candidate P.atoms candidate } ∷ search_tests P room

-- the causes of the book and of the driven layer, then 10, 12, 13 and 14
unfoldable pub near_tests : List ℕ → ℕ → ℕ → List ℕ → ℕ → List Test
near_tests book layer off candidate room = layer_tests book layer off ++ candidate_tests (program_of book layer off) candidate room

-- Document 02: "the stable state that differs from the candidate in the fewest facts", and "among equals it is the first of the listing".
-- There is none where no state is stable.
unfoldable pub nearest : Program → Interpretation → List Interpretation
nearest P c = take 1 (closest P.atoms c (stable_models P))

-- how many facts differ in a state and in the one closest to it
unfoldable pub least_distance : Program → Interpretation → ℕ
least_distance P c = distance P.atoms c (get_or (nearest P c) 0 [])

-- a refusal, or how many facts differ, and g
unfoldable pub reply_of : Verdict → Program → Interpretation → Result Nearest Cause
reply_of v P c = result_and v (Ok (record { distance = least_distance P c; branching = branching_count P }))

-- a refusal leaves every byte; else the closest state's record stands in front, and the bytes past it are untouched
unfoldable pub buffer_of : Verdict → Program → Interpretation → List ℕ → List ℕ
buffer_of (Err cause) P c old = old
buffer_of (Ok tt) P c old = flat (map (record_of P.atoms) (nearest P c)) ++ drop (record_size P.atoms) old

unfoldable pub near_reply : List ℕ → ℕ → ℕ → List ℕ → List ℕ → Result Nearest Cause
near_reply book layer off candidate old =
    reply_of (first_of (near_tests book layer off candidate (length old))) (program_of book layer off) (interpretation_of (book_of book).atoms candidate)

unfoldable pub near_buffer : List ℕ → ℕ → ℕ → List ℕ → List ℕ → List ℕ
near_buffer book layer off candidate old =
    buffer_of (first_of (near_tests book layer off candidate (length old))) (program_of book layer off) (interpretation_of (book_of book).atoms candidate) old

-- the answer and the buffer that a verdict comes to
pub record Answers (v : Verdict) (P : Program) (c : Interpretation) (old : List ℕ) (r : Result Nearest Cause) (new : List ℕ) : Type 0 where
  pub reply_is : r ≡ reply_of v P c
  pub buffer_is : new ≡ buffer_of v P c old
