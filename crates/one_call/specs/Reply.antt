-- Document 01: one state, which is the first of the listing (document 02, (f)). Its causes in order of test, its answer, and the buffer
-- afterwards. Assumes nothing.
use Rattle.std.specs.Prelude.{◌≡◌, List, [], ◌∷◌, ◌++◌, map, ℕ, ltb, length, take, drop, Result, Ok, Err}
use Rattle.std.specs.Result.{result_and}
use Rattle.base.specs.Lists.{flat}
use Rattle.models.specs.Program.{Program}
use Rattle.models.specs.Branching.{branching_count}
use Rattle.models.specs.Listing.{stable_models, record_size, record_of}
use Rattle.table.specs.Table.{program_of}
use Rattle.book.specs.Causes.{Test, first_of, Verdict}
use Rattle.book.specs.declared.Cause.{Cause}
use Rattle.book.specs.declared.Cause.TheVariants.{TooManyBranching, BufferTooShort, NoStableState}
use Rattle.accepted.specs.Driven.{layer_tests}
use Rattle.passes.specs.Limit.{has_too_many_branching, has_no_stable_state}

-- 13: the buffer, of so many bytes, is shorter than one record; then 14: no stable state
unfoldable pub room_tests : Program → ℕ → List Test
room_tests P room =
    record { cause = BufferTooShort; applies = ltb room (record_size P.atoms) } ∷ record { cause = NoStableState; applies = has_no_stable_state P } ∷ []

-- 12, then 13 and 14
unfoldable pub search_tests : Program → ℕ → List Test
search_tests P room = record { cause = TooManyBranching; applies = has_too_many_branching P } ∷ room_tests P room

-- the causes of the book and of the driven layer, then 12, 13 and 14
unfoldable pub one_tests : List ℕ → ℕ → ℕ → ℕ → List Test
one_tests book layer off room = layer_tests book layer off ++ search_tests (program_of book layer off) room

-- a refusal, or g
unfoldable pub reply_of : Verdict → Program → Result ℕ Cause
reply_of v P = result_and v (Ok (branching_count P))

-- a refusal leaves every byte; else the first record of the listing stands in front, and the bytes past it are untouched
unfoldable pub buffer_of : Verdict → Program → List ℕ → List ℕ
buffer_of (Err c) P old = old
buffer_of (Ok tt) P old = flat (map (record_of P.atoms) (take 1 (stable_models P))) ++ drop (record_size P.atoms) old

unfoldable pub one_reply : List ℕ → ℕ → ℕ → List ℕ → Result ℕ Cause
one_reply book layer off old = reply_of (first_of (one_tests book layer off (length old))) (program_of book layer off)

unfoldable pub one_buffer : List ℕ → ℕ → ℕ → List ℕ → List ℕ
one_buffer book layer off old = buffer_of (first_of (one_tests book layer off (length old))) (program_of book layer off) old

-- the answer and the buffer that a verdict comes to
pub record Answers (v : Verdict) (P : Program) (old : List ℕ) (r : Result ℕ Cause) (new : List ℕ) : Type 0 where
  pub reply_is : r ≡ reply_of v P
  pub buffer_is : new ≡ buffer_of v P old
