-- Document 01: the listing call. Its causes in order of test, its answer, and the buffer afterwards. Assumes nothing.
use Rattle.std.specs.Prelude.{◌≡◌, List, [], ◌∷◌, ◌++◌, ℕ, ltb, length, drop, Result, Ok, Err}
use Rattle.std.specs.Result.{result_and}
use Rattle.models.specs.Program.{Program}
use Rattle.models.specs.Branching.{branching_count}
use Rattle.models.specs.Listing.{stable_models, listing}
use Rattle.table.specs.Table.{program_of}
use Rattle.book.specs.Causes.{Test, first_of, Verdict}
use Rattle.book.specs.declared.Cause.{Cause}
use Rattle.book.specs.declared.Cause.TheVariants.{TooManyBranching, BufferTooShort}
use Rattle.accepted.specs.Driven.{layer_tests}
use Rattle.passes.specs.Limit.{has_too_many_branching}
use Rattle.list_call.specs.declared.Listed.{Listed}

-- 13: the buffer, of so many bytes, is shorter than the listing
unfoldable pub room_tests : Program → ℕ → List Test
room_tests P room = record { cause = BufferTooShort; applies = ltb room (length (listing P)) } ∷ []

-- 12, then 13
unfoldable pub search_tests : Program → ℕ → List Test
search_tests P room = record { cause = TooManyBranching; applies = has_too_many_branching P } ∷ room_tests P room

-- the causes of the book and of the driven layer, then 12 and 13
unfoldable pub list_tests : List ℕ → ℕ → ℕ → ℕ → List Test
list_tests book layer off room = layer_tests book layer off ++ search_tests (program_of book layer off) room

-- a refusal, or k and g
unfoldable pub reply_of : Verdict → Program → Result Listed Cause
reply_of v P = result_and v (Ok (record { states = length (stable_models P); branching = branching_count P }))

-- a refusal leaves every byte; else the listing stands in front, and the bytes past it are untouched
unfoldable pub buffer_of : Verdict → Program → List ℕ → List ℕ
buffer_of (Err c) P old = old
buffer_of (Ok tt) P old = listing P ++ drop (length (listing P)) old

unfoldable pub list_reply : List ℕ → ℕ → ℕ → List ℕ → Result Listed Cause
list_reply book layer off old = reply_of (first_of (list_tests book layer off (length old))) (program_of book layer off)

unfoldable pub list_buffer : List ℕ → ℕ → ℕ → List ℕ → List ℕ
list_buffer book layer off old = buffer_of (first_of (list_tests book layer off (length old))) (program_of book layer off) old

-- the answer and the buffer that a verdict comes to
pub record Answers (v : Verdict) (P : Program) (old : List ℕ) (r : Result Listed Cause) (new : List ℕ) : Type 0 where
  pub reply_is : r ≡ reply_of v P
  pub buffer_is : new ≡ buffer_of v P old
