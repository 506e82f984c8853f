-- Document 01's starred classroom examples, of the call itself: the table of crates/models/specs/Examples.antt says what the call
-- answers with nothing switched off and which bytes it leaves, in every buffer that has room. proofs/ExampleLaws.antt proves it.
-- Assumes nothing.
use Rattle.std.specs.Prelude.{◌≡◌, ℕ, ◌≤◌, length, drop, Ok}
use mathlib.Core.List.{List, ◌++◌, Memᴰ}
use Rattle.format.specs.Book.{u32_at}
use Rattle.models.specs.Examples.{Example, table}
use Rattle.book.specs.Causes.{verdict}
use Rattle.list_call.specs.Reply.{list_reply, list_buffer}

-- the k of an example, as the head of its listing has it
abbrev pub state_count : Example → ℕ
state_count e = u32_at e.written 7

-- The book is accepted, and a call with a buffer that holds the listing is granted: its answer carries the example's k and g, the
-- example's bytes stand in front, and the bytes past them are as they were.
pub record ExampleAnswered (e : Example) : Type 0 where
  pub accepted : verdict e.book ≡ Ok tt
  pub answer : (buffer : List ℕ) → length e.written ≤ length buffer → list_reply e.book e.layer 0 buffer ≡ Ok (record { states = state_count e; branching = e.branches })
  pub bytes : (buffer : List ℕ) → length e.written ≤ length buffer → list_buffer e.book e.layer 0 buffer ≡ e.written ++ drop (length e.written) buffer

abbrev pub ExamplesAnswered : Type 0
ExamplesAnswered = (e : Example) → Memᴰ e table → ExampleAnswered e
