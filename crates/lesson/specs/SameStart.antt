-- Document 02, (f): "Every cabinet should start from the same state. The one state handed out is to be the first of the listing." For a
-- book, a driven layer and a set of layers that are switched off; proofs/SameStartLaws.antt proves it. Assumes nothing.
use Rattle.std.specs.Prelude.{◌≡◌, true, List, ℕ, take, drop}
use Rattle.format.specs.Book.{book_of}
use Rattle.models.specs.Listing.{record_size}
use Rattle.list_call.specs.Reply.{list_reply, list_buffer}
use Rattle.one_call.specs.Reply.{one_reply, one_buffer}
use Rattle.lesson.specs.Answers.{list_answer, one_answer}
use Rattle.lesson.specs.Host.{lesson_granted}

module _ (book : List ℕ) (layer off : ℕ) where
  -- lesson_list, or lesson_one, is granted with this buffer
  abbrev pub ListGranted : List ℕ → Type 0
  ListGranted buffer = lesson_granted (list_answer (list_reply book layer off buffer)) ≡ true

  abbrev pub OneGranted : List ℕ → Type 0
  OneGranted buffer = lesson_granted (one_answer (one_reply book layer off buffer)) ≡ true

  -- the bytes of a record
  abbrev pub width : ℕ
  width = record_size (book_of book).atoms

  -- the bytes that lesson_one writes
  abbrev pub state_written : List ℕ → List ℕ
  state_written buffer = take width (one_buffer book layer off buffer)

  -- the first record of what lesson_list writes, behind the 11 bytes of the head
  abbrev pub first_listed : List ℕ → List ℕ
  first_listed buffer = take width (drop 11 (list_buffer book layer off buffer))

  pub record SameStart : Type 0 where
    -- where both calls are granted, lesson_one writes the first record of what lesson_list writes
    pub first_listed_lem : (one list : List ℕ) → OneGranted one → ListGranted list → state_written one ≡ first_listed list
    -- so every cabinet starts from the same state, whatever bytes its buffer had
    pub same_state : (one other : List ℕ) → OneGranted one → OneGranted other → state_written one ≡ state_written other
    -- and the bytes past the record are as they were
    pub rest_kept : (one : List ℕ) → OneGranted one → drop width (one_buffer book layer off one) ≡ drop width one
