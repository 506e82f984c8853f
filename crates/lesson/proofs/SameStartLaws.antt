-- The bytes of one state are the record of the first stable model, which is the listing's record 0. Assumes nothing.
use mathlib.Core.Path.{◌≡◌, sym, ap, ◌∙◌}
use mathlib.Core.Bool.{true, false≢true}
use mathlib.Core.List.{List, []}
use Prim.Native.Nat.{ℕ, ◌+◌, ◌*◌}
use native.Mathlib.Omega.{arith}
use lib.ListN.{get_or, take, drop}
use lib.Seq.{take_at, drop_at}
use Rattle.format.specs.Book.{book_of}
use Rattle.models.specs.Program.{Program, program_at}
use Rattle.models.specs.Listing.{stable_models, record_size, record_of}
use Rattle.models.proofs.RecordLaws.{record_length}
use Rattle.list_call.specs.Condition3.{Call, after}
use Rattle.list_call.proofs.Condition3Laws.{record_listed}
use Rattle.one_call.specs.Reply.{one_reply, one_buffer}
use Rattle.std.proofs.Common.{Result, Ok, Err}
use Rattle.book.specs.declared.Cause.{Cause}
use Rattle.one_call.proofs.OneLaws.{granted-some, granted_bytes}
use Rattle.lesson.specs.Answers.{one_answer}
use Rattle.lesson.specs.Host.{lesson_granted, lesson_state_count, Reading, read_by, one_told, states_read, branching_read}
use Rattle.lesson.specs.SameStart.{OneGranted, ListGranted, state_written, first_listed, SameStart}
use Rattle.lesson.proofs.HostLaws.{answers_read, granted_call}

-- a number that says granted is that of a state that was written
granted_one : (r : Result ℕ Cause) → read_by lesson_state_count (one_answer r) ≡ one_told r → lesson_granted (one_answer r) ≡ true → (g : ℕ) × (r ≡ Ok g)
granted_one (Ok g) e t = (g, λ i. Ok g)
granted_one (Err c) e t = absurd (false≢true (sym (ap (λ (x : Reading ℕ). x.granted) e) ∙ t))

module _ (book : List ℕ) (layer off : ℕ) where
  abbrev P : Program
  P = program_at (book_of book) layer off

  abbrev n : ℕ
  n = (book_of book).atoms

  -- the record of the first stable model
  abbrev first : List ℕ
  first = record_of n (get_or (stable_models P) 0 [])

  module _ (buffer : List ℕ) (t : OneGranted book layer off buffer) where
    granted : (g : ℕ) × (one_reply book layer off buffer ≡ Ok g)
    granted = granted_one (one_reply book layer off buffer) (answers_read.lesson_one.reads (record { book = book; layer = layer; off = off; candidate = []; buffer = buffer; fact = 0; condition = [] })) t

    written : state_written book layer off buffer ≡ first
    written = ap (take (record_size n)) (granted_bytes book layer off buffer granted.0 granted.1) ∙ take_at first (drop (record_size n) buffer) (record_size n) (record_length n (get_or (stable_models P) 0 []))

    kept : drop (record_size n) (one_buffer book layer off buffer) ≡ drop (record_size n) buffer
    kept = ap (drop (record_size n)) (granted_bytes book layer off buffer granted.0 granted.1) ∙ drop_at first (drop (record_size n) buffer) (record_size n) (record_length n (get_or (stable_models P) 0 []))

    listed : (list : List ℕ) → ListGranted book layer off list → first_listed book layer off list ≡ first
    listed list u =
        let c : Call = record { book = book; layer = layer; off = off; buffer = list } in
        let z : 11 + 0 * record_size n ≡ 11 = omega arith in
        sym (ap (λ (k : ℕ). take (record_size n) (drop k (after c))) z)
        ∙ record_listed c (states_read c) (branching_read c) (granted_call c u) 0 (granted-some book layer off buffer granted.0 granted.1)

  pub same_start : SameStart book layer off
  same_start = record {
    first_listed_lem = λ one list t u. written one t ∙ sym (listed one t list u);
    same_state = λ one other t u. written one t ∙ sym (written other u);
    rest_kept = λ one t. kept one t;
  }
