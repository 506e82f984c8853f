-- Document 02, (h): with the set 0 every answer and every byte is what document 01 gives. For each call that takes a set: its answer and
-- its buffer are made from document 01's causes (`whole_tests`, then the call's own) and document 01's program (`whole_program`), in which
-- no layer can be switched off. proofs/SwitchedOffLaws.antt proves it. Assumes nothing.
use Rattle.std.specs.Prelude.{◌≡◌, List, [], ◌∷◌, ◌++◌, ℕ, length}
use Rattle.format.specs.Book.{book_of}
use Rattle.models.specs.Program.{Program}
use Rattle.models.specs.StableModels.{stable}
use Rattle.models.specs.Listing.{interpretation_of}
use Rattle.models.specs.SwitchedOff.{whole_program}
use Rattle.book.specs.Causes.{Verdict, first_of}
use Rattle.book.specs.declared.Cause.TheVariants.{BadCandidate}
use Rattle.accepted.specs.SwitchedOff.{whole_tests}
use Rattle.candidate.specs.Candidate.{is_bad_candidate}
use Rattle.test_call.specs.Reply as test
use Rattle.list_call.specs.Reply as list
use Rattle.one_call.specs.Reply as one
use Rattle.near_call.specs.Reply as near
use Rattle.place_call.specs.Reply as place
use Rattle.count_call.specs.Reply as count
use Rattle.condition.specs.Causes.{fits_text}

module _ (book : List ℕ) (layer : ℕ) where
  -- document 01's program at the driven layer
  abbrev pub whole : Program
  whole = whole_program (book_of book) layer

  -- and, by call, the verdict over document 01's causes
  abbrev pub test_verdict : List ℕ → Verdict
  test_verdict candidate = first_of (whole_tests book layer ++ (record { cause = BadCandidate; applies = is_bad_candidate (book_of book).atoms candidate } ∷ []))

  abbrev pub list_verdict : List ℕ → Verdict
  list_verdict old = first_of (whole_tests book layer ++ list.search_tests whole (length old))

  abbrev pub one_verdict : List ℕ → Verdict
  one_verdict old = first_of (whole_tests book layer ++ one.search_tests whole (length old))

  abbrev pub place_verdict : ℕ → Verdict
  place_verdict fact = first_of (whole_tests book layer ++ place.fact_tests whole fact)

  abbrev pub near_verdict : List ℕ → List ℕ → Verdict
  near_verdict candidate old = first_of (whole_tests book layer ++ near.candidate_tests whole candidate (length old))

  abbrev pub count_verdict : List ℕ → Verdict
  count_verdict condition = first_of (whole_tests book layer ++ count.fit_tests whole condition)

  pub record NothingOff : Type 0 where
    pub test_reply_lem : (candidate : List ℕ)
        → test.test_reply book layer 0 candidate ≡ test.reply_of (test_verdict candidate) (stable whole (interpretation_of (book_of book).atoms candidate))
    pub list_reply_lem : (old : List ℕ) → list.list_reply book layer 0 old ≡ list.reply_of (list_verdict old) whole
    pub list_bytes : (old : List ℕ) → list.list_buffer book layer 0 old ≡ list.buffer_of (list_verdict old) whole old
    pub one_reply_lem : (old : List ℕ) → one.one_reply book layer 0 old ≡ one.reply_of (one_verdict old) whole
    pub one_bytes : (old : List ℕ) → one.one_buffer book layer 0 old ≡ one.buffer_of (one_verdict old) whole old
    pub place_reply_lem : (fact : ℕ) → place.place_reply book layer 0 fact ≡ place.reply_of (place_verdict fact) whole fact
    pub near_reply_lem : (candidate old : List ℕ)
        → near.near_reply book layer 0 candidate old ≡ near.reply_of (near_verdict candidate old) whole (interpretation_of (book_of book).atoms candidate)
    pub near_bytes : (candidate old : List ℕ)
        → near.near_buffer book layer 0 candidate old ≡ near.buffer_of (near_verdict candidate old) whole (interpretation_of (book_of book).atoms candidate) old
    pub count_reply_lem : (condition : List ℕ) → count.count_reply book layer 0 condition ≡ count.reply_of (count_verdict condition) whole (fits_text condition)
