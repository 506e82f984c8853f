-- Document 02, (n): "Editing other layers must not move a lesson." Two books that agree at the driven layer and below it get the same answers
-- and leave the same bytes, whatever their other layers hold; document 004 has it for weighted graphs as its Proposition 1. What the books
-- have to agree in is `SameLesson`, with document 02's words beside each field; what then is the same is `SameAnswers`, over the numbers and
-- the bytes that the contracts of crates/lesson/src/lib.rt promise. proofs/OtherLayersLaws.antt proves `OtherLayers`. Assumes nothing.
use Rattle.std.specs.Prelude.{◌≡◌, ℕ, Ok}
use mathlib.Core.List.{List, Memᴰ}
use Rattle.layers.specs.Layers.{below}
use Rattle.format.specs.Book.{Rule, layer_count, book_of}
use Rattle.models.specs.Program.{in_set, AtOrBelow}
use Rattle.models.specs.Alike.{HasRule}
use Rattle.book.specs.Causes.{first_of}
use Rattle.accepted.specs.Accepted.{IsAccepted}
use Rattle.accepted.specs.Driven.{driven_tests}
use Rattle.test_call.specs.Reply.{test_reply}
use Rattle.list_call.specs.Reply.{list_reply, list_buffer}
use Rattle.one_call.specs.Reply.{one_reply, one_buffer}
use Rattle.near_call.specs.Reply.{near_reply, near_buffer}
use Rattle.place_call.specs.Reply.{place_reply}
use Rattle.count_call.specs.Reply.{count_reply}
use Rattle.lesson.specs.Answers.{test_answer, list_answer, one_answer, place_answer, near_answer, count_answer}

-- two calls: a book and a set of layers switched off each, and the driven layer of both
module _ (one other : List ℕ) (layer off off' : ℕ) where
  pub record SameLesson : Type 0 where
    -- "two accepted books"
    pub accepted : IsAccepted one
    pub other_accepted : IsAccepted other
    -- "with equal n"
    pub facts_same : (book_of one).atoms ≡ (book_of other).atoms
    -- "neither meeting 9 or 19"
    pub driven : first_of (driven_tests (layer_count one) layer off) ≡ Ok tt
    pub other_driven : first_of (driven_tests (layer_count other) layer off') ≡ Ok tt
    -- "the same driven layer with the same layers below it"
    pub below_same : (i : ℕ) → below (book_of one).arrows i layer ≡ below (book_of other).arrows i layer
    -- "the same set of layers switched off among those at or below it"
    pub off_same : (i : ℕ) → AtOrBelow (book_of one) layer i → in_set off i ≡ in_set off' i
    -- "the same rules in the driven layer and in the layers below it", constraints among them: each of the one book is in the other, and
    -- the other way round. The order and the repetition of rules, and of the literals of a body, play no part.
    pub rules_kept : (r : Rule) → Memᴰ r (book_of one).rules → AtOrBelow (book_of one) layer r.layer → HasRule (book_of other).rules r
    pub no_more_rules : (r : Rule) → Memᴰ r (book_of other).rules → AtOrBelow (book_of other) layer r.layer → HasRule (book_of one).rules r
    -- "and the same layers below each other among them"
    pub order_same : (i j : ℕ) → AtOrBelow (book_of one) layer i → AtOrBelow (book_of one) layer j
        → below (book_of one).arrows i j ≡ below (book_of other).arrows i j

  -- "alike in every answer and every written byte", "given the same other inputs". An answer is the host's number, so that "the later
  -- refusals are included"; bytes are those of the whole lent buffer.
  pub record SameAnswers : Type 0 where
    -- "candidate test"
    pub test_answer_lem : (candidate : List ℕ) → test_answer (test_reply one layer off candidate) ≡ test_answer (test_reply other layer off' candidate)
    -- "listing"
    pub list_answer_lem : (buffer : List ℕ) → list_answer (list_reply one layer off buffer) ≡ list_answer (list_reply other layer off' buffer)
    pub list_bytes : (buffer : List ℕ) → list_buffer one layer off buffer ≡ list_buffer other layer off' buffer
    -- "one state"
    pub one_answer_lem : (buffer : List ℕ) → one_answer (one_reply one layer off buffer) ≡ one_answer (one_reply other layer off' buffer)
    pub one_bytes : (buffer : List ℕ) → one_buffer one layer off buffer ≡ one_buffer other layer off' buffer
    -- "fact's place"
    pub place_answer_lem : (fact : ℕ) → place_answer (place_reply one layer off fact) ≡ place_answer (place_reply other layer off' fact)
    -- "condition"
    pub count_answer_lem : (condition : List ℕ) → count_answer (count_reply one layer off condition) ≡ count_answer (count_reply other layer off' condition)
    -- "nearest state"
    pub near_answer_lem : (candidate buffer : List ℕ)
        → near_answer (near_reply one layer off candidate buffer) ≡ near_answer (near_reply other layer off' candidate buffer)
    pub near_bytes : (candidate buffer : List ℕ) → near_buffer one layer off candidate buffer ≡ near_buffer other layer off' candidate buffer

abbrev pub OtherLayers : Type 0
OtherLayers = (one other : List ℕ) (layer off off' : ℕ) → SameLesson one other layer off off' → SameAnswers one other layer off off'
