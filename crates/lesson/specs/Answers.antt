-- What the C host reads: how each call's answer becomes one 64-bit number. The low byte is 0 where the call is granted, and
-- else the cause's number with every other bit 0; the bits above the low byte carry what the answer carries. Assumes nothing.
use Rattle.std.specs.Prelude.{ℕ, ◌+◌, ◌*◌, ◌^◌, ◌≤◌, Bool, true, false, Result, Ok, Err}
use Rattle.std.specs.Result.{ForOk}
use Rattle.base.specs.Bounds.{max_atoms, max_branching}
use Rattle.book.specs.Causes.{Verdict}
use Rattle.book.specs.Numbers.{number_of}
use Rattle.book.specs.declared.Cause.{Cause}
use Rattle.list_call.specs.declared.Listed.{Listed}
use Rattle.near_call.specs.declared.Nearest.{Nearest}
use Rattle.place_call.specs.declared.Place.{Place}
use Rattle.place_call.specs.declared.Place.TheVariants.{Every, InSome, Nowhere}
use Rattle.place_call.specs.declared.Placed.{Placed}
use Rattle.count_call.specs.declared.Counted.{Counted}

-- what a granted call tells, as a number, or the cause's number
abbrev pub answer_by : {A : Type 0} → (A → ℕ) → Result A Cause → ℕ
answer_by bits (Ok told) = bits told
answer_by bits (Err c) = number_of c

-- lesson_check: accepted carries nothing
abbrev pub check_answer : Verdict → ℕ
check_answer v = answer_by (λ accepted. 0) v

-- lesson_test: bit 16 is 1 for yes and 0 for no
abbrev pub yes_bits : Bool → ℕ
yes_bits true = 65536
yes_bits false = 0

abbrev pub test_answer : Result Bool Cause → ℕ
test_answer r = answer_by yes_bits r

-- lesson_list: g in bits 8 to 15, k from bit 16 on
abbrev pub list_answer : Result Listed Cause → ℕ
list_answer r = answer_by (λ l. l.states * 65536 + l.branching * 256) r

-- lesson_one: g in bits 8 to 15
abbrev pub one_answer : Result ℕ Cause → ℕ
one_answer r = answer_by (λ g. g * 256) r

-- lesson_place: g in bits 8 to 15; bits 16 and 17 are 0 for none, 1 for some and 2 for every
abbrev pub place_bits : Place → ℕ
place_bits Nowhere = 0
place_bits InSome = 65536
place_bits Every = 131072

abbrev pub place_answer : Result Placed Cause → ℕ
place_answer r = answer_by (λ p. place_bits p.place + p.branching * 256) r

-- lesson_nearest: g in bits 8 to 15, the number of facts that differ from bit 16 on
abbrev pub near_answer : Result Nearest Cause → ℕ
near_answer r = answer_by (λ n. n.distance * 65536 + n.branching * 256) r

-- lesson_count: g in bits 8 to 15, k in bits 16 to 39, the count from bit 40 on
abbrev pub count_answer : Result Counted Cause → ℕ
count_answer r = answer_by (λ k. k.fitting * 1099511627776 + k.states * 65536 + k.branching * 256) r

-- k and g keep to their bits; proofs/AnswerLaws.antt proves it of every reply that a call gives
abbrev pub ListFits : Result Listed Cause → Type 0
ListFits r = ForOk r (λ l. (l.states ≤ 2 ^ max_branching) × (l.branching ≤ max_branching))

abbrev pub OneFits : Result ℕ Cause → Type 0
OneFits r = ForOk r (λ g. g ≤ max_branching)

abbrev pub PlaceFits : Result Placed Cause → Type 0
PlaceFits r = ForOk r (λ p. p.branching ≤ max_branching)

abbrev pub NearFits : Result Nearest Cause → Type 0
NearFits r = ForOk r (λ n. (n.distance ≤ max_atoms) × (n.branching ≤ max_branching))

abbrev pub CountFits : Result Counted Cause → Type 0
CountFits r = ForOk r (λ k. (k.states ≤ 2 ^ max_branching) × (k.branching ≤ max_branching) × (k.fitting ≤ k.states))
