-- The host's number: what a C host reads from an answer by the functions of include/lesson.h, and what is promised of it for every
-- input of every call. proofs/HostLaws.antt proves it. Assumes nothing.
use Rattle.std.specs.Prelude.{◌≡◌, ◌↔◌, Bool, true, false, not, List, ℕ, ◌/◌, ◌%◌, eqb, Result, Ok, Err}
use Rattle.book.specs.Causes.{Verdict, verdict}
use Rattle.book.specs.Numbers.{number_of}
use Rattle.book.specs.declared.Cause.{Cause}
use Rattle.list_call.specs.Condition3.{Call, listed, SameModels, Lists}
use Rattle.list_call.specs.Reply.{list_reply}
use Rattle.list_call.specs.declared.Listed.{Listed}
use Rattle.one_call.specs.Reply.{one_reply}
use Rattle.near_call.specs.Reply.{near_reply}
use Rattle.near_call.specs.declared.Nearest.{Nearest}
use Rattle.place_call.specs.Reply.{place_reply}
use Rattle.place_call.specs.declared.Place.{Place}
use Rattle.place_call.specs.declared.Place.TheVariants.{Every, InSome, Nowhere}
use Rattle.place_call.specs.declared.Placed.{Placed}
use Rattle.count_call.specs.Reply.{count_reply}
use Rattle.count_call.specs.declared.Counted.{Counted}
use Rattle.test_call.specs.Reply.{test_reply}
use Rattle.lesson.specs.Answers.{check_answer, test_answer, list_answer, one_answer, place_answer, near_answer, count_answer}

-- ---- the functions of include/lesson.h, each behind its C. Of a number below 2^64, x >> 8 is x / 256, x & 0xFF is x % 256, and
-- (uint32_t)x is x % 4294967296.

-- answer & 0xFF
abbrev pub lesson_cause : ℕ → ℕ
lesson_cause answer = answer % 256

-- (answer & 0xFF) == 0
abbrev pub lesson_granted : ℕ → Bool
lesson_granted answer = eqb (answer % 256) 0

-- (answer >> 16 & 1) != 0
abbrev pub lesson_is_stable : ℕ → Bool
lesson_is_stable answer = not (eqb (answer / 65536 % 2) 0)

-- (uint32_t)(answer >> 8 & 0xFF)
abbrev pub lesson_branching_count : ℕ → ℕ
lesson_branching_count answer = answer / 256 % 256 % 4294967296

-- (uint32_t)(answer >> 16 & 0xFFFFFF)
abbrev pub lesson_state_count : ℕ → ℕ
lesson_state_count answer = answer / 65536 % 16777216 % 4294967296

-- (uint32_t)(answer >> 40)
abbrev pub lesson_fit_count : ℕ → ℕ
lesson_fit_count answer = answer / 1099511627776 % 4294967296

-- (uint32_t)(answer >> 16)
abbrev pub lesson_distance : ℕ → ℕ
lesson_distance answer = answer / 65536 % 4294967296

-- answer >> 16 & 3
abbrev pub lesson_place_of : ℕ → ℕ
lesson_place_of answer = answer / 65536 % 4

-- LESSON_IN_NONE, LESSON_IN_SOME, LESSON_IN_EVERY
abbrev pub place_number : Place → ℕ
place_number Nowhere = 0
place_number InSome = 1
place_number Every = 2

-- what lesson_count's number carries besides g: k and the count
pub record Counts : Type 0 where
  pub states : ℕ
  pub fitting : ℕ

abbrev pub lesson_counts : ℕ → Counts
lesson_counts answer = record { states = lesson_state_count answer; fitting = lesson_fit_count answer }

-- ---- what a host learns from an answer
pub record Reading (A : Type 0) : Type 0 where
  pub granted : Bool
  -- the cause's number, or 0
  pub cause : ℕ
  -- g
  pub branching : ℕ
  -- what the call tells besides: k, yes or no, a place, how many facts differ, or k and a count
  pub own : A

-- by the functions above, and the one that is the call's own
abbrev pub read_by : {A : Type 0} → (ℕ → A) → ℕ → Reading A
read_by own answer = record { granted = lesson_granted answer; cause = lesson_cause answer; branching = lesson_branching_count answer; own = own answer }

-- lesson.h: "Its low byte is 0 where the call is granted, and the bits above it carry what the answer carries."
abbrev pub granted_with : {A : Type 0} → ℕ → A → Reading A
granted_with g own = record { granted = true; cause = 0; branching = g; own = own }

-- lesson.h: "Where the call is refused, the low byte is the number of the cause"; g is read as 0.
abbrev pub refused_for : {A : Type 0} → Cause → A → Reading A
refused_for c own = record { granted = false; cause = number_of c; branching = 0; own = own }

-- ---- what each reply has to tell
-- what a granted one tells, or the cause, and nothing of the call's own
abbrev pub told_by : {A B : Type 0} → (B → Reading A) → A → Result B Cause → Reading A
told_by granted none (Ok told) = granted told
told_by granted none (Err c) = refused_for c none

-- lesson_check: nothing more; lesson_state_count reads 0
abbrev pub check_told : Verdict → Reading ℕ
check_told v = told_by (λ accepted. granted_with 0 0) 0 v

-- lesson_test, by lesson_is_stable: yes or no
abbrev pub test_told : Result Bool Cause → Reading Bool
test_told r = told_by (λ stable. granted_with 0 stable) false r

-- lesson_list, by lesson_state_count: k
abbrev pub list_told : Result Listed Cause → Reading ℕ
list_told r = told_by (λ l. granted_with l.branching l.states) 0 r

-- lesson_one: nothing but g; lesson_state_count reads 0
abbrev pub one_told : Result ℕ Cause → Reading ℕ
one_told r = told_by (λ g. granted_with g 0) 0 r

-- lesson_place, by lesson_place_of: the place
abbrev pub place_told : Result Placed Cause → Reading ℕ
place_told r = told_by (λ p. granted_with p.branching (place_number p.place)) 0 r

-- lesson_nearest, by lesson_distance: how many facts differ
abbrev pub near_told : Result Nearest Cause → Reading ℕ
near_told r = told_by (λ n. granted_with n.branching n.distance) 0 r

-- lesson_count, by lesson_state_count and lesson_fit_count: k and the count
abbrev pub count_told : Result Counted Cause → Reading Counts
count_told r = told_by (λ k. granted_with k.branching (record { states = k.states; fitting = k.fitting })) (record { states = 0; fitting = 0 }) r

-- ---- what is promised
-- what a host hands to a call; each call takes its part of it
pub record Given : Type 0 where
  pub book : List ℕ
  pub layer : ℕ
  pub off : ℕ
  pub candidate : List ℕ
  pub buffer : List ℕ
  pub fact : ℕ
  pub condition : List ℕ

-- Of a call, whatever it is given: a host reads from its number what its reply has to tell, so that the low byte is 0 exactly where
-- the call is granted; and no two replies share a number. `answer (reply x)` is the number that the contract in src/lib.rt promises.
pub record HostReads {Reply A : Type 0} (reply : Given → Reply) (answer : Reply → ℕ) (own : ℕ → A) (told : Reply → Reading A) : Type 0 where
  pub reads : (x : Given) → read_by own (answer (reply x)) ≡ told (reply x)
  pub differ : (x y : Given) → answer (reply x) ≡ answer (reply y) → reply x ≡ reply y

-- The calls. So lesson_list's number gives back k and g where the reply is `Ok`, and the cause where it is `Err`.
pub record AnswersRead : Type 0 where
  pub lesson_check : HostReads (λ x. verdict x.book) check_answer lesson_state_count check_told
  pub lesson_test : HostReads (λ x. test_reply x.book x.layer x.off x.candidate) test_answer lesson_is_stable test_told
  pub lesson_list : HostReads (λ x. list_reply x.book x.layer x.off x.buffer) list_answer lesson_state_count list_told
  pub lesson_one : HostReads (λ x. one_reply x.book x.layer x.off x.buffer) one_answer lesson_state_count one_told
  pub lesson_place : HostReads (λ x. place_reply x.book x.layer x.off x.fact) place_answer lesson_place_of place_told
  pub lesson_nearest : HostReads (λ x. near_reply x.book x.layer x.off x.candidate x.buffer) near_answer lesson_distance near_told
  pub lesson_count : HostReads (λ x. count_reply x.book x.layer x.off x.condition) count_answer lesson_counts count_told

-- Each cause has a number of its own, and none has 0.
pub record NumbersDiffer : Type 0 where
  pub apart : (c d : Cause) → number_of c ≡ number_of d → c ≡ d
  pub never_zero : (c : Cause) → number_of c ≡ 0 → ⊥

-- ---- the buyer's third condition, of the number
-- what lesson_list answers a call, and the k and the g that a host reads from it
abbrev pub list_number : Call → ℕ
list_number c = list_answer (list_reply c.book c.layer c.off c.buffer)

abbrev pub states_read : Call → ℕ
states_read c = lesson_state_count (list_number c)

abbrev pub branching_read : Call → ℕ
branching_read c = lesson_branching_count (list_number c)

-- "the k that the listing and its answer carry" and "the count that the answer carries", as a host reads them: where lesson_granted
-- says so, (i) to (v) of crates/list_call/specs/Condition3.antt hold with that k and that g.
pub record Condition3Read : Type 0 where
  pub lists : (c : Call) → lesson_granted (list_number c) ≡ true → Lists c (states_read c) (branching_read c)
  pub equal : (c d : Call) → lesson_granted (list_number c) ≡ true → lesson_granted (list_number d) ≡ true
      → (listed c (states_read c) ≡ listed d (states_read d)) ↔ SameModels c d
