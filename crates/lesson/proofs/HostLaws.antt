-- What a host reads from an answer: a number whose parts keep to their bits gives each of them back, whatever the call. Then a reply
-- can be told from what is read, so that no two share a number. Assumes nothing.
use mathlib.Core.Path.{◌≡◌, refl, sym, ap, ◌∙◌}
use mathlib.Core.Bool.{Bool, true, false, not, false≢true}
use mathlib.Core.List.{List, [], ◌∷◌}
use Prim.Native.Nat.{ℕ, ◌+◌, ◌-◌, ◌*◌, ◌^◌, ◌/◌, ◌%◌, ◌<◌, ◌≤◌}
use native.Mathlib.Omega.{arith}
use borrow.Author.Tests.{ne_eqb}
use lib.Dec.{T, eqb, ltb, ltb→lt}
use lib.ListN.{get_or}
use Rattle.base.specs.Bounds.{max_branching}
use Rattle.std.proofs.Common.{Result, Ok, Err}
use Rattle.book.specs.Causes.{verdict}
use Rattle.book.specs.Numbers.{number_of}
use Rattle.book.specs.declared.Cause.{Cause}
use Rattle.book.specs.declared.Cause.TheVariants.{TooShort, WrongVersion, WrongLength, BrokenSection, OutOfRange, BadRecord, RepeatedArrow, Cycle, NoSuchLayer, NoSuchLayerOff, BadCandidate, BadCondition, TooDeep, NoSuchFact, TooManyBranching, BufferTooShort, NoStableState}
use Rattle.list_call.specs.Condition3.{Call, Granted}
use Rattle.list_call.specs.Reply.{list_reply}
use Rattle.list_call.specs.declared.Listed.{Listed}
use Rattle.list_call.proofs.Condition3Laws.{lists-exactly, equal-exactly}
use Rattle.one_call.specs.Reply.{one_reply}
use Rattle.near_call.specs.Reply.{near_reply}
use Rattle.place_call.specs.Reply.{place_reply}
use Rattle.place_call.specs.declared.Place.{Place}
use Rattle.place_call.specs.declared.Place.TheVariants.{Every, InSome, Nowhere}
use Rattle.count_call.specs.Reply.{count_reply}
use Rattle.test_call.specs.Reply.{test_reply}
use Rattle.lesson.specs.Answers.{answer_by, yes_bits, place_bits, list_answer}
use Rattle.lesson.specs.Host.{lesson_granted, lesson_is_stable, lesson_branching_count, lesson_state_count, lesson_distance, lesson_place_of, place_number, Reading, read_by, granted_with, refused_for, told_by, list_told, Given, HostReads, AnswersRead, NumbersDiffer, list_number, states_read, branching_read, Condition3Read, Counts, lesson_counts}
use Rattle.lesson.proofs.AnswerLaws.{list_fits, one_fits, place-fits, near_fits, count_fits}

-- ---- the numbers of the causes
-- those of 1 to 17; there is no 15
causes : List Cause
causes = TooShort ∷ WrongVersion ∷ WrongLength ∷ BrokenSection ∷ OutOfRange ∷ BadRecord ∷ RepeatedArrow ∷ Cycle ∷ NoSuchLayer ∷ BadCandidate ∷ NoSuchFact ∷ TooManyBranching ∷ BufferTooShort ∷ NoStableState ∷ NoStableState ∷ BadCondition ∷ TooDeep ∷ []

cause_numbered : ℕ → Cause
cause_numbered n = get_or causes (n - 1) NoSuchLayerOff

-- a number's cause is its own, and it is from 1 to 255
numbered : (c : Cause) → (cause_numbered (number_of c) ≡ c) × T (ltb 0 (number_of c)) × T (ltb (number_of c) 256)
unfolding cause_numbered causes
numbered TooShort = (refl, tt, tt)
numbered WrongVersion = (refl, tt, tt)
numbered WrongLength = (refl, tt, tt)
numbered BrokenSection = (refl, tt, tt)
numbered OutOfRange = (refl, tt, tt)
numbered BadRecord = (refl, tt, tt)
numbered RepeatedArrow = (refl, tt, tt)
numbered Cycle = (refl, tt, tt)
numbered NoSuchLayer = (refl, tt, tt)
numbered NoSuchLayerOff = (refl, tt, tt)
numbered BadCandidate = (refl, tt, tt)
numbered BadCondition = (refl, tt, tt)
numbered TooDeep = (refl, tt, tt)
numbered NoSuchFact = (refl, tt, tt)
numbered TooManyBranching = (refl, tt, tt)
numbered BufferTooShort = (refl, tt, tt)
numbered NoStableState = (refl, tt, tt)

number_low : (c : Cause) → 0 < number_of c
number_low c = ltb→lt 0 (number_of c) (numbered c).1

number_high : (c : Cause) → number_of c < 256
number_high c = ltb→lt (number_of c) 256 (numbered c).2

pub numbers_differ : NumbersDiffer
numbers_differ = record {
  apart = λ c d e. sym (numbered c).0 ∙ ap cause_numbered e ∙ (numbered d).0;
  never_zero = λ c e. omega (arith, number_low c);
}

-- ---- one law for every answer: it carries a cause, g and one number more, in bits of their own, and each is read back
same_reading : {A : Type 0} {r s : Reading A} → r.granted ≡ s.granted → r.cause ≡ s.cause → r.branching ≡ s.branching → r.own ≡ s.own → r ≡ s
same_reading a b c d = λ i. record { granted = a i; cause = b i; branching = c i; own = d i }

module _ {A : Type 0} (own : ℕ → A) where
  carried : (granted : Bool) (cause g more answer : ℕ) (v : A) → answer ≡ more * 65536 + g * 256 + cause → eqb cause 0 ≡ granted → cause < 256 → g < 256 → own answer ≡ v
      → read_by own answer ≡ record { granted = granted; cause = cause; branching = g; own = v }
  carried granted cause g more answer v e t c h o =
      let low : answer % 256 ≡ cause = omega arith in
      let middle : answer / 256 ≡ more * 256 + g = omega arith in
      let byte : (more * 256 + g) % 256 ≡ g = omega arith in
      same_reading (ap (λ (x : ℕ). eqb x 0) low ∙ t) low (ap (λ (x : ℕ). x % 256 % 4294967296) middle ∙ ap (λ (x : ℕ). x % 4294967296) byte ∙ omega arith) o

  granted_read : (g more answer : ℕ) (v : A) → answer ≡ more * 65536 + g * 256 → g ≤ max_branching → own answer ≡ v → read_by own answer ≡ granted_with g v
  granted_read g more answer v e h o = carried true 0 g more answer v (omega arith) refl (omega arith) (omega arith) o

  refused_read : (c : Cause) (v : A) → own (number_of c) ≡ v → read_by own (number_of c) ≡ refused_for c v
  refused_read c v o = carried false (number_of c) 0 0 (number_of c) v (omega arith) (ne_eqb (number_of c) 0 (λ z. omega (arith, number_low c))) (number_high c) (omega arith) o

-- ---- one law for every call: where a granted reply is read from its number, and can be made from what is read, so is every reply
pick : {Reply : Type 0} → Bool → Reply → Reply → Reply
pick true a b = a
pick false a b = b

module _ {A B : Type 0} (grant : ℕ → A → B) where
  -- the reply that a reading stands for
  meant : Reading A → Result B Cause
  meant r = pick r.granted (Ok (grant r.branching r.own)) (Err (cause_numbered r.cause))

  module _ (reply : Given → Result B Cause) (bits : B → ℕ) (own : ℕ → A) (g : B → ℕ) (v : B → A) (none : A) where
    abbrev told : Result B Cause → Reading A
    told r = told_by (λ b. granted_with (g b) (v b)) none r

    host_reads : ((x : Given) (b : B) → reply x ≡ Ok b → read_by own (bits b) ≡ granted_with (g b) (v b)) → ((c : Cause) → own (number_of c) ≡ none) → ((b : B) → grant (g b) (v b) ≡ b)
        → HostReads reply (λ r. answer_by bits r) own told
    unfolding meant pick
    host_reads granted refused made = record {
      reads = λ x. reads x (reply x) refl;
      differ = λ x y e. sym (back (reply x)) ∙ ap meant (sym (reads x (reply x) refl) ∙ ap (read_by own) e ∙ reads y (reply y) refl) ∙ back (reply y);
    }
      where
        reads : (x : Given) (r : Result B Cause) → reply x ≡ r → read_by own (answer_by bits r) ≡ told r
        reads x (Ok b) e = granted x b e
        reads x (Err c) e = refused_read own c none (refused c)

        back : (r : Result B Cause) → meant (told r) ≡ r
        back (Ok b) = ap Ok (made b)
        back (Err c) = ap Err (numbered c).0

-- ---- what each granted reply tells
stable_read : (yes : Bool) → read_by lesson_is_stable (yes_bits yes) ≡ granted_with 0 yes
stable_read true = refl
stable_read false = refl

places : List Place
places = Nowhere ∷ InSome ∷ Every ∷ []

place_back : (p : Place) → get_or places (place_number p) Nowhere ≡ p
unfolding places
place_back Nowhere = refl
place_back InSome = refl
place_back Every = refl

place_read : (p : Place) (g : ℕ) → g ≤ max_branching → read_by lesson_place_of (place_bits p + g * 256) ≡ granted_with g (place_number p)
place_read Nowhere g s = granted_read lesson_place_of g 0 (0 + g * 256) 0 (omega arith) s (omega arith)
place_read InSome g s = granted_read lesson_place_of g 1 (65536 + g * 256) 1 (omega arith) s (omega arith)
place_read Every g s = granted_read lesson_place_of g 2 (131072 + g * 256) 2 (omega arith) s (omega arith)

same_counts : {x y : Counts} → x.states ≡ y.states → x.fitting ≡ y.fitting → x ≡ y
same_counts a b = λ i. record { states = a i; fitting = b i }

count_read : (k g c : ℕ) → (k ≤ 2 ^ max_branching) × (g ≤ max_branching) × (c ≤ k) → read_by lesson_counts (c * 1099511627776 + k * 65536 + g * 256) ≡ granted_with g (record { states = k; fitting = c })
count_read k g c s =
    granted_read lesson_counts g (c * 16777216 + k) (c * 1099511627776 + k * 65536 + g * 256) (record { states = k; fitting = c }) (omega arith) s.1
    (same_counts (omega (arith, s.0, s.1, s.2)) (omega (arith, s.0, s.1, s.2)))

-- ---- every number behind a cause's reads as nothing
none_stable : (c : Cause) → lesson_is_stable (number_of c) ≡ false
none_stable c = let none : number_of c / 65536 % 2 ≡ 0 = omega (arith, number_high c) in ap (λ (x : ℕ). not (eqb x 0)) none

none_counted : (c : Cause) → lesson_counts (number_of c) ≡ record { states = 0; fitting = 0 }
none_counted c = same_counts (omega (arith, number_high c)) (omega (arith, number_high c))

-- What a host reads from the number of each call is what the reply has to tell, and no two replies share a number.
pub answers_read : AnswersRead
answers_read = record {
  lesson_check = host_reads (λ g own. tt) (λ x. verdict x.book) (λ accepted. 0) lesson_state_count (λ accepted. 0) (λ accepted. 0) 0 (λ x b e. refl) (λ c. omega (arith, number_high c)) (λ accepted. refl);
  lesson_test = host_reads (λ g own. own) (λ x. test_reply x.book x.layer x.off x.candidate) yes_bits lesson_is_stable (λ yes. 0) (λ yes. yes) false (λ x yes e. stable_read yes) none_stable (λ yes. refl);
  lesson_list =
      host_reads (λ g own. record { states = own; branching = g }) (λ x. list_reply x.book x.layer x.off x.buffer) (λ l. l.states * 65536 + l.branching * 256) lesson_state_count (λ l. l.branching) (λ l. l.states) 0
      (λ x l e.
      let s = list_fits x.book x.layer x.off x.buffer l e in
      granted_read lesson_state_count l.branching l.states (l.states * 65536 + l.branching * 256) l.states (omega arith) s.1 (omega (arith, s.0, s.1))) (λ c. omega (arith, number_high c)) (λ l. refl);
  lesson_one =
      host_reads (λ g own. g) (λ x. one_reply x.book x.layer x.off x.buffer) (λ g. g * 256) lesson_state_count (λ g. g) (λ g. 0) 0
      (λ x g e. let s = one_fits x.book x.layer x.off x.buffer g e in granted_read lesson_state_count g 0 (g * 256) 0 (omega arith) s (omega (arith, s))) (λ c. omega (arith, number_high c)) (λ g. refl);
  lesson_place =
      host_reads (λ g own. record { place = get_or places own Nowhere; branching = g }) (λ x. place_reply x.book x.layer x.off x.fact) (λ p. place_bits p.place + p.branching * 256) lesson_place_of (λ p. p.branching) (λ p. place_number p.place) 0
      (λ x p e. place_read p.place p.branching (place-fits x.book x.layer x.off x.fact p e)) (λ c. omega (arith, number_high c)) (λ p i. record { place = place_back p.place i; branching = p.branching });
  lesson_nearest =
      host_reads (λ g own. record { distance = own; branching = g }) (λ x. near_reply x.book x.layer x.off x.candidate x.buffer) (λ n. n.distance * 65536 + n.branching * 256) lesson_distance (λ n. n.branching) (λ n. n.distance) 0
      (λ x n e.
      let s = near_fits x.book x.layer x.off x.candidate x.buffer n e in
      granted_read lesson_distance n.branching n.distance (n.distance * 65536 + n.branching * 256) n.distance (omega arith) s.1 (omega (arith, s.0, s.1))) (λ c. omega (arith, number_high c)) (λ n. refl);
  lesson_count =
      host_reads (λ g own. record { states = own.states; branching = g; fitting = own.fitting }) (λ x. count_reply x.book x.layer x.off x.condition) (λ k. k.fitting * 1099511627776 + k.states * 65536 + k.branching * 256) lesson_counts
      (λ k. k.branching) (λ k. record { states = k.states; fitting = k.fitting }) (record { states = 0; fitting = 0 })
      (λ x k e. count_read k.states k.branching k.fitting (count_fits x.book x.layer x.off x.condition k e)) none_counted (λ k. refl);
}

-- ---- condition 3, of the number
-- a number that says granted is that of a reply with the k and the g that it carries
granted_reply : (r : Result Listed Cause) → read_by lesson_state_count (list_answer r) ≡ list_told r → lesson_granted (list_answer r) ≡ true
    → r ≡ Ok (record { states = lesson_state_count (list_answer r); branching = lesson_branching_count (list_answer r) })
granted_reply (Ok l) e t = λ i. Ok (record { states = (sym e i).own; branching = (sym e i).branching })
granted_reply (Err c) e t = absurd (false≢true (sym (ap (λ (x : Reading ℕ). x.granted) e) ∙ t))

pub granted_call : (c : Call) → lesson_granted (list_number c) ≡ true → Granted c (states_read c) (branching_read c)
granted_call c t =
    granted_reply (list_reply c.book c.layer c.off c.buffer) (answers_read.lesson_list.reads (record { book = c.book; layer = c.layer; off = c.off; candidate = []; buffer = c.buffer; fact = 0; condition = [] })) t

-- Condition 3 holds with the k and the g that a host reads from the number of lesson_list.
pub condition3_read : Condition3Read
condition3_read = record {
  lists = λ c t. lists-exactly c (states_read c) (branching_read c) (granted_call c t);
  equal = λ c d t u. equal-exactly c d (states_read c) (branching_read c) (states_read d) (branching_read d) (granted_call c t) (granted_call d u);
}
