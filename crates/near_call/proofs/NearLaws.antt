-- The call for the closest state, step by step: each refusal, and the answer and the buffer once a record is written. Assumes nothing.
use mathlib.Core.Path.{◌≡◌, refl, sym, ap, ap₂, subst, ◌∙◌}
use mathlib.Core.Bool.{true, false, not, false≢true}
use mathlib.Core.List.Memᴰ
use mathlib.Core.List.{List, [], ◌∷◌, ◌++◌, map, append-nil}
use Prim.Native.Nat.{ℕ, ◌-◌, ◌<◌, ◌≤◌}
use native.Mathlib.Omega.{arith}
use borrow.Author.Tests.{lt-ltb, le-ltb, ltb-true, ltb-false, not-true, not-false}
use borrow.Rule.Slice.PartMut.{put_mid}
use lib.Dec.{ltb}
use lib.ListN.{length, get_or, take, drop, take-append-drop}
use lib.Seq.{length-take-le}
use Rattle.base.specs.Bounds.{max_atoms, max_branching}
use Rattle.base.specs.Lists.{flat}
use Rattle.base.proofs.Members.{◌∈◌}
use Rattle.book.specs.Causes.{Test, tests, verdict_if, first_of, verdict, Verdict}
use Rattle.book.specs.declared.Cause.{Cause}
use Rattle.book.specs.declared.Cause.TheVariants.{BadCandidate, TooManyBranching, BufferTooShort, NoStableState}
use Rattle.base.proofs.EntryLaws.{entry_in}
use Rattle.format.specs.Book.{atom_count, layer_count, book_of}
use Rattle.models.specs.Program.{Program, program_at}
use Rattle.models.specs.StableModels.{Interpretation}
use Rattle.models.specs.Branching.{branching_count}
use Rattle.models.specs.Listing.{stable_models, record_size, record_of, interpretation_of}
use Rattle.models.specs.Alike.{Alike}
use Rattle.models.proofs.AlikeLaws.{alike_models, alike-count}
use Rattle.table.specs.Table.{program_of}
use Rattle.accepted.specs.Accepted.{IsAccepted}
use Rattle.accepted.specs.Driven.{driven_tests, layer_tests}
use Rattle.accepted.proofs.RangeFacts.{atoms_are}
use Rattle.accepted.proofs.FirstLaws.{accepted-none}
use Rattle.accepted.proofs.GrantedLaws.{granted}
use Rattle.candidate.specs.Candidate.{is_bad_candidate}
use Rattle.candidate.proofs.CandidateLaws.{read_length}
use Rattle.search.specs.Space.{space_atoms, space_program}
use Rattle.search.specs.declared.space.Space.{Space}
use Rattle.first.specs.Nearest.{distance, closest}
use Rattle.first.specs.InHand.{far, record_held}
use Rattle.first.proofs.ApartLaws.{distance_le}
use Rattle.passes.proofs.SpaceLaws.{space_size, space_count}
use Rattle.passes.specs.Limit.{has_too_many_branching, has_no_stable_state}
use Rattle.passes.specs.Nearest.{chosen, Nearest}
use Rattle.passes.proofs.FirstLaws.{chosen-some}
use Rattle.one_call.specs.Reply.{room_tests, search_tests}
use Rattle.one_call.proofs.OneLaws.{room-same}
use Rattle.near_call.specs.declared.Nearest as reply
use Rattle.std.proofs.Common.{Result, Ok, Err, Option, Some, None, is_some}
use Rattle.near_call.specs.Reply.{candidate_tests, near_tests, nearest, least_distance, reply_of, buffer_of, near_reply, near_buffer, Answers}

-- ---- the closest, if there is one
pub nearest-chosen : (P : Program) (c : Interpretation) → length c ≡ P.atoms → nearest P c ≡ chosen P c
unfolding nearest chosen
nearest-chosen P c e = ap (λ (k : ℕ). take 1 (closest k c (stable_models P))) (sym e)

held_none : (n : ℕ) (ms : List Interpretation) (old : List ℕ) → ltb 0 (length ms) ≡ false → record_held n ms old ≡ old
unfolding record_held
held_none n [] old e = refl
held_none n (m ∷ ms) old e = absurd (false≢true (sym e ∙ lt-ltb 0 (length (m ∷ ms)) (omega arith)))

-- of at most one
held_one : (n : ℕ) (ms : List Interpretation) (old : List ℕ) → ltb 0 (length ms) ≡ true → length ms ≤ 1 → record_held n ms old ≡ flat (map (record_of n) ms)
unfolding record_held flat
held_one n [] old e h = absurd (false≢true e)
held_one n (m ∷ []) old e h = sym (append-nil (record_of n m))
held_one n (m ∷ o ∷ ms) old e h = absurd (omega (arith, h))

first_few : {A : Type 0} (l : List A) → length (take 1 l) ≤ 1
first_few [] = omega arith
first_few (x ∷ l) = omega arith

-- ---- room and search
module _ (space : Space) (candidate : List ℕ) (size : ℕ) (e : size ≡ record_size space.plan.now.n) (old : List ℕ) where
  abbrev n : ℕ
  n = space.plan.now.n

  abbrev c : Interpretation
  c = interpretation_of n candidate

  abbrev P : Program
  P = space_program space

  n_is : n ≡ P.atoms
  n_is = space_size space

  size_is : size ≡ record_size P.atoms
  size_is = e ∙ ap record_size n_is

  same : nearest P c ≡ chosen P c
  same = nearest-chosen P c (read_length n candidate ∙ n_is)

  pub room_refused : length old < size → Answers (first_of (room_tests P (length old))) P c old (Err BufferTooShort) old
  unfolding first_of verdict_if room_tests reply_of buffer_of
  room_refused h =
      let q : first_of (room_tests P (length old)) ≡ Err BufferTooShort = rw (lt-ltb (length old) (record_size P.atoms) (omega (arith, size_is))) refl in
      rw q (record { reply_is = refl; buffer_is = refl })

  module _ (h : size ≤ length old) where
    pub part_sized : length (take (size - 0) (drop 0 old)) ≡ record_size n
    part_sized = length-take-le (size - 0) (drop 0 old) (omega arith) ∙ omega (arith, e)

    -- the part comes back in front of the rest
    back : (part : List ℕ) → put_mid 0 (size - 0) old part ≡ part ++ drop size old
    back part = let z : size - 0 ≡ size = omega arith in ap (λ (x : ℕ). part ++ drop x old) z

    module _ {wanted : Interpretation} (is : wanted ≡ c) {found : Option ℕ} {part : List ℕ} (told : Nearest P wanted n (take (size - 0) (drop 0 old)) found part) where
      near : Nearest P c n (take (size - 0) (drop 0 old)) found part
      near = subst (λ (m : Interpretation). Nearest P m n (take (size - 0) (drop 0 old)) found part) is told

      pub state_refused : found ≡ None → Answers (first_of (room_tests P (length old))) P c old (Err NoStableState) (put_mid 0 (size - 0) old part)
      unfolding first_of verdict_if room_tests reply_of buffer_of
      state_refused b =
          let none : has_no_stable_state P ≡ true = not-false (has_no_stable_state P) (sym near.found_is ∙ ap (is_some {T = ℕ}) b) in
          let q : first_of (room_tests P (length old)) ≡ Err NoStableState = rw (le-ltb (length old) (record_size P.atoms) (omega (arith, size_is)), none) refl in
          let z : size - 0 ≡ size = omega arith in
          let r : part ≡ take size old = near.written ∙ held_none n (chosen P c) (take (size - 0) old) (chosen-some P c ∙ ap not none) ∙ ap (λ (x : ℕ). take x old) z in
          rw q (record { reply_is = refl; buffer_is = back part ∙ ap (λ (x : List ℕ). x ++ drop size old) r ∙ take-append-drop size old })

      module _ {d : ℕ} (b : found ≡ Some d) where
        some_is : has_no_stable_state P ≡ false
        some_is = not-true (has_no_stable_state P) (sym near.found_is ∙ ap (is_some {T = ℕ}) b)

        some : ltb 0 (length (chosen P c)) ≡ true
        some = chosen-some P c ∙ ap not some_is

        few : length (chosen P c) ≤ 1
        unfolding chosen
        few = first_few (closest (length c) c (stable_models P))

        far_told : d ≡ far c (get_or (chosen P c) 0 [])
        far_told = let t = sym b ∙ near.distance_is (get_or (chosen P c) 0 []) (entry_in (chosen P c) 0 [] (ltb-true 0 (length (chosen P c)) some)) in cc

        distance_told : d ≡ least_distance P c
        unfolding least_distance
        distance_told = far_told ∙ ap₂ (λ (k : ℕ) (ms : List Interpretation). distance k c (get_or ms 0 [])) (read_length n candidate ∙ n_is) (sym same)

        bytes_told : part ≡ flat (map (record_of P.atoms) (nearest P c))
        bytes_told = near.written ∙ held_one n (chosen P c) (take (size - 0) old) some few ∙ ap₂ (λ (k : ℕ) (ms : List Interpretation). flat (map (record_of k) ms)) n_is (sym same)

        pub state_written_lem : {g : ℕ} → g ≡ length (space_atoms space) → Answers (first_of (room_tests P (length old))) P c old (Ok (record { distance = d; branching = g })) (put_mid 0 (size - 0) old part)
        unfolding first_of verdict_if room_tests reply_of buffer_of
        state_written_lem eg =
            let q : first_of (room_tests P (length old)) ≡ Ok tt = rw (le-ltb (length old) (record_size P.atoms) (omega (arith, size_is)), some_is) refl in
            rw q (record { reply_is = λ i. Ok (record { distance = distance_told i; branching = (eg ∙ space_count space) i }); buffer_is = back part ∙ ap₂ (λ (x : List ℕ) (k : ℕ). x ++ drop k old) bytes_told size_is })

-- ---- the program that the table stands for, and the driven layer's
module _ {P Q : Program} (a : Alike P Q) where
  nearest-same : (c : Interpretation) → nearest P c ≡ nearest Q c
  unfolding nearest
  nearest-same c = ap₂ (λ (n : ℕ) (ms : List Interpretation). take 1 (closest n c ms)) a.atoms_same (alike_models a)

  pub reply_same : (v : Verdict) (c : Interpretation) → reply_of v P c ≡ reply_of v Q c
  unfolding reply_of least_distance
  reply_same (Err cause) c = refl
  reply_same (Ok tt) c = λ i. Ok (record { distance = distance (a.atoms_same i) c (get_or (nearest-same c i) 0 []); branching = alike-count a i })

  pub buffer-same : (v : Verdict) (c : Interpretation) (old : List ℕ) → buffer_of v P c old ≡ buffer_of v Q c old
  unfolding buffer_of
  buffer-same (Err cause) c old = refl
  buffer-same (Ok tt) c old = ap₂ (λ (n : ℕ) (ms : List Interpretation). flat (map (record_of n) ms) ++ drop (record_size n) old) a.atoms_same (nearest-same c)

  pub answers_over : (c : Interpretation) {old new : List ℕ} {r : Result reply.Nearest Cause} → Answers (first_of (room_tests Q (length old))) Q c old r new → Answers (first_of (room_tests P (length old))) P c old r new
  answers_over c {old} x =
      let e : first_of (room_tests Q (length old)) ≡ first_of (room_tests P (length old)) = sym (ap first_of (room-same a (length old))) in
      record {
        reply_is = x.reply_is ∙ ap (λ (v : Verdict). reply_of v Q c) e ∙ sym (reply_same (first_of (room_tests P (length old))) c);
        buffer_is = x.buffer_is ∙ ap (λ (v : Verdict). buffer_of v Q c old) e ∙ sym (buffer-same (first_of (room_tests P (length old))) c old);
      }

-- ---- a granted call
module _ (book : List ℕ) (layer off : ℕ) (candidate old : List ℕ) (d g : ℕ) (e : near_reply book layer off candidate old ≡ Ok (record { distance = d; branching = g })) where
  abbrev Q : Program
  Q = program_of book layer off

  abbrev given : Interpretation
  given = interpretation_of (book_of book).atoms candidate

  -- it met none of its tests
  answer : (first_of (near_tests book layer off candidate (length old)) ≡ Ok tt) × ◌≡◌ {A = reply.Nearest} (record { distance = least_distance Q given; branching = branching_count Q }) (record { distance = d; branching = g })
  unfolding near_reply reply_of
  answer = granted (first_of (near_tests book layer off candidate (length old))) e

  passed : (t : Test) → t ∈ near_tests book layer off candidate (length old) → t.applies ≡ false
  passed = (accepted-none (near_tests book layer off candidate (length old))).0 answer.0

  pub granted-candidate : is_bad_candidate (book_of book).atoms candidate ≡ false
  unfolding near_tests candidate_tests program_at
  granted-candidate = passed (record { cause = BadCandidate; applies = is_bad_candidate (book_of book).atoms candidate }) (Memᴰ.append_right (layer_tests book layer off) (Memᴰ.head refl))

  pub granted-some : has_no_stable_state Q ≡ false
  unfolding near_tests candidate_tests search_tests room_tests
  granted-some = passed (record { cause = NoStableState; applies = has_no_stable_state Q }) (Memᴰ.append_right (layer_tests book layer off) (Memᴰ.tail (Memᴰ.tail (Memᴰ.tail (Memᴰ.head refl)))))

  pub granted-distance : d ≡ least_distance Q given
  granted-distance = ap (λ (x : reply.Nearest). x.distance) (sym answer.1)

  granted-branching : g ≡ branching_count Q
  granted-branching = ap (λ (x : reply.Nearest). x.branching) (sym answer.1)

  pub granted_bytes : near_buffer book layer off candidate old ≡ flat (map (record_of (book_of book).atoms) (nearest Q given)) ++ drop (record_size (book_of book).atoms) old
  unfolding near_buffer buffer_of program_at
  granted_bytes = ap (λ (v : Verdict). buffer_of v Q given old) answer.0

  book-accepted : IsAccepted book
  unfolding verdict layer_tests near_tests
  book-accepted = (accepted-none (tests book)).1 (λ t k. passed t (Memᴰ.append_left (candidate_tests Q candidate (length old)) (Memᴰ.append_left (driven_tests (layer_count book) layer off) k)))

  -- so g is at most 20, and no more facts differ than a book has
  pub granted-small : (d ≤ max_atoms) × (g ≤ max_branching)
  unfolding near_tests candidate_tests search_tests has_too_many_branching least_distance program_at
  granted-small =
      let few : (book_of book).atoms ≤ max_atoms = few-atoms in (
        omega (arith, granted-distance, distance_le given (get_or (nearest Q given) 0 []) (book_of book).atoms, few),
        omega (arith, granted-branching, ltb-false max_branching (branching_count Q) (passed (record { cause = TooManyBranching; applies = has_too_many_branching Q }) (Memᴰ.append_right (layer_tests book layer off) (Memᴰ.tail (Memᴰ.head refl))))),
      )
    where
      few-atoms : (book_of book).atoms ≤ max_atoms
      few-atoms = let a = atoms_are book book-accepted (atom_count book) refl in omega (arith, a.0, a.2)
