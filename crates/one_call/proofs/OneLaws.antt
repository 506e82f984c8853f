-- The call for one state, step by step: each refusal, and the buffer once a record is written. Assumes nothing.
use mathlib.Core.Path.{◌≡◌, refl, sym, ap, ap₂, ◌∙◌}
use mathlib.Core.Bool.{Bool, true, false, not, false≢true}
use mathlib.Core.List.Memᴰ
use mathlib.Core.List.{List, [], ◌∷◌, ◌++◌, map, append-nil}
use Prim.Native.Nat.{ℕ, ◌-◌, ◌<◌, ◌≤◌}
use native.Mathlib.Omega.{arith}
use borrow.Author.Tests.{lt-ltb, le-ltb, ltb-false, ne_eqb, not-true, not-false}
use borrow.Rule.Slice.PartMut.{put_mid}
use lib.Dec.{eqb, ltb}
use lib.ListN.{length, get_or, take, drop, take-append-drop}
use lib.Seq.{length-take-le}
use Rattle.base.specs.Bounds.{max_branching}
use Rattle.base.specs.Lists.{flat}
use Rattle.book.specs.Causes.{Test, verdict_if, first_of, Verdict}
use Rattle.book.specs.declared.Cause.{Cause}
use Rattle.book.specs.declared.Cause.TheVariants.{TooManyBranching, BufferTooShort, NoStableState}
use Rattle.format.specs.Book.{book_of}
use Rattle.models.specs.Program.{Program, program_at}
use Rattle.models.specs.StableModels.{Interpretation}
use Rattle.models.specs.Branching.{branching_count}
use Rattle.models.specs.Listing.{stable_models, record_size, record_of}
use Rattle.models.specs.Alike.{Alike}
use Rattle.models.proofs.AlikeLaws.{alike_models, alike-count}
use Rattle.table.specs.Table.{program_of}
use Rattle.accepted.specs.Driven.{layer_tests}
use Rattle.accepted.proofs.FirstLaws.{accepted-none}
use Rattle.accepted.proofs.GrantedLaws.{granted}
use Rattle.base.proofs.Members.{◌∈◌}
use Rattle.search.specs.Space.{space_atoms, space_program}
use Rattle.search.specs.declared.space.Space.{Space}
use Rattle.passes.proofs.SpaceLaws.{space_size, space_count}
use Rattle.passes.specs.Limit.{has_too_many_branching, has_no_stable_state}
use Rattle.first.specs.InHand.{record_held}
use Rattle.std.proofs.Common.{Result, Ok, Err}
use Rattle.one_call.specs.Reply.{room_tests, search_tests, one_tests, reply_of, buffer_of, one_reply, one_buffer, Answers}

-- ---- the first record, if there is one
untouched : (n : ℕ) (ms : List Interpretation) (old : List ℕ) → eqb (length ms) 0 ≡ true → record_held n (take 1 ms) old ≡ old
unfolding record_held
untouched n [] old e = refl
untouched n (m ∷ ms) old e = absurd (false≢true (sym (ne_eqb (length (m ∷ ms)) 0 (λ z. omega arith)) ∙ e))

as_listed : (n : ℕ) (ms : List Interpretation) (old : List ℕ) → eqb (length ms) 0 ≡ false → record_held n (take 1 ms) old ≡ flat (map (record_of n) (take 1 ms))
unfolding record_held flat
as_listed n [] old e = absurd (false≢true (sym e))
as_listed n (m ∷ ms) old e = sym (append-nil (record_of n m))

first_record : (n : ℕ) (ms : List Interpretation) → 0 < length ms → flat (map (record_of n) (take 1 ms)) ≡ record_of n (get_or ms 0 [])
unfolding flat
first_record n [] h = absurd (omega arith)
first_record n (m ∷ ms) h = append-nil (record_of n m)

-- ---- room and search
module _ (space : Space) (size : ℕ) (e : size ≡ record_size space.plan.now.n) (old : List ℕ) where
  abbrev n : ℕ
  n = space.plan.now.n

  abbrev P : Program
  P = space_program space

  size_is : size ≡ record_size P.atoms
  size_is = e ∙ ap record_size (space_size space)

  pub room_refused : length old < size → Answers (first_of (room_tests P (length old))) P old (Err BufferTooShort) old
  unfolding first_of verdict_if room_tests reply_of buffer_of
  room_refused h =
      let q : first_of (room_tests P (length old)) ≡ Err BufferTooShort = rw (lt-ltb (length old) (record_size P.atoms) (omega (arith, size_is))) refl in
      rw q (record { reply_is = refl; buffer_is = refl })

  module _ (h : size ≤ length old) where
    pub part_sized : length (take (size - 0) (drop 0 old)) ≡ record_size n
    part_sized = length-take-le (size - 0) (drop 0 old) (omega arith) ∙ omega (arith, e)

    -- the part comes back in front of the rest
    back : (part : List ℕ) → put_mid 0 (size - 0) old part ≡ part ++ drop size old
    back part = let z : size - 0 ≡ size = omega arith in ap (λ (x : ℕ). part ++ drop x old) z

    module _ {found : Bool} {part : List ℕ} (f : (found ≡ not (has_no_stable_state P)) × (part ≡ record_held n (take 1 (stable_models P)) (take (size - 0) (drop 0 old)))) where
      none_is : found ≡ false → has_no_stable_state P ≡ true
      none_is b = not-false (has_no_stable_state P) (sym f.0 ∙ b)

      some_is : found ≡ true → has_no_stable_state P ≡ false
      some_is b = not-true (has_no_stable_state P) (sym f.0 ∙ b)

      pub state_refused : found ≡ false → Answers (first_of (room_tests P (length old))) P old (Err NoStableState) (put_mid 0 (size - 0) old part)
      unfolding first_of verdict_if room_tests reply_of buffer_of has_no_stable_state
      state_refused b =
          let q : first_of (room_tests P (length old)) ≡ Err NoStableState = rw (le-ltb (length old) (record_size P.atoms) (omega (arith, size_is)), none_is b) refl in
          let z : size - 0 ≡ size = omega arith in
          let e : part ≡ take size old = f.1 ∙ untouched n (stable_models P) (take (size - 0) old) (none_is b) ∙ ap (λ (x : ℕ). take x old) z in
          rw q (record { reply_is = refl; buffer_is = back part ∙ ap (λ (x : List ℕ). x ++ drop size old) e ∙ take-append-drop size old })

      pub state_written_lem : found ≡ true → {g : ℕ} → g ≡ length (space_atoms space) → Answers (first_of (room_tests P (length old))) P old (Ok g) (put_mid 0 (size - 0) old part)
      unfolding first_of verdict_if room_tests reply_of buffer_of has_no_stable_state
      state_written_lem b eg =
          let q : first_of (room_tests P (length old)) ≡ Ok tt = rw (le-ltb (length old) (record_size P.atoms) (omega (arith, size_is)), some_is b) refl in
          let r : part ≡ flat (map (record_of P.atoms) (take 1 (stable_models P))) =
          f.1 ∙ as_listed n (stable_models P) (take (size - 0) old) (some_is b) ∙ ap (λ (k : ℕ). flat (map (record_of k) (take 1 (stable_models P)))) (space_size space) in
          rw q (record { reply_is = ap Ok (eg ∙ space_count space); buffer_is = back part ∙ ap₂ (λ (x : List ℕ) (k : ℕ). x ++ drop k old) r size_is })

-- ---- the program that the table stands for, and the driven layer's
module _ {P Q : Program} (a : Alike P Q) where
  none-same : has_no_stable_state P ≡ has_no_stable_state Q
  unfolding has_no_stable_state
  none-same = ap (λ (ms : List Interpretation). eqb (length ms) 0) (alike_models a)

  pub room-same : (room : ℕ) → room_tests P room ≡ room_tests Q room
  unfolding room_tests
  room-same room =
      ap₂ (λ (n : ℕ) (b : Bool). record { cause = BufferTooShort; applies = ltb room (record_size n) } ∷ record { cause = NoStableState; applies = b } ∷ []) a.atoms_same none-same

  pub reply_same : (v : Verdict) → reply_of v P ≡ reply_of v Q
  unfolding reply_of
  reply_same (Err c) = refl
  reply_same (Ok tt) = ap Ok (alike-count a)

  pub buffer-same : (v : Verdict) (old : List ℕ) → buffer_of v P old ≡ buffer_of v Q old
  unfolding buffer_of
  buffer-same (Err c) old = refl
  buffer-same (Ok tt) old = ap₂ (λ (n : ℕ) (ms : List Interpretation). flat (map (record_of n) (take 1 ms)) ++ drop (record_size n) old) a.atoms_same (alike_models a)

  pub answers_over : {old new : List ℕ} {r : Result ℕ Cause} → Answers (first_of (room_tests Q (length old))) Q old r new → Answers (first_of (room_tests P (length old))) P old r new
  answers_over {old} x =
      let e : first_of (room_tests Q (length old)) ≡ first_of (room_tests P (length old)) = sym (ap first_of (room-same (length old))) in
      record {
        reply_is = x.reply_is ∙ ap (λ (v : Verdict). reply_of v Q) e ∙ sym (reply_same (first_of (room_tests P (length old))));
        buffer_is = x.buffer_is ∙ ap (λ (v : Verdict). buffer_of v Q old) e ∙ sym (buffer-same (first_of (room_tests P (length old))) old);
      }

-- there is a state, and the first one's record stands in front
module _ (book : List ℕ) (layer off : ℕ) (old : List ℕ) (g : ℕ) (e : one_reply book layer off old ≡ Ok g) where
  abbrev Q : Program
  Q = program_of book layer off

  -- it met none of its tests
  answer : (first_of (one_tests book layer off (length old)) ≡ Ok tt) × (branching_count Q ≡ g)
  unfolding one_reply reply_of
  answer = granted (first_of (one_tests book layer off (length old))) e

  passed : (t : Test) → t ∈ one_tests book layer off (length old) → t.applies ≡ false
  passed = (accepted-none (one_tests book layer off (length old))).0 answer.0

  pub granted-some : 0 < length (stable_models Q)
  unfolding one_tests search_tests room_tests has_no_stable_state
  granted-some = go (stable_models Q) (passed (record { cause = NoStableState; applies = has_no_stable_state Q }) (Memᴰ.append_right (layer_tests book layer off) (Memᴰ.tail (Memᴰ.tail (Memᴰ.head refl)))))
    where
      go : (ms : List Interpretation) → eqb (length ms) 0 ≡ false → 0 < length ms
      go [] q = absurd (false≢true (sym q))
      go (m ∷ ms) q = omega arith

  pub granted_bytes : one_buffer book layer off old ≡ record_of (book_of book).atoms (get_or (stable_models Q) 0 []) ++ drop (record_size (book_of book).atoms) old
  unfolding one_buffer buffer_of program_at
  granted_bytes =
      ap (λ (v : Verdict). buffer_of v Q old) answer.0
      ∙ ap (λ (r : List ℕ). r ++ drop (record_size (book_of book).atoms) old) (first_record (book_of book).atoms (stable_models Q) granted-some)

  -- g is at most 20
  pub granted-small : g ≤ max_branching
  unfolding one_tests search_tests has_too_many_branching
  granted-small =
      omega (arith, answer.1, ltb-false max_branching (branching_count Q) (passed (record { cause = TooManyBranching; applies = has_too_many_branching Q }) (Memᴰ.append_right (layer_tests book layer off) (Memᴰ.head refl))))
