-- What acceptance says: none of causes 1 to 8 applies, and each section is its records, one after the other.
-- Assumes nothing.
use mathlib.Core.Path.{◌≡◌, refl, ap}
use mathlib.Core.Bool.{Bool, true, false}
use mathlib.Core.List.Memᴰ
use mathlib.Core.List.{List, [], ◌∷◌, map}
use Prim.Native.Nat.{ℕ, zero, suc, ◌*◌, ◌≤◌}
use native.Mathlib.Omega.{arith}
use borrow.Author.Tests.{leb-true}
use lib.Dec.{leb}
use lib.ListN.{length, drop, length-append, length-drop, take-append-drop}
use lib.Seq.{length-take-le}
use Rattle.base.specs.Lists.{flat}
use Rattle.base.proofs.Members.{◌∈◌}
use Rattle.layers.proofs.BitLaws.{and_left, and_right}
use Rattle.format.specs.Book.{records_in, records, meets_end_in, meets_end}
use Rattle.format.specs.Sections.{has_broken_section}
use Rattle.book.specs.Causes.{is_too_short, has_wrong_version, has_wrong_length, is_out_of_range, has_bad_record, repeats_arrow, has_cycle, tests, verdict_if, first_of, verdict, Verdict}
use Rattle.book.specs.declared.Cause.{Cause}
use Rattle.std.specs.Prelude.{Ok, Err}

-- none of the eight causes applies
pub record Lawful (s : List ℕ) : Type 0 where
  pub not1 : is_too_short s ≡ false
  pub not2 : has_wrong_version s ≡ false
  pub not3 : has_wrong_length s ≡ false
  pub not4 : has_broken_section s ≡ false
  pub not5 : is_out_of_range s ≡ false
  pub not6 : has_bad_record s ≡ false
  pub not7 : repeats_arrow s ≡ false
  pub not8 : has_cycle s ≡ false

passes : (b : Bool) (c : Cause) (v : Verdict) → verdict_if b (Err c) v ≡ Ok tt → (b ≡ false) × (v ≡ Ok tt)
unfolding verdict_if
passes true c v e = let z : ◌≡◌ {A = ℕ} 0 1 = cc in absurd (omega arith)
passes false c v e = (refl, e)

pub accepted_lawful : (s : List ℕ) → verdict s ≡ Ok tt → Lawful s
unfolding verdict first_of tests
accepted_lawful s e =
    let p1 = passes (is_too_short s) _ _ e in
    let p2 = passes (has_wrong_version s) _ _ p1.1 in
    let p3 = passes (has_wrong_length s) _ _ p2.1 in
    let p4 = passes (has_broken_section s) _ _ p3.1 in
    let p5 = passes (is_out_of_range s) _ _ p4.1 in
    let p6 = passes (has_bad_record s) _ _ p5.1 in
    let p7 = passes (repeats_arrow s) _ _ p6.1 in
    let p8 = passes (has_cycle s) _ _ p7.1 in
    record { not1 = p1.0; not2 = p2.0; not3 = p3.0; not4 = p4.0; not5 = p5.0; not6 = p6.0; not7 = p7.0; not8 = p8.0 }

-- a record with its length byte
pub framed : List ℕ → List ℕ
framed r = length r ∷ r

frames_in : (k : ℕ) (s : List ℕ) → length s ≤ k → meets_end_in k s ≡ true → flat (map framed (records_in k s)) ≡ s
unfolding meets_end_in records_in flat framed
frames_in zero [] h e = refl
frames_in zero (x ∷ s) h e = absurd (omega arith)
frames_in (suc k) [] h e = refl
frames_in (suc k) (x ∷ s) h e =
    let b : x ≤ length s = leb-true x (length s) (and_left (leb x (length s)) (meets_end_in k (drop x s)) e) in
    let r : flat (map framed (records_in k (drop x s))) ≡ drop x s = frames_in k (drop x s) (simp length-drop (omega arith)) (and_right (leb x (length s)) (meets_end_in k (drop x s)) e) in
    rw (r, length-take-le x s b) (ap (λ (t : List ℕ). x ∷ t) (take-append-drop x s))

-- bytes whose records meet their end are those records, each behind its length byte
pub meets_frames : (s : List ℕ) → meets_end s ≡ true → flat (map framed (records s)) ≡ s
unfolding meets_end records
meets_frames s e = frames_in (length s) s (omega arith) e

frames_short : (k : ℕ) (rs : List (List ℕ)) → ((r : List ℕ) → r ∈ rs → length r ≤ k) → length (flat (map framed rs)) ≤ length rs * suc k
unfolding flat framed
frames_short k [] h = omega arith
frames_short k (r ∷ rs) h =
    let a : length r ≤ k = h r (Memᴰ.head refl) in
    let b : length (flat (map framed rs)) ≤ length rs * suc k = frames_short k rs (λ x m. h x (Memᴰ.tail m)) in
    simp length-append (omega arith)

-- records of at most k bytes, each behind its length byte
pub meets_short : (s : List ℕ) (k : ℕ) → meets_end s ≡ true → ((r : List ℕ) → r ∈ records s → length r ≤ k) → length s ≤ length (records s) * suc k
meets_short s k e h = let b : length (flat (map framed (records s))) ≤ length (records s) * suc k = frames_short k (records s) h in omega (arith, ap length (meets_frames s e))
