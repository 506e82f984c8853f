-- "A candidate has the form of one record": bytes that cause 10 lets through are exactly the records of the states of n facts, and
-- the state that is read from them is the one. Assumes nothing.
use mathlib.Core.Path.{◌≡◌, sym, ap, subst, ◌∙◌}
use mathlib.Core.Logic.{◌↔◌}
use mathlib.Core.Bool.{false, not, ◌&&◌, false≢true}
use mathlib.Core.List.{List, map}
use Prim.Native.Nat.{ℕ, zero, suc, ◌+◌, ◌*◌, ◌-◌, ◌/◌, ◌%◌, ◌^◌, ◌<◌, ◌≤◌}
use native.Mathlib.Decide.{dec_lt, ℕ_discrete}
use native.Mathlib.Nat.{div-div-eq-div-mul, pow-suc}
use native.Mathlib.Omega.{arith}
use borrow.Author.Tests.{eq-eqb, ne_eqb, eqb-true, leb-true, le-leb, not-false}
use lib.Dec.{T, eqb, leb}
use lib.ListN.{length, get_or, drop, get_or-eq_default}
use lib.Seq.{ext_get_or}
use Rattle.base.specs.Lists.{any, up_to}
use Rattle.base.proofs.Members.{◌∈◌, and_left, and_right, and_both, any_at, any_of}
use Rattle.base.proofs.MapLaws.{map-length, map_at}
use Rattle.base.proofs.UpTo.{passed, failed, up_to_lt, up_to_has}
use Rattle.models.specs.StableModels.{Interpretation, atom_holds}
use Rattle.models.specs.Listing.{packed, record_size, record_of, bit_at, interpretation_of}
use Rattle.models.proofs.RecordLaws.{high_lt, packed-length, record_length}
use Rattle.models.proofs.RecordBits.{packed-bit, record_bit}
use Rattle.format.proofs.SectionLaws.{or_first, or_second}
use Rattle.candidate.specs.Candidate.{has_spare_bit, is_bad_candidate}

-- bytes, as the code lends them
abbrev pub Bytes : List ℕ → Type 0
Bytes s = (i : ℕ) → get_or s i 0 < 256

-- bytes with the same bits are the same
bit-same : (a b : ℕ) → a < 2 → b < 2 → eqb a 1 ≡ eqb b 1 → a ≡ b
bit-same a b h i e = go (ℕ_discrete a 1) (ℕ_discrete b 1)
  where
    go : Dec (a ≡ 1) → Dec (b ≡ 1) → a ≡ b
    go (yes p) (yes q) = omega arith
    go (yes p) (no q) = absurd (false≢true (sym (ne_eqb b 1 q) ∙ sym e ∙ eq-eqb a 1 p))
    go (no p) (yes q) = absurd (false≢true (sym (ne_eqb a 1 p) ∙ e ∙ eq-eqb b 1 q))
    go (no p) (no q) = omega arith

half_bit : (a j : ℕ) → a / 2 / 2 ^ j % 2 ≡ a / 2 ^ suc j % 2
half_bit a j = ap (λ (k : ℕ). k % 2) (div-div-eq-div-mul a 2 (2 ^ j) ∙ ap (λ (k : ℕ). a / k) {x = 2 * 2 ^ j} {y = 2 ^ suc j} (omega (arith, pow-suc 2 j)))

number_same : (k a b : ℕ) → a < 2 ^ k → b < 2 ^ k → ((j : ℕ) → j < k → a / 2 ^ j % 2 ≡ b / 2 ^ j % 2) → a ≡ b
number_same zero a b h i e = omega arith
number_same (suc k) a b h i e =
    let q : a / 2 ≡ b / 2 =
    number_same k (a / 2) (b / 2) (omega (arith, pow-suc 2 k)) (omega (arith, pow-suc 2 k)) (λ j l. half_bit a j ∙ e (suc j) (omega arith) ∙ sym (half_bit b j)) in
    omega (arith, e 0 (omega arith))

bit-place : (s : List ℕ) (i j : ℕ) → j < 8 → bit_at s (8 * i + (7 - j)) ≡ eqb (get_or s i 0 / 2 ^ j % 2) 1
unfolding bit_at
bit-place s i j h =
    ap (λ (k : ℕ). eqb (get_or s k 0 / 2 ^ (7 - (8 * i + (7 - j)) % 8) % 2) 1) {x = (8 * i + (7 - j)) / 8} {y = i} (omega arith)
    ∙ ap (λ (k : ℕ). eqb (get_or s i 0 / 2 ^ k % 2) 1) {x = 7 - (8 * i + (7 - j)) % 8} {y = j} (omega arith)

bits-same : (s t : List ℕ) → length s ≡ length t → Bytes s → Bytes t → ((f : ℕ) → f < 8 * length s → bit_at s f ≡ bit_at t f) → s ≡ t
bits-same s t l p q e =
    ext_get_or 0 s t l
    (λ i h. number_same 8 (get_or s i 0) (get_or t i 0) (p i) (q i)
    (λ j k. bit-same (get_or s i 0 / 2 ^ j % 2) (get_or t i 0 / 2 ^ j % 2) (omega arith) (omega arith)
    (sym (bit-place s i j k) ∙ e (8 * i + (7 - j)) (omega arith) ∙ bit-place t i j k)))

packed-bytes : (k : ℕ) (m : Interpretation) → Bytes (packed k m)
unfolding packed
packed-bytes zero m i = omega arith
packed-bytes (suc k) m zero = high_lt 8 m
packed-bytes (suc k) m (suc i) = packed-bytes k (drop 8 m) i

-- the bits of a candidate
module _ (n : ℕ) (s : List ℕ) (ok : is_bad_candidate n s ≡ false) where
  pub ok_length : length s ≡ record_size n
  unfolding is_bad_candidate
  ok_length = eqb-true (length s) (record_size n) (not-false (eqb (length s) (record_size n)) (or_first (not (eqb (length s) (record_size n))) (has_spare_bit n s) ok))

  ok_spare : (f : ℕ) → n ≤ f → f < 8 * record_size n → bit_at s f ≡ false
  unfolding is_bad_candidate has_spare_bit
  ok_spare f h i =
      failed (bit_at s f)
      (λ t. false≢true (sym (or_second (not (eqb (length s) (record_size n))) (any (λ f. leb n f && bit_at s f) (up_to (8 * record_size n))) ok)
      ∙ passed (any (λ f. leb n f && bit_at s f) (up_to (8 * record_size n)))
      (any_of (λ f. leb n f && bit_at s f) (up_to_has (8 * record_size n) f i) (and_both (leb n f) (bit_at s f) (subst T (sym (le-leb n f h)) tt) t))))

  read_bit : (f : ℕ) → f < 8 * record_size n → atom_holds (interpretation_of n s) f ≡ bit_at s f
  unfolding atom_holds interpretation_of
  read_bit f i = go (dec_lt f n)
    where
      go : Dec (f < n) → get_or (map (bit_at s) (up_to n)) f false ≡ bit_at s f
      go (yes h) = map_at (bit_at s) n false f h
      go (no h) = get_or-eq_default (map (bit_at s) (up_to n)) false (omega (arith, map-length (bit_at s) n)) ∙ sym (ok_spare f (omega arith) i)

  -- the record of the state that is read is the candidate
  read_record : Bytes s → record_of n (interpretation_of n s) ≡ s
  unfolding record_of
  read_record b =
      bits-same (packed (record_size n) (interpretation_of n s)) s (packed-length (record_size n) (interpretation_of n s) ∙ sym ok_length) (packed-bytes (record_size n) (interpretation_of n s)) b
      (λ f h. let i : f < 8 * record_size n = omega (arith, packed-length (record_size n) (interpretation_of n s)) in
      packed-bit (record_size n) f (interpretation_of n s) i ∙ read_bit f i)

pub read_length : (n : ℕ) (s : List ℕ) → length (interpretation_of n s) ≡ n
unfolding interpretation_of
read_length n s = map-length (bit_at s) n

-- a record is a candidate
record_past : (n : ℕ) (m : Interpretation) → length m ≡ n → (f : ℕ) → f < 8 * record_size n → n ≤ f → bit_at (record_of n m) f ≡ false
unfolding record_of atom_holds
record_past n m l f h i = packed-bit (record_size n) f m h ∙ get_or-eq_default m false (omega arith)

module _ (n : ℕ) (m : Interpretation) (l : length m ≡ n) where
  record_ok : is_bad_candidate n (record_of n m) ≡ false
  unfolding is_bad_candidate has_spare_bit
  record_ok =
      rw (eq-eqb (length (record_of n m)) (record_size n) (record_length n m))
      (failed (any (λ f. leb n f && bit_at (record_of n m) f) (up_to (8 * record_size n)))
      (λ t.
      let w : (f : ℕ) × f ∈ up_to (8 * record_size n) × T (leb n f && bit_at (record_of n m) f) = any_at (λ f. leb n f && bit_at (record_of n m) f) (up_to (8 * record_size n)) t in
      subst T (record_past n m l w.0 (up_to_lt (8 * record_size n) w.0 w.1) (leb-true n w.0 (passed (leb n w.0) (and_left (leb n w.0) (bit_at (record_of n m) w.0) w.2))))
      (and_right (leb n w.0) (bit_at (record_of n m) w.0) w.2)))

  -- and gives its state back
  pub record_read : interpretation_of n (record_of n m) ≡ m
  unfolding interpretation_of atom_holds
  record_read =
      ext_get_or false (map (bit_at (record_of n m)) (up_to n)) m (map-length (bit_at (record_of n m)) n ∙ sym l)
      (λ f h. let i : f < n = omega (arith, map-length (bit_at (record_of n m)) n) in map_at (bit_at (record_of n m)) n false f i ∙ record_bit n f m i)

-- Document 01: "A candidate has the form of one record."
pub candidate_is_record : (n : ℕ) (s : List ℕ) → Bytes s → (is_bad_candidate n s ≡ false) ↔ ((m : Interpretation) × (length m ≡ n) × (record_of n m ≡ s))
candidate_is_record n s b =
    (λ ok. (interpretation_of n s, read_length n s, read_record n s ok b), λ w. subst (λ (t : List ℕ). is_bad_candidate n t ≡ false) w.2 (record_ok n w.0 w.1))
