-- A record compared with a state's, byte by byte: each turn takes the first bytes away or ends on them. And with a distance in front of each.
-- Used by precedes and stays. Assumes nothing.
use mathlib.Core.Path.{◌≡◌, refl, sym, ap, ◌∙◌}
use mathlib.Core.Bool.{Bool, false}
use mathlib.Core.List.{List, ◌∷◌}
use Prim.Native.Nat.{ℕ, zero, suc, ◌+◌, ◌*◌, ◌<◌, ◌≤◌}
use native.Mathlib.Decide.{dec_lt}
use native.Mathlib.Omega.{arith}
use borrow.Author.Tests.{lt-ltb, le-ltb}
use lib.Dec.{ltb}
use lib.ListN.{length, get_or, drop, drop_of_length-le}
use native.Mathlib.Numerals.{add-one}
use lib.Seq.{drop-cons, drop-drop}
use Rattle.insertion.specs.Runs.{bytes_before}
use Rattle.insertion.proofs.ByteOrder.{before_by_first, not-before_by_first, before_by_rest, bytes_asym}
use Rattle.models.specs.StableModels.{Interpretation}
use Rattle.models.specs.Listing.{bits_value, packed, record_size, record_of}
use Rattle.models.proofs.RecordLaws.{record_length}

packed_at : (k j : ℕ) (m : Interpretation) → j < k → get_or (packed k m) j 0 ≡ bits_value 8 (drop (8 * j) m)
unfolding packed
packed_at zero j m h = absurd (omega arith)
packed_at (suc k) zero m h = let z : 8 * 0 ≡ 0 = omega arith in ap (λ (i : ℕ). bits_value 8 (drop i m)) (sym z)
packed_at (suc k) (suc j) m h =
    packed_at k j (drop 8 m) (omega arith) ∙ ap (bits_value 8) (drop-drop (8 * j) 8 m ∙ ap (λ (i : ℕ). drop i m) (let z : 8 + 8 * j ≡ 8 * suc j = omega arith in z))

-- the bytes from j on have the answer
abbrev pub From : ℕ → Interpretation → List ℕ → ℕ → Type 0
From n m part j = bytes_before part (record_of n m) ≡ bytes_before (drop j part) (drop j (record_of n m))

pub size_few : (n : ℕ) → 8 * record_size n ≤ n + 7
unfolding record_size
size_few n = omega arith

module _ (n : ℕ) (m : Interpretation) (part : List ℕ) (size : length part ≡ record_size n) where
  abbrev rec : List ℕ
  rec = record_of n m

  wide : length rec ≡ length part
  wide = record_length n m ∙ sym size

  pub at_end : (j : ℕ) → length part ≤ j → From n m part j → false ≡ bytes_before part rec
  unfolding bytes_before
  at_end j h f = sym (f ∙ rw (drop_of_length-le part {i = j} h, drop_of_length-le rec {i = j} (omega (arith, wide))) refl)

  module _ (j : ℕ) (h : j < length part) (byte : ℕ) (is : byte ≡ bits_value 8 (drop (8 * j) m)) (f : From n m part j) where
    byte_at : get_or rec j 0 ≡ byte
    unfolding record_of
    byte_at = packed_at (record_size n) j m (omega (arith, size)) ∙ sym is

    -- the bytes from j on begin with these two
    opened : bytes_before part rec ≡ bytes_before (get_or part j 0 ∷ drop (j + 1) part) (byte ∷ drop (j + 1) rec)
    opened = f ∙ rw (add-one j, drop-cons part j 0 h, drop-cons rec j 0 (omega (arith, wide)), byte_at) refl

    -- where they differ they decide
    pub decides_here : (get_or part j 0 ≡ byte → ⊥) → ltb (get_or part j 0) byte ≡ bytes_before part rec
    decides_here d = go (dec_lt (get_or part j 0) byte) ∙ sym opened
      where
        go : Dec (get_or part j 0 < byte) → ltb (get_or part j 0) byte ≡ bytes_before (get_or part j 0 ∷ drop (j + 1) part) (byte ∷ drop (j + 1) rec)
        go (yes l) = lt-ltb (get_or part j 0) byte l ∙ sym (before_by_first (get_or part j 0) byte (drop (j + 1) part) (drop (j + 1) rec) l)
        go (no l) = le-ltb (get_or part j 0) byte (omega arith) ∙ sym (not-before_by_first (get_or part j 0) byte (drop (j + 1) part) (drop (j + 1) rec) (omega arith))

    pub goes_on : get_or part j 0 ≡ byte → From n m part (j + 1)
    goes_on k = opened ∙ before_by_rest (get_or part j 0) byte (drop (j + 1) part) (drop (j + 1) rec) k

-- ---- with the distances in front
module _ (d e : ℕ) (part rec : List ℕ) where
  pub stays_as_far : d ≡ e → (r : Bool) → r ≡ bytes_before part rec → r ≡ bytes_before (d ∷ part) (e ∷ rec)
  stays_as_far k r q = q ∙ sym (before_by_rest d e part rec k)

  pub stays_by_distance : (d ≡ e → ⊥) → ltb d e ≡ bytes_before (d ∷ part) (e ∷ rec)
  stays_by_distance k = go (dec_lt d e)
    where
      go : Dec (d < e) → ltb d e ≡ bytes_before (d ∷ part) (e ∷ rec)
      go (yes l) = lt-ltb d e l ∙ sym (before_by_first d e part rec l)
      go (no l) = le-ltb d e (omega arith) ∙ sym (bytes_asym (e ∷ rec) (d ∷ part) (before_by_first e d rec part (omega arith)))
