-- A record as the code makes it, byte by byte and bit by bit: one more bit doubles the number, one more byte goes behind the
-- others. The proofs of `record_byte` and `record_of` cite it. Assumes nothing.
use mathlib.Core.Path.{◌≡◌, refl, sym, ap, ◌∙◌}
use mathlib.Core.Bool.{Bool, true, false}
use mathlib.Core.List.{List, [], ◌∷◌, ◌++◌}
use Prim.Native.Nat.{ℕ, zero, suc, ◌+◌, ◌*◌, ◌^◌, ◌≤◌, ◌<◌}
use native.Mathlib.Numerals.{add-one}
use native.Mathlib.Nat.{pow-suc, pow-le-pow_right}
use native.Mathlib.Omega.{arith}
use lib.ListN.{length, take, drop, set}
use lib.Seq.{take-suc-set, drop-drop, get_or-drop}
use Rattle.models.specs.StableModels.{Interpretation, atom_holds}
use Rattle.models.specs.Listing.{bit_value, bits_value, packed}
use Rattle.models.proofs.RecordLaws.{bit_le, high_lt}

-- a byte
double : (a : Bool) (k : ℕ) → bit_value a (2 ^ suc k) ≡ bit_value a (2 ^ k) + bit_value a (2 ^ k)
unfolding bit_value
double true k = omega (arith, pow-suc 2 k)
double false k = refl

bits_snoc : (i : ℕ) (m : Interpretation) → bits_value (suc i) m ≡ bits_value i m + bits_value i m + bit_value (atom_holds m i) 1
unfolding bits_value bit_value atom_holds
bits_snoc zero [] = refl
bits_snoc zero (true ∷ m) = refl
bits_snoc zero (false ∷ m) = refl
bits_snoc (suc i) [] = refl
bits_snoc (suc i) (a ∷ m) = omega (arith, double a i, bits_snoc i m)

pub byte_start : (m : Interpretation) → 0 ≡ bits_value 0 m
unfolding bits_value
byte_start m = refl

pub byte_step : (m : Interpretation) (at i v b : ℕ) → v ≡ bits_value i (drop at m) → b ≡ bit_value (atom_holds m (at + i)) 1 → 2 * v + b ≡ bits_value (i + 1) (drop at m)
unfolding atom_holds
byte_step m at i v b e f = rw (add-one i, bits_snoc i (drop at m), get_or-drop at m i false, ← e, ← f) (omega arith)

-- before the last bit there is room for one more
pub byte_fits : (m : Interpretation) (at i v : ℕ) → v ≡ bits_value i (drop at m) → i < 8 → v < 128
byte_fits m at i v e h = omega (arith, high_lt i (drop at m), pow-le-pow_right {n = 2} (omega arith) (let u : i ≤ 7 = omega arith in u))

-- a record
packed_snoc : (j : ℕ) (m : Interpretation) → packed (suc j) m ≡ packed j m ++ (bits_value 8 (drop (8 * j) m) ∷ [])
unfolding packed
packed_snoc zero m = refl
packed_snoc (suc j) m =
    let e : 8 * suc j ≡ 8 + 8 * j = omega arith in
    ap (λ (t : List ℕ). bits_value 8 m ∷ t)
    (packed_snoc j (drop 8 m) ∙ ap (λ (t : Interpretation). packed j (drop 8 m) ++ (bits_value 8 t ∷ [])) (drop-drop (8 * j) 8 m ∙ ap (λ (k : ℕ). drop k m) (sym e)))

pub record_start : (m : Interpretation) → [] ≡ packed 0 m
unfolding packed
record_start m = refl

pub record_step : (r : List ℕ) (m : Interpretation) (j v : ℕ) → j < length r → take j r ≡ packed j m → v ≡ bits_value 8 (drop (8 * j) m) → take (j + 1) (set r j v) ≡ packed (j + 1) m
record_step r m j v h e f = rw (add-one j, take-suc-set r j v h, packed_snoc j m, e, f) refl

-- what the proofs of `record_byte` and of `record_of` apply
pub ruleset byte_steps = (byte_start, byte_step, byte_fits, bit_le)

pub ruleset record_steps = (record_start, record_step)
