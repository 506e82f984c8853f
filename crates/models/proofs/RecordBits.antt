-- A record's bits are the state's facts: bit 7 - (f mod 8) of byte f div 8 is fact f. Used by the reading of a candidate.
-- Assumes nothing.
use mathlib.Core.Path.{◌≡◌, refl, ap, subst, ◌∙◌}
use mathlib.Core.Bool.{Bool, true, false, not}
use mathlib.Core.List.{[], ◌∷◌}
use Prim.Native.Nat.{ℕ, zero, suc, ◌+◌, ◌*◌, ◌-◌, ◌/◌, ◌%◌, ◌^◌, ◌<◌, ◌≤◌}
use native.Mathlib.Nat.{zero-div, div-eq_of_lt, mul-add-div_right, pow-suc}
use native.Mathlib.Omega.{arith}
use mathlib.Core.Logic.{◌⊎◌, inl, inr}
use lib.Dec.{T, eqb, ltb, ltb→lt, nltb→le}
use Rattle.base.proofs.Members.{test}
use lib.Pow.{pow_pos, pow-add, high as digits}
use lib.ListN.{get_or, drop}
use lib.Seq.{get_or-drop}
use Rattle.models.specs.StableModels.{Interpretation, atom_holds}
use Rattle.models.specs.Listing.{bit_value, bits_value, packed, bit_at, record_of, record_size}
use Rattle.models.proofs.RecordLaws.{high_lt}

high_bit : (k f j : ℕ) (m : Interpretation) → k ≡ f + suc j → bits_value k m / 2 ^ j % 2 ≡ bit_value (get_or m f false) 1
unfolding bits_value bit_value
high_bit zero f j m e = absurd (omega arith)
high_bit (suc k) f j [] e = ap (λ (x : ℕ). x % 2) (zero-div (2 ^ j))
high_bit (suc k) zero j (true ∷ m) e =
    let q : k ≡ j = omega arith in
    ap (λ (x : ℕ). (2 ^ x + bits_value k m) / 2 ^ j % 2) q
    ∙ ap (λ (x : ℕ). x % 2) (ap (λ (x : ℕ). x / 2 ^ j) {x = 2 ^ j + bits_value k m} {y = 1 * 2 ^ j + bits_value k m} (omega arith) ∙ digits 1 j (subst (λ (x : ℕ). bits_value k m < 2 ^ x) q (high_lt k m)))
high_bit (suc k) zero j (false ∷ m) e =
    let q : k ≡ j = omega arith in
    ap (λ (x : ℕ). x % 2) (div-eq_of_lt (let h : bits_value k m < 2 ^ j = subst (λ (x : ℕ). bits_value k m < 2 ^ x) q (high_lt k m) in let u : 0 + bits_value k m < 2 ^ j = omega arith in u))
high_bit (suc k) (suc f) j (true ∷ m) e =
    let q : k ≡ f + suc j = omega arith in
    let p : 2 ^ k ≡ 2 ^ f * 2 * 2 ^ j = ap (λ (x : ℕ). 2 ^ x) q ∙ pow-add 2 f (suc j) ∙ ap (λ (x : ℕ). 2 ^ f * x) (pow-suc 2 j) ∙ omega arith in
    let d : (2 ^ f * 2 * 2 ^ j + bits_value k m) / 2 ^ j ≡ 2 ^ f * 2 + bits_value k m / 2 ^ j = mul-add-div_right (pow_pos j) (2 ^ f * 2) (bits_value k m) in
    ap (λ (x : ℕ). (x + bits_value k m) / 2 ^ j % 2) p ∙ ap (λ (x : ℕ). x % 2) d
    ∙ (let r : (2 ^ f * 2 + bits_value k m / 2 ^ j) % 2 ≡ (bits_value k m / 2 ^ j) % 2 = omega arith in r)
    ∙ high_bit k f j m q
high_bit (suc k) (suc f) j (false ∷ m) e =
    ap (λ (x : ℕ). x / 2 ^ j % 2) {x = 0 + bits_value k m} {y = bits_value k m} (omega arith) ∙ high_bit k f j m (omega arith)

tested : (c : Bool) → eqb (bit_value c 1) 1 ≡ c
unfolding bit_value
tested true = refl
tested false = refl

pub packed-bit : (k f : ℕ) (m : Interpretation) → f < 8 * k → bit_at (packed k m) f ≡ atom_holds m f
unfolding packed bit_at atom_holds
packed-bit zero f m h = absurd (omega arith)
packed-bit (suc k) f m h = go (test (ltb f 8)) (λ u. packed-bit k (f - 8) (drop 8 m) u)
  where
    go : T (ltb f 8) ⊎ T (not (ltb f 8)) → (f - 8 < 8 * k → bit_at (packed k (drop 8 m)) (f - 8) ≡ atom_holds (drop 8 m) (f - 8)) → bit_at (bits_value 8 m ∷ packed k (drop 8 m)) f ≡ atom_holds m f
    go (inl t) rec =
        let l : f < 8 = ltb→lt f 8 t in
        ap (λ (i : ℕ). eqb (get_or (bits_value 8 m ∷ packed k (drop 8 m)) i 0 / 2 ^ (7 - f % 8) % 2) 1) {x = f / 8} {y = 0} (omega arith)
        ∙ ap (λ (i : ℕ). eqb (bits_value 8 m / 2 ^ (7 - i) % 2) 1) {x = f % 8} {y = f} (omega arith)
        ∙ ap (λ (i : ℕ). eqb i 1) (high_bit 8 f (7 - f) m (omega arith))
        ∙ tested (get_or m f false)
    go (inr t) rec =
        let l : 8 ≤ f = nltb→le f 8 t in
        ap (λ (i : ℕ). eqb (get_or (bits_value 8 m ∷ packed k (drop 8 m)) i 0 / 2 ^ (7 - f % 8) % 2) 1) {x = f / 8} {y = suc ((f - 8) / 8)} (omega arith)
        ∙ ap (λ (i : ℕ). eqb (get_or (packed k (drop 8 m)) ((f - 8) / 8) 0 / 2 ^ (7 - i) % 2) 1) {x = f % 8} {y = (f - 8) % 8} (omega arith)
        ∙ rec (omega arith)
        ∙ get_or-drop 8 m (f - 8) false
        ∙ ap (λ (i : ℕ). get_or m i false) {x = 8 + (f - 8)} {y = f} (omega arith)

pub record_bit : (n f : ℕ) (m : Interpretation) → f < n → bit_at (record_of n m) f ≡ atom_holds m f
unfolding record_of record_size
record_bit n f m h = packed-bit ((n + 7) / 8) f m (omega arith)
