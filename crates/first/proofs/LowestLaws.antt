-- The lowest bit of a mask, as the code takes it: d without d - 1. Used for the test of a group. Assumes nothing.
use mathlib.Core.Path.{◌≡◌, sym, ap, ◌∙◌}
use Prim.Native.Nat.{ℕ, zero, suc, ◌-◌, ◌/◌, ◌%◌, ◌^◌, ◌<◌}
use native.Mathlib.Decide.{ℕ_discrete}
use native.Mathlib.Omega.{arith}
use lib.Bits.{differ, bit_xor, xor_step, xor_shr}
use Rattle.layers.specs.Masks.{bit_of}
use Rattle.layers.proofs.BitLaws.{bit-small}
use Rattle.setting.proofs.BitMaskLaws.{low_bit, half_bit}

-- its place: the bits under it are 0, and no other bit of d is one that d - 1 lacks
pub record Lowest (d : ℕ) : Type 0 where
  pub place : ℕ
  pub is_set : bit_of d place ≡ 1
  pub under : (j : ℕ) → j < place → bit_of d j ≡ 0
  pub only : (k : ℕ) → bit_of d k - bit_of (d - 1) k ≡ 1 → k ≡ place

lowest_odd : (d : ℕ) → d % 2 ≡ 1 → Lowest d
lowest_odd d e = record { place = 0; is_set = low_bit d ∙ e; under = λ j h. absurd (omega arith); only = only }
  where
    half : (d - 1) / 2 ≡ d / 2
    half = omega arith

    only : (k : ℕ) → bit_of d k - bit_of (d - 1) k ≡ 1 → k ≡ 0
    only zero h = omega arith
    only (suc k) h = absurd (omega (arith, half_bit d k, sym (half_bit (d - 1) k) ∙ ap (λ (x : ℕ). bit_of x k) half))

lowest_even : (d : ℕ) → d % 2 ≡ 0 → 0 < d → Lowest (d / 2) → Lowest d
lowest_even d e p l = record { place = suc l.place; is_set = sym (half_bit d l.place) ∙ l.is_set; under = under; only = only }
  where
    half : (d - 1) / 2 ≡ d / 2 - 1
    half = omega arith

    under : (j : ℕ) → j < suc l.place → bit_of d j ≡ 0
    under zero h = low_bit d ∙ e
    under (suc j) h = sym (half_bit d j) ∙ l.under j (omega arith)

    only : (k : ℕ) → bit_of d k - bit_of (d - 1) k ≡ 1 → k ≡ suc l.place
    only zero h = absurd (omega (arith, low_bit d, bit-small (d - 1) 0))
    only (suc k) h =
        let a : bit_of d (suc k) ≡ bit_of (d / 2) k = sym (half_bit d k) in
        let b : bit_of (d - 1) (suc k) ≡ bit_of (d / 2 - 1) k = sym (half_bit (d - 1) k) ∙ ap (λ (x : ℕ). bit_of x k) half in
        ap suc (l.only k (omega (arith, a, b, h)))

lowest_to : (k d : ℕ) → d < k → 0 < d → Lowest d
lowest_to zero d h p = absurd (omega arith)
lowest_to (suc k) d h p = go (ℕ_discrete (d % 2) 1) (λ a b. lowest_to k (d / 2) a b)
  where
    go : Dec (d % 2 ≡ 1) → (d / 2 < k → 0 < d / 2 → Lowest (d / 2)) → Lowest d
    go (yes e) f = lowest_odd d e
    go (no n) f = lowest_even d (omega arith) p (f (omega arith) (omega arith))

pub lowest : (d : ℕ) → 0 < d → Lowest d
lowest d p = lowest_to (suc d) d (omega arith) p

-- ---- a bit of what two masks differ in
differ-small : (x y : ℕ) → x < 2 → y < 2 → differ x y < 2
differ-small zero y h k = k
differ-small (suc x) zero h k = h
differ-small (suc x) (suc y) h k = differ-small x y (omega arith) (omega arith)

bit_xor_lem : (a b j : ℕ) → bit_of (bit_xor a b) j ≡ differ (bit_of a j) (bit_of b j)
bit_xor_lem a b j = rw (xor_shr a b j) (omega (arith, xor_step (a / 2 ^ j) (b / 2 ^ j), differ-small (bit_of a j) (bit_of b j) (bit-small a j) (bit-small b j)))

differ-none : (x y : ℕ) → differ x y ≡ 0 → x ≡ y
differ-none zero y e = sym e
differ-none (suc x) zero e = e
differ-none (suc x) (suc y) e = ap suc (differ-none x y e)

differ_one : (x y : ℕ) → x ≡ 1 → y < 2 → differ x y ≡ 1 → y ≡ 0
differ_one zero y f h e = absurd (omega arith)
differ_one (suc x) zero f h e = omega arith
differ_one (suc zero) (suc y) f h e = absurd (omega (arith, e))
differ_one (suc (suc x)) (suc y) f h e = absurd (omega arith)

module _ (a b j : ℕ) where
  pub xor_same : (bit_of (bit_xor a b) j ≡ 1 → ⊥) → bit_of a j ≡ bit_of b j
  xor_same f = differ-none (bit_of a j) (bit_of b j) (sym (bit_xor_lem a b j) ∙ omega (arith, bit-small (bit_xor a b) j))

  pub xor_first : bit_of (bit_xor a b) j ≡ 1 → bit_of a j ≡ 1 → bit_of b j ≡ 0
  xor_first e f = differ_one (bit_of a j) (bit_of b j) f (bit-small b j) (sym (bit_xor_lem a b j) ∙ e)
