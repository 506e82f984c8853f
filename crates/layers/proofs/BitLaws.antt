-- Masks bit by bit: the bits of a power of two, of two masks joined, of what they share, of the first without the second and of
-- nothing, and one more bit in a list of masks. Used by the closure and by every crate that keeps masks. Assumes nothing.
use mathlib.Core.Path.{◌≡◌, refl, sym, ap, subst, ◌∙◌}
use mathlib.Core.Bool.{Bool, true, false, ◌&&◌, ◌||◌, false≢true}
use mathlib.Core.Logic.{◌⊎◌, inl, inr}
use mathlib.Core.List.{List}
use Prim.Native.Nat.{ℕ, zero, suc, ◌+◌, ◌*◌, ◌-◌, ◌/◌, ◌%◌, ◌^◌, ◌<◌, ◌≤◌, min, max}
use native.Mathlib.Omega.{arith}
use native.Mathlib.Nat.{zero-div, div-one, div-eq_of_lt, div_self, div-div-eq-div-mul, mod-eq_of_lt, mul_comm, mul-div_cancel, pow-suc}
use native.Mathlib.Decide.{dec_lt, ℕ_discrete}
use borrow.Author.Tests.{eq-eqb, ne_eqb}
use lib.Pow.{pow_pos, pow-lt, pow-add}
use lib.Bits.{differ, bit_or, bit_and, bit_xor, xor_step, xor_shr, or_step, or_shr, and_step, and_shr}
use lib.Dec.{eqb}
use lib.ListN.{length, get_or, set, replicate}
use lib.Seq.{get_or-set_same, get_or-set_other}
use Rattle.base.specs.Bounds.{max_layers}
use Rattle.base.proofs.MapLaws.{constant_at}
use Rattle.layers.specs.Layers.{link, same_arrow}
use Rattle.layers.specs.Masks.{bit_of, marked}

-- tests joined, as equations
pub or_true : (b : Bool) → true ≡ (b || true)
or_true true = refl
or_true false = refl

pub or_false : (b : Bool) → (b || false) ≡ b
or_false true = refl
or_false false = refl

pub or_assoc : (a b c : Bool) → (a || b || c) ≡ (a || (b || c))
or_assoc true b c = refl
or_assoc false b c = refl

pub and_left : (a b : Bool) → (a && b) ≡ true → a ≡ true
and_left true b e = refl
and_left false b e = e

pub and_right : (a b : Bool) → (a && b) ≡ true → b ≡ true
and_right true b e = e
and_right false b e = absurd (false≢true e)

pub bit-small : (a j : ℕ) → bit_of a j < 2
bit-small a j = omega arith

-- the bits of a power of two, in a mask of 32
pub pow-fits : (j : ℕ) → j < 32 → 1 * 2 ^ j % 4294967296 ≡ 2 ^ j
pow-fits j h = let b : 2 ^ j < 2 ^ 32 = pow-lt h in mod-eq_of_lt {n = 1 * 2 ^ j} {m = 4294967296} (omega arith) ∙ omega arith

pub bit-same : (j : ℕ) → bit_of (2 ^ j) j ≡ 1
bit-same j =
    let e : 2 ^ j / 2 ^ j ≡ 1 = div_self (pow_pos j) in
    rw e refl

bit_above : (j y : ℕ) → j < y → bit_of (2 ^ j) y ≡ 0
bit_above j y h = let e : 2 ^ j / 2 ^ y ≡ 0 = div-eq_of_lt (pow-lt h) in rw e refl

bit_under : (y d : ℕ) → bit_of (2 ^ (suc d + y)) y ≡ 0
bit_under y d =
    let e : 2 ^ (suc d + y) / 2 ^ y ≡ 2 ^ suc d = ap (λ (k : ℕ). k / 2 ^ y) (pow-add 2 (suc d) y) ∙ mul-div_cancel (2 ^ suc d) (pow_pos y) in
    rw (e, pow-suc 2 d) (omega arith)

pub bit-other : (j y : ℕ) → (j ≡ y → ⊥) → bit_of (2 ^ j) y ≡ 0
bit-other j y n = go (dec_lt j y)
  where
    go : Dec (j < y) → bit_of (2 ^ j) y ≡ 0
    go (yes h) = bit_above j y h
    go (no h) = let e : suc (j - y - 1) + y ≡ j = omega arith in subst (λ (k : ℕ). bit_of (2 ^ k) y ≡ 0) e (bit_under y (j - y - 1))

-- a bit of two masks joined, or of what they share
pub bit-or : (a b j : ℕ) → bit_of (bit_or a b) j ≡ max (bit_of a j) (bit_of b j)
bit-or a b j = rw (or_shr a b j) (omega (arith, or_step (a / 2 ^ j) (b / 2 ^ j)))

differ_minus : (x y : ℕ) → y ≤ x → differ x y ≡ x - y
differ_minus zero y h = omega arith
differ_minus (suc x) zero h = omega arith
differ_minus (suc x) (suc y) h = differ_minus x y (omega arith) ∙ omega arith

module _ (a b i : ℕ) where
  pub or_cases : bit_of (bit_or a b) i ≡ 1 → (bit_of a i ≡ 1) ⊎ (bit_of b i ≡ 1)
  or_cases e = go (ℕ_discrete (bit_of a i) 1)
    where
      go : Dec (bit_of a i ≡ 1) → (bit_of a i ≡ 1) ⊎ (bit_of b i ≡ 1)
      go (yes h) = inl h
      go (no h) = inr (omega (arith, bit-or a b i, bit-small a i, bit-small b i))

  pub or_left : bit_of a i ≡ 1 → bit_of (bit_or a b) i ≡ 1
  or_left e = omega (arith, bit-or a b i, bit-small b i)

  pub or_right : bit_of b i ≡ 1 → bit_of (bit_or a b) i ≡ 1
  or_right e = omega (arith, bit-or a b i, bit-small a i)

  bit-and : bit_of (bit_and a b) i ≡ min (bit_of a i) (bit_of b i)
  bit-and = rw (and_shr a b i) (omega (arith, and_step (a / 2 ^ i) (b / 2 ^ i)))

  pub and_first : bit_of (bit_and a b) i ≡ 1 → bit_of a i ≡ 1
  and_first e = omega (arith, bit-and, bit-small a i, bit-small b i)

  pub and_second : bit_of (bit_and a b) i ≡ 1 → bit_of b i ≡ 1
  and_second e = omega (arith, bit-and, bit-small a i, bit-small b i)

  -- of the first, what the second lacks
  pub without : bit_of (bit_xor a (bit_and a b)) i ≡ bit_of a i - bit_of b i
  without =
      let q : differ (bit_of a i) (bit_of (bit_and a b) i) ≡ bit_of a i - bit_of (bit_and a b) i = differ_minus (bit_of a i) (bit_of (bit_and a b) i) (omega (arith, bit-and)) in
      rw (xor_shr a (bit_and a b) i) (omega (arith, xor_step (a / 2 ^ i) (bit_and a b / 2 ^ i), q, bit-and, bit-small a i, bit-small b i))

  pub and_both : bit_of a i ≡ 1 → bit_of b i ≡ 1 → bit_of (bit_and a b) i ≡ 1
  and_both e f = omega (arith, bit-and)

-- one more bit: bit j of mask i
module _ (m : List ℕ) (i j : ℕ) (h : i < length m) (k : j < max_layers) where
  pub with_bit : (x y : ℕ) → marked (set m i (bit_or (get_or m i 0) (1 * 2 ^ j % 4294967296))) x y ≡ (marked m x y || same_arrow (link i j) (link x y))
  unfolding marked same_arrow
  with_bit x y = rw (pow-fits j k) (go (ℕ_discrete i x) (ℕ_discrete j y))
    where
      go : Dec (i ≡ x) → Dec (j ≡ y) → eqb (bit_of (get_or (set m i (bit_or (get_or m i 0) (2 ^ j))) x 0) y) 1 ≡ (eqb (bit_of (get_or m x 0) y) 1 || (eqb i x && eqb j y))
      go (yes e) (yes f) = rw (← e, ← f, get_or-set_same m i (bit_or (get_or m i 0) (2 ^ j)) 0 h, bit-or (get_or m i 0) (2 ^ j) j, bit-same j) (both (bit_of (get_or m i 0) j) (bit-small (get_or m i 0) j))
        where
          both : (b : ℕ) → b < 2 → eqb (max b 1) 1 ≡ (eqb b 1 || (eqb i i && eqb j j))
          both b h = rw (eq-eqb (max b 1) 1 (omega arith), eq-eqb i i refl, eq-eqb j j refl) (or_true (eqb b 1))
      go (yes e) (no f) = rw (← e, get_or-set_same m i (bit_or (get_or m i 0) (2 ^ j)) 0 h, bit-or (get_or m i 0) (2 ^ j) y, bit-other j y f, ne_eqb j y f, eq-eqb i i refl) (alone (bit_of (get_or m i 0) y))
        where
          alone : (b : ℕ) → eqb (max b 0) 1 ≡ (eqb b 1 || false)
          alone b = let e : max b 0 ≡ b = omega arith in rw e (sym (or_false (eqb b 1)))
      go (no e) d = rw (get_or-set_other m i x (bit_or (get_or m i 0) (2 ^ j)) 0 (λ q. e (sym q)), ne_eqb i x e) (sym (or_false (eqb (bit_of (get_or m x 0) y) 1)))

-- nothing has no bit
pub no_bits : (n x : ℕ) → get_or {A = ℕ} (replicate n 0) x 0 ≡ 0
no_bits n x = constant_at 0 n x

pub no_bit : (i : ℕ) → bit_of 0 i ≡ 1 → ⊥
no_bit i e = omega (arith, e, zero-div (2 ^ i))

pub zero_bit : (a i : ℕ) → a ≡ 0 → bit_of a i ≡ 1 → ⊥
zero_bit a i e h = no_bit i (subst (λ (x : ℕ). bit_of x i ≡ 1) e h)

-- a number that is not 0 has a bit that is set
pub some-bit : (k a : ℕ) → a < k → 0 < a → (i : ℕ) × (bit_of a i ≡ 1)
some-bit zero a h p = absurd (omega arith)
some-bit (suc k) a h p = go (ℕ_discrete (a % 2) 1) (λ u v. some-bit k (a / 2) u v)
  where
    go : Dec (a % 2 ≡ 1) → (a / 2 < k → 0 < a / 2 → (i : ℕ) × (bit_of (a / 2) i ≡ 1)) → (i : ℕ) × (bit_of a i ≡ 1)
    go (yes e) f = (0, ap (λ (x : ℕ). x % 2) (div-one a) ∙ e)
    go (no n) f =
        let r = f (omega arith) (omega arith) in
        (suc r.0, ap (λ (x : ℕ). a / x % 2) (pow-suc 2 r.0 ∙ mul_comm (2 ^ r.0) 2) ∙ ap (λ (x : ℕ). x % 2) (sym (div-div-eq-div-mul a 2 (2 ^ r.0))) ∙ r.1)

-- no bit is set yet
pub none-marked : (x y : ℕ) → marked (replicate max_layers 0) x y ≡ false
unfolding marked
none-marked x y = rw (no_bits max_layers x, zero-div (2 ^ y)) refl
