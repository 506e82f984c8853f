-- Masks bit by bit: a bit more in an array of masks, and a mask that has all bits of another. Assumes nothing.
use mathlib.Core.Path.{◌≡◌, refl, sym, ap, subst, ◌∙◌}
use mathlib.Core.Logic.{◌⊎◌, inl, inr}
use mathlib.Core.List.{List}
use Prim.Native.Nat.{ℕ, zero, suc, ◌*◌, ◌/◌, ◌%◌, ◌^◌, ◌<◌, max}
use native.Mathlib.Nat.{div-one, div-div-eq-div-mul, pow-suc, mul_comm}
use native.Mathlib.Decide.{ℕ_discrete}
use native.Mathlib.Omega.{arith}
use lib.Bits.{bit_or, or_step}
use lib.ListN.{length, get_or, set}
use lib.Seq.{get_or-set_same, get_or-set_other}
use Rattle.layers.specs.Masks.{bit_of}
use Rattle.layers.proofs.BitLaws.{pow-fits, bit-same, bit-other, or_cases, or_left, or_right}

-- the mask with bit i alone, as the code makes it
abbrev pub single : ℕ → ℕ
single i = 1 * 2 ^ i % 4294967296

module _ (i : ℕ) (h : i < 32) where
  pub single_only : (k : ℕ) → bit_of (single i) k ≡ 1 → k ≡ i
  single_only k z = go (ℕ_discrete i k)
    where
      go : Dec (i ≡ k) → k ≡ i
      go (yes e) = sym e
      go (no n) = absurd (omega (arith, bit-other i k n, subst (λ (x : ℕ). bit_of x k ≡ 1) (pow-fits i h) z))

  pub single_has : bit_of (single i) i ≡ 1
  single_has = subst (λ (x : ℕ). bit_of x i ≡ 1) (sym (pow-fits i h)) (bit-same i)

-- entry f of an array with the bits of x besides its own
module _ (bits : List ℕ) (f x : ℕ) (h : f < length bits) where
  abbrev pub joined : List ℕ
  joined = set bits f (bit_or (get_or bits f 0) x)

  at_f : (g : ℕ) → g ≡ f → get_or joined g 0 ≡ bit_or (get_or bits f 0) x
  at_f g e = ap (λ (k : ℕ). get_or joined k 0) e ∙ get_or-set_same bits f (bit_or (get_or bits f 0) x) 0 h

  pub joined_cases : (g i : ℕ) → bit_of (get_or joined g 0) i ≡ 1 → (bit_of (get_or bits g 0) i ≡ 1) ⊎ ((g ≡ f) × (bit_of x i ≡ 1))
  joined_cases g i z = go (ℕ_discrete g f)
    where
      tag : (g ≡ f) → (bit_of (get_or bits f 0) i ≡ 1) ⊎ (bit_of x i ≡ 1) → (bit_of (get_or bits g 0) i ≡ 1) ⊎ ((g ≡ f) × (bit_of x i ≡ 1))
      tag e (inl a) = inl (subst (λ (k : ℕ). bit_of (get_or bits k 0) i ≡ 1) (sym e) a)
      tag e (inr a) = inr (e, a)

      go : Dec (g ≡ f) → (bit_of (get_or bits g 0) i ≡ 1) ⊎ ((g ≡ f) × (bit_of x i ≡ 1))
      go (yes e) = tag e (or_cases (get_or bits f 0) x i (subst (λ (k : ℕ). bit_of k i ≡ 1) (at_f g e) z))
      go (no n) = inl (subst (λ (k : ℕ). bit_of k i ≡ 1) (get_or-set_other bits f g (bit_or (get_or bits f 0) x) 0 n) z)

  pub joined_keeps : (g i : ℕ) → bit_of (get_or bits g 0) i ≡ 1 → bit_of (get_or joined g 0) i ≡ 1
  joined_keeps g i z = go (ℕ_discrete g f)
    where
      go : Dec (g ≡ f) → bit_of (get_or joined g 0) i ≡ 1
      go (yes e) = subst (λ (k : ℕ). bit_of k i ≡ 1) (sym (at_f g e)) (or_left (get_or bits f 0) x i (subst (λ (k : ℕ). bit_of (get_or bits k 0) i ≡ 1) e z))
      go (no n) = subst (λ (k : ℕ). bit_of k i ≡ 1) (sym (get_or-set_other bits f g (bit_or (get_or bits f 0) x) 0 n)) z

  pub joined_has : (g i : ℕ) → g ≡ f → bit_of x i ≡ 1 → bit_of (get_or joined g 0) i ≡ 1
  joined_has g i e z = subst (λ (k : ℕ). bit_of k i ≡ 1) (sym (at_f g e)) (or_right (get_or bits f 0) x i z)

-- ---- all bits of a mask are among another's
pub low_bit : (a : ℕ) → bit_of a 0 ≡ a % 2
low_bit a = ap (λ (x : ℕ). x % 2) (div-one a)

pub half_bit : (a i : ℕ) → bit_of (a / 2) i ≡ bit_of a (suc i)
half_bit a i = sym (ap (λ (x : ℕ). a / x % 2) (pow-suc 2 i ∙ mul_comm (2 ^ i) 2) ∙ ap (λ (x : ℕ). x % 2) (sym (div-div-eq-div-mul a 2 (2 ^ i))))

pub or_absorbs : (k a b : ℕ) → a < k → ((i : ℕ) → bit_of a i ≡ 1 → bit_of b i ≡ 1) → bit_or a b ≡ b
or_absorbs zero a b h w = absurd (omega arith)
or_absorbs (suc k) zero b h w = refl
or_absorbs (suc k) (suc a) b h w =
    let r : bit_or (suc a / 2) (b / 2) ≡ b / 2 =
    or_absorbs k (suc a / 2) (b / 2) (omega arith) (λ i z. half_bit b i ∙ w (suc i) (sym (half_bit (suc a) i) ∙ z)) in
    let e : max (suc a % 2) (b % 2) ≡ b % 2 = top (ℕ_discrete (suc a % 2) 1) in
    or_step (suc a) b ∙ omega (arith, r, e)
  where
    top : Dec (suc a % 2 ≡ 1) → max (suc a % 2) (b % 2) ≡ b % 2
    top (yes e) = let f : b % 2 ≡ 1 = sym (low_bit b) ∙ w 0 (low_bit (suc a) ∙ e) in omega arith
    top (no n) = omega arith
