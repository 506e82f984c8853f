-- The closure by Warshall: a turn at layer k joins the ways through k, mask by mask (`Row`, `Step`), and after the turns up to k the
-- masks are closed under ways through those layers (`Turns`). Used by transitive_closure. Assumes nothing.
use mathlib.Core.Path.{◌≡◌, sym, ap, ◌∙◌, subst}
use mathlib.Core.Bool.{Bool, true, false, false≢true}
use borrow.Author.Tests.{eq-eqb, eqb-true}
use mathlib.Core.Logic.{◌⊎◌, inl, inr, ⊎_elim}
use mathlib.Core.List.{List}
use Prim.Native.Nat.{ℕ, ◌+◌, ◌/◌, ◌^◌, ◌≤◌, ◌<◌, max}
use native.Mathlib.Decide.{dec_lt, ℕ_discrete}
use native.Mathlib.Omega.{arith}
use lib.Bits.{bit_or, bit_and, and_mask}
use lib.ListN.{length, get_or, set, length-set}
use lib.Seq.{get_or-set_same, get_or-set_other}
use Rattle.base.specs.Bounds.{max_layers}
use Rattle.layers.specs.Masks.{bit_of, marked, Linked, Way, edge, join, EmptyFrom}
use Rattle.layers.proofs.BitLaws.{bit-or, bit-small}

-- a bit as the code tests it
pub test_bit : (a k : ℕ) → bit_and (a / 2 ^ k) 1 ≡ bit_of a k
test_bit a k = and_mask (a / 2 ^ k) 1

-- a turn at k has gone over the masks below i
pub record Row (m₀ m : List ℕ) (k i : ℕ) : Type 0 where
  pub len : length m ≡ length m₀
  pub same : (x : ℕ) → i ≤ x → get_or m x 0 ≡ get_or m₀ x 0
  pub hit : (x : ℕ) → x < i → Linked m₀ x k → get_or m x 0 ≡ bit_or (get_or m₀ x 0) (get_or m₀ k 0)
  pub miss : (x : ℕ) → x < i → (Linked m₀ x k → ⊥) → get_or m x 0 ≡ get_or m₀ x 0

lt_or_eq : (x i : ℕ) → x < i + 1 → (x < i) ⊎ (x ≡ i)
lt_or_eq x i h = go (dec_lt x i)
  where
    go : Dec (x < i) → (x < i) ⊎ (x ≡ i)
    go (yes a) = inl a
    go (no a) = inr (omega arith)

row_miss : (m₀ m : List ℕ) (k i : ℕ) → Row m₀ m k i → (Linked m₀ i k → ⊥) → Row m₀ m k (i + 1)
row_miss m₀ m k i r n = record {
  len = r.len;
  same = λ x h. r.same x (omega arith);
  hit = λ x h a. ⊎_elim (λ b. r.hit x b a) (λ e. absurd (n (subst (λ (y : ℕ). Linked m₀ y k) e a))) (lt_or_eq x i h);
  miss = λ x h a. ⊎_elim (λ b. r.miss x b a) (λ e. r.same x (omega arith)) (lt_or_eq x i h);
}

row_hit : (m₀ m : List ℕ) (k i v : ℕ) → Row m₀ m k i → i < length m → v ≡ bit_or (get_or m₀ i 0) (get_or m₀ k 0) → Linked m₀ i k → Row m₀ (set m i v) k (i + 1)
row_hit m₀ m k i v r b e y = record {
  len = length-set m i v ∙ r.len;
  same = λ x h. get_or-set_other m i x v 0 (omega arith) ∙ r.same x (omega arith);
  hit = λ x h a. ⊎_elim
      (λ c. get_or-set_other m i x v 0 (omega arith) ∙ r.hit x c a)
      (λ q. subst (λ (y : ℕ). get_or (set m i v) y 0 ≡ bit_or (get_or m₀ y 0) (get_or m₀ k 0)) (sym q) (get_or-set_same m i v 0 b ∙ e))
      (lt_or_eq x i h);
  miss = λ x h a. ⊎_elim
      (λ c. get_or-set_other m i x v 0 (omega arith) ∙ r.miss x c a)
      (λ q. absurd (a (subst (λ (z : ℕ). Linked m₀ z k) (sym q) y)))
      (lt_or_eq x i h);
}

-- the same, from what `bit_of` answers
module _ (m₀ m : List ℕ) (k i : ℕ) (r : Row m₀ m k i) where
  tested : (t : Bool) → t ≡ marked m i k → t ≡ true → Linked m₀ i k
  unfolding marked
  tested t e q = subst (λ (x : ℕ). bit_of x k ≡ 1) (r.same i (omega arith)) (eqb-true (bit_of (get_or m i 0) k) 1 (sym e ∙ q))

  pub turn_hit : i < length m → (t : Bool) → t ≡ marked m i k → t ≡ true → Row m₀ (set m i (bit_or (get_or m i 0) (get_or m₀ k 0))) k (i + 1)
  turn_hit b t e q = row_hit m₀ m k i (bit_or (get_or m i 0) (get_or m₀ k 0)) r b (ap (λ (x : ℕ). bit_or x (get_or m₀ k 0)) (r.same i (omega arith))) (tested t e q)

  pub turn_miss : (t : Bool) → t ≡ marked m i k → t ≡ false → Row m₀ m k (i + 1)
  unfolding marked
  turn_miss t e q = row_miss m₀ m k i r (λ a. let z : true ≡ false = sym (eq-eqb (bit_of (get_or m i 0) k) 1 (subst (λ (x : ℕ). bit_of x k ≡ 1) (sym (r.same i (omega arith))) a)) ∙ sym e ∙ q in absurd (false≢true (sym z)))

-- what a turn at k does to the ways
pub record Step (m₀ m : List ℕ) (k : ℕ) : Type 0 where
  pub kept : (x j : ℕ) → Linked m₀ x j → Linked m x j
  pub both : (x j : ℕ) → Linked m₀ x k → Linked m₀ k j → Linked m x j
  pub back : (x j : ℕ) → Linked m x j → Linked m₀ x j ⊎ (Linked m₀ x k × Linked m₀ k j)

module _ (m₀ m : List ℕ) (k i : ℕ) (r : Row m₀ m k i) (all : EmptyFrom i m₀) where
  step_of : Step m₀ m k
  step_of = record { kept = λ x j a. kept_at x j a (ℕ_discrete (bit_of (get_or m₀ x 0) k) 1) (dec_lt x i); both = both_at; back = λ x j a. back_at x j a (ℕ_discrete (bit_of (get_or m₀ x 0) k) 1) (dec_lt x i) }
    where
      kept_at : (x j : ℕ) → Linked m₀ x j → Dec (Linked m₀ x k) → Dec (x < i) → Linked m x j
      kept_at x j a (yes y) (yes b) = rw (r.hit x b y, bit-or (get_or m₀ x 0) (get_or m₀ k 0) j) (omega (arith, bit-small (get_or m₀ k 0) j))
      kept_at x j a (no n) (yes b) = rw (r.miss x b n) a
      kept_at x j a (yes y) (no b) = rw (r.same x (omega arith)) a
      kept_at x j a (no n) (no b) = rw (r.same x (omega arith)) a

      both_at : (x j : ℕ) → Linked m₀ x k → Linked m₀ k j → Linked m x j
      both_at x j a b = go (dec_lt x i)
        where
          go : Dec (x < i) → Linked m x j
          go (yes c) = rw (r.hit x c a, bit-or (get_or m₀ x 0) (get_or m₀ k 0) j) (omega (arith, bit-small (get_or m₀ x 0) j))
          go (no c) = absurd (c (all x k a))

      back_at : (x j : ℕ) → Linked m x j → Dec (Linked m₀ x k) → Dec (x < i) → Linked m₀ x j ⊎ (Linked m₀ x k × Linked m₀ k j)
      back_at x j a (no n) (yes b) = inl (rw (r.miss x b n) at a)
      back_at x j a (yes y) (no b) = inl (rw (r.same x (omega arith)) at a)
      back_at x j a (no n) (no b) = inl (rw (r.same x (omega arith)) at a)
      back_at x j a (yes y) (yes b) =
          let q : max (bit_of (get_or m₀ x 0) j) (bit_of (get_or m₀ k 0) j) ≡ 1 = rw (r.hit x b y, bit-or (get_or m₀ x 0) (get_or m₀ k 0) j) at a in
          go (ℕ_discrete (bit_of (get_or m₀ x 0) j) 1) q
        where
          go : Dec (Linked m₀ x j) → max (bit_of (get_or m₀ x 0) j) (bit_of (get_or m₀ k 0) j) ≡ 1 → Linked m₀ x j ⊎ (Linked m₀ x k × Linked m₀ k j)
          go (yes c) q = inl c
          go (no c) q = inr (y, omega (arith, q, bit-small (get_or m₀ x 0) j))

-- after the turns before k
pub record Turns (s m : List ℕ) (k : ℕ) : Type 0 where
  pub len : length m ≡ max_layers
  pub sound : (i j : ℕ) → Linked m i j → Way s i j
  pub kept : (i j : ℕ) → Linked s i j → Linked m i j
  pub closed : (x i j : ℕ) → x < k → Linked m i x → Linked m x j → Linked m i j

pub turns_start : (s : List ℕ) → length s ≡ max_layers → Turns s s 0
turns_start s e = record { len = e; sound = λ i j a. edge i j a; kept = λ i j a. a; closed = λ x i j h. absurd (omega arith) }

-- a way starts with a bit
way_from : (s : List ℕ) (n : ℕ) → EmptyFrom n s → (i j : ℕ) → Way s i j → i < n
way_from s n e x y (edge i j a) = e i j a
way_from s n e x y (join i k j b p q) = way_from s n e i k p

-- turns over the first n masks do where the others are empty
module _ (s : List ℕ) (n : ℕ) (few : n ≤ max_layers) (empty : EmptyFrom n s) where
  pub turns_more : (m₀ m : List ℕ) (k i : ℕ) → Turns s m₀ k → k < n → Row m₀ m k i → n ≤ i → Turns s m (k + 1)
  turns_more m₀ m k i t b r h = record {
    len = r.len ∙ t.len;
    sound = λ x j a. ⊎_elim (λ p. t.sound x j p) (λ p. join x k j (omega arith) (t.sound x k p.0) (t.sound k j p.1)) (st.back x j a);
    kept = λ x j a. st.kept x j (t.kept x j a);
    closed = λ x y j c p q. ⊎_elim (λ l. low x y j l (st.back y x p) (st.back x j q)) (λ e. st.both y j (to_k x y e (st.back y x p)) (from_k x j e (st.back x j q))) (lt_or_eq x k c);
  }
    where
      st : Step m₀ m k
      st = step_of m₀ m k i r (λ x j a. omega (arith, way_from s n empty x j (t.sound x j a)))

      low : (x y j : ℕ) → x < k → Linked m₀ y x ⊎ (Linked m₀ y k × Linked m₀ k x) → Linked m₀ x j ⊎ (Linked m₀ x k × Linked m₀ k j) → Linked m y j
      low x y j l (inl p) (inl q) = st.kept y j (t.closed x y j l p q)
      low x y j l (inl p) (inr q) = st.both y j (t.closed x y k l p q.0) q.1
      low x y j l (inr p) (inl q) = st.both y j p.0 (t.closed x k j l p.1 q)
      low x y j l (inr p) (inr q) = st.both y j p.0 q.1

      to_k : (x y : ℕ) → x ≡ k → Linked m₀ y x ⊎ (Linked m₀ y k × Linked m₀ k x) → Linked m₀ y k
      to_k x y e (inl p) = subst (λ (z : ℕ). Linked m₀ y z) e p
      to_k x y e (inr p) = p.0

      from_k : (x j : ℕ) → x ≡ k → Linked m₀ x j ⊎ (Linked m₀ x k × Linked m₀ k j) → Linked m₀ k j
      from_k x j e (inl p) = subst (λ (z : ℕ). Linked m₀ z j) e p
      from_k x j e (inr p) = p.1

  pub full : (m : List ℕ) (k : ℕ) → Turns s m k → n ≤ k → (i j : ℕ) → Way s i j → Linked m i j
  full m k t h x y (edge i j a) = t.kept i j a
  full m k t h x y (join i l j b p q) = t.closed l i j (omega (arith, way_from s n empty l j q)) (full m k t h i l p) (full m k t h l j q)
