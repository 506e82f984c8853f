-- Searching by halves for the place of a record: what is known between two bounds, and what one turn makes of it. The proof of `place`
-- cites it. Assumes nothing.
use mathlib.Core.Path.{◌≡◌, sym, ap, ap₂, subst, ◌∙◌}
use mathlib.Core.Bool.{Bool, true, false}
use mathlib.Core.List.{List}
use Prim.Native.Nat.{ℕ, suc, ◌+◌, ◌-◌, ◌*◌, ◌/◌, ◌≤◌, ◌<◌}
use native.Mathlib.Nat.{mul-le-mul_right, suc_inj}
use native.Mathlib.Numerals.{add-one}
use native.Mathlib.Omega.{arith}
use lib.ListN.{length, take, drop, length-drop}
use lib.Seq.{length-take-le}
use Rattle.insertion.specs.Runs.{bytes_before}
use Rattle.merging.specs.Merging.{rec_at, GoesIn}

-- the place lies between lo and hi: the record in front of lo comes before the one at `at`, the one at hi does not
pub record Placing (w from count at : ℕ) (part : List ℕ) (lo hi : ℕ) : Type 0 where
  pub order : lo ≤ hi
  pub within : hi ≤ count
  pub low : (i : ℕ) → lo ≡ suc i → bytes_before (rec_at w (from + i * w) part) (rec_at w at part) ≡ true
  pub high : hi < count → bytes_before (rec_at w (from + hi * w) part) (rec_at w at part) ≡ false

-- a record that is one of so many ends within them
pub place-room : (w from count m n : ℕ) → m < count → from + count * w ≤ n → from + m * w + w ≤ n
place-room w from count m n h b =
    let f : suc m * w ≤ count * w = mul-le-mul_right w h in
    let e : suc m * w ≡ w + m * w = omega arith in
    omega (arith, f, e)

pub rec_len : (w at : ℕ) (part : List ℕ) → at + w ≤ length part → length (rec_at w at part) ≡ w
rec_len w at part h = length-take-le w (drop at part) (omega (arith, length-drop at part))

-- a lent record, and comparing with it
abbrev pub lent : ℕ → ℕ → List ℕ → List ℕ
lent a e part = take (e - a) (drop a part)

module _ (w a e : ℕ) (part : List ℕ) (h : e - a ≡ w) (b : a + w ≤ length part) where
  pub lent_len : length (lent a e part) ≡ w
  lent_len = ap (λ (k : ℕ). length (take k (drop a part))) h ∙ rec_len w a part b

  pub lent_before : (at : ℕ) → bytes_before (take (length (lent a e part)) (drop at part)) (lent a e part) ≡ bytes_before (rec_at w at part) (rec_at w a part)
  lent_before at = ap₂ (λ (x : ℕ) (y : List ℕ). bytes_before (take x (drop at part)) y) lent_len (ap (λ (k : ℕ). take k (drop a part)) h)

  -- what the comparison with it says
  pub told : (at : ℕ) (r : Bool) → r ≡ bytes_before (take (length (lent a e part)) (drop at part)) (lent a e part) → bytes_before (rec_at w at part) (rec_at w a part) ≡ r
  told at r q = sym (q ∙ lent_before at)

module _ (w from count at : ℕ) (part : List ℕ) where
  pub placing_end : (lo hi : ℕ) → hi ≤ lo → Placing w from count at part lo hi → GoesIn w from count at part lo
  placing_end lo hi h p =
      let e : hi ≡ lo = omega (arith, p.order) in
      record { within = omega (arith, p.within); low = p.low; high = subst (λ (k : ℕ). k < count → bytes_before (rec_at w (from + k * w) part) (rec_at w at part) ≡ false) e p.high }

  pub placing_up : (lo hi m : ℕ) → m < hi → bytes_before (rec_at w (from + m * w) part) (rec_at w at part) ≡ true → Placing w from count at part lo hi → Placing w from count at part (m + 1) hi
  placing_up lo hi m h b p =
      record {
        order = omega arith;
        within = p.within;
        low = λ i e. subst (λ (k : ℕ). bytes_before (rec_at w (from + k * w) part) (rec_at w at part) ≡ true) (suc_inj (sym (add-one m) ∙ e)) b;
        high = p.high;
      }

  pub placing_down : (lo hi m : ℕ) → lo ≤ m → m < hi → bytes_before (rec_at w (from + m * w) part) (rec_at w at part) ≡ false → Placing w from count at part lo hi → Placing w from count at part lo m
  placing_down lo hi m g h b p = record { order = g; within = omega (arith, p.within); low = p.low; high = λ q. b }

-- half way between two bounds
pub half_room : (w from count lo hi n : ℕ) → lo < hi → hi ≤ count → from + count * w ≤ n → from + (lo + (hi - lo) / 2) * w + w ≤ n
half_room w from count lo hi n h k b = place-room w from count (lo + (hi - lo) / 2) n (omega arith) b

-- what the proof of `place` applies
pub ruleset place_steps = (placing_end, placing_up, placing_down, half_room, told)
