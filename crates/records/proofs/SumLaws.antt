-- Sums by fact, four bytes each: one turn of the loop that adds a state, and what the sums are once states are added (`sums_are`). The
-- proof of `add_state` cites the former. Assumes nothing.
use mathlib.Core.Path.{◌≡◌, refl, sym, ap, ◌∙◌}
use mathlib.Core.Logic.{◌⊎◌, inl, inr}
use mathlib.Core.Bool.{Bool, true, false}
use mathlib.Core.List.{List, [], ◌∷◌, ◌++◌, map, append_assoc, append-nil}
use Prim.Native.Nat.{ℕ, zero, suc, ◌+◌, ◌*◌, ◌/◌, ◌%◌, ◌<◌}
use native.Mathlib.Numerals.{add-one}
use native.Mathlib.Nat.{div-div-eq-div-mul, eq-or-lt_of_le, le_of_suc-le-suc}
use native.Mathlib.Omega.{arith}
use lib.ListN.{length, take, drop, length-append}
use lib.Seq.{get_or-drop, drop-drop, take_at, drop_at, drop-append-add}
use Rattle.base.specs.Lists.{cons_if, filter, flat, up_to}
use Rattle.base.proofs.MapLaws.{map_snoc}
use Rattle.format.specs.Book.{u32_at}
use Rattle.insertion.proofs.RunLaws.{flat_append}
use Rattle.models.specs.StableModels.{Interpretation, atom_holds}
use Rattle.models.specs.Listing.{bit_value, be32}
use Rattle.models.proofs.RecordLaws.{bit_le}
use Rattle.records.specs.Written.{added_to, summed}

-- a number below 2^32 is read back from its four bytes
bytes_read : (v c b a : ℕ) → v / 256 ≡ c → c / 256 ≡ b → b / 256 ≡ a → a < 256 → ((a % 256 * 256 + b % 256) * 256 + c % 256) * 256 + v % 256 ≡ v
bytes_read v c b a p q r h = omega arith

pub field_read : (v : ℕ) → v < 4294967296 → ((v / 16777216 % 256 * 256 + v / 65536 % 256) * 256 + v / 256 % 256) * 256 + v % 256 ≡ v
field_read v h = bytes_read v (v / 256) (v / 65536) (v / 16777216) refl (div-div-eq-div-mul v 256 256) (div-div-eq-div-mul v 65536 256) (omega arith)

read_back : (v : ℕ) (rest : List ℕ) → v < 4294967296 → u32_at (be32 v ++ rest) 0 ≡ v
unfolding u32_at be32
read_back v rest h = field_read v h

-- four bytes at an offset are the first four from there on
read_at : (s : List ℕ) (i : ℕ) → u32_at s i ≡ u32_at (drop i s) 0
unfolding u32_at
read_at s i =
    let z : i + 0 ≡ i = omega arith in
    rw (get_or-drop i s 0 0, get_or-drop i s 1 0, get_or-drop i s 2 0, get_or-drop i s 3 0, z) refl

-- each fact's sum after a state, as bytes
module _ (sums : List ℕ) (m : Interpretation) where
  abbrev pub sum_of : ℕ → List ℕ
  sum_of f = be32 (u32_at sums (4 * f) + bit_value (atom_holds m f) 1)

  -- the sums of the first f facts are new
  abbrev pub partly : ℕ → List ℕ
  partly f = flat (map sum_of (up_to f)) ++ drop (4 * f) sums

  sums_more : (f : ℕ) → flat (map sum_of (up_to (suc f))) ≡ flat (map sum_of (up_to f)) ++ sum_of f
  unfolding up_to flat
  sums_more f = ap flat (map_snoc sum_of (up_to f) f) ∙ flat_append (map sum_of (up_to f)) (sum_of f ∷ []) ∙ ap (λ (l : List ℕ). flat (map sum_of (up_to f)) ++ l) (append-nil (sum_of f))

  sums_length : (f : ℕ) → length (flat (map sum_of (up_to f))) ≡ 4 * f
  unfolding up_to flat be32
  sums_length zero = refl
  sums_length (suc f) = ap length (sums_more f) ∙ length-append (flat (map sum_of (up_to f))) (sum_of f) ∙ omega (arith, sums_length f)

  pub partly_none : sums ≡ partly 0
  unfolding up_to flat
  partly_none = let z : 4 * 0 ≡ 0 = omega arith in ap (λ (k : ℕ). drop k sums) (sym z)

  behind : (f : ℕ) → drop (4 * f) (partly f) ≡ drop (4 * f) sums
  behind f = drop_at (flat (map sum_of (up_to f))) (drop (4 * f) sums) (4 * f) (sums_length f)

  -- the next fact's sum is still the old one
  old_sum : (f : ℕ) → u32_at (partly f) (4 * f) ≡ u32_at sums (4 * f)
  old_sum f = read_at (partly f) (4 * f) ∙ ap (λ (l : List ℕ). u32_at l 0) (behind f) ∙ sym (read_at sums (4 * f))

  partly_more : (f v : ℕ) → v ≡ u32_at sums (4 * f) + bit_value (atom_holds m f) 1
      → take (4 * f) (partly f) ++ (be32 v ++ drop (4 * f + 4) (partly f)) ≡ partly (f + 1)
  unfolding up_to flat
  partly_more f v e =
      let four : 4 * f + 4 ≡ length (flat (map sum_of (up_to f))) + 4 = omega (arith, sums_length f) in
      let rest : drop (4 * f + 4) (partly f) ≡ drop (4 * suc f) sums =
      ap (λ (k : ℕ). drop k (partly f)) four ∙ drop-append-add (flat (map sum_of (up_to f))) (drop (4 * f) sums) 4 ∙ drop-drop 4 (4 * f) sums ∙ (let q : 4 * f + 4 ≡ 4 * suc f = omega arith in ap (λ (k : ℕ). drop k sums) q) in
      let front : take (4 * f) (partly f) ≡ flat (map sum_of (up_to f)) = take_at (flat (map sum_of (up_to f))) (drop (4 * f) sums) (4 * f) (sums_length f) in
      rw (add-one f, rest, front, sums_more f, e, append_assoc (flat (map sum_of (up_to f))) (sum_of f) (drop (4 * suc f) sums)) refl

  -- one turn of the loop
  pub partly_step : (f x b : ℕ) (s new : List ℕ) → s ≡ partly f → x ≡ u32_at s (4 * f) → b ≡ bit_value (atom_holds m f) 1
      → new ≡ take (4 * f) s ++ (be32 (x + b) ++ drop (4 * f + 4) s) → new ≡ partly (f + 1)
  partly_step f x b s new e h k q =
      let v : x + b ≡ u32_at sums (4 * f) + bit_value (atom_holds m f) 1 = omega (arith, h, k, ap (λ (l : List ℕ). u32_at l (4 * f)) e, old_sum f) in
      q ∙ ap (λ (l : List ℕ). take (4 * f) l ++ (be32 (x + b) ++ drop (4 * f + 4) l)) e ∙ partly_more f (x + b) v

  pub added : (f : ℕ) → f ≡ length m → partly f ≡ added_to (length m) sums m
  unfolding added_to
  added f e = rw e refl

  -- from a fact's sum on there is its own and some rest
  from_sum : (f k : ℕ) (rest : List ℕ) → f < k → (t : List ℕ) × (drop (4 * f) (flat (map sum_of (up_to k)) ++ rest) ≡ sum_of f ++ t)
  from_sum f zero rest h = absurd (omega arith)
  from_sum f (suc k) rest h = go (λ q. from_sum f k (sum_of k ++ rest) q) (eq-or-lt_of_le (le_of_suc-le-suc h))
    where
      apart : flat (map sum_of (up_to (suc k))) ++ rest ≡ flat (map sum_of (up_to k)) ++ (sum_of k ++ rest)
      apart = ap (λ (l : List ℕ). l ++ rest) (sums_more k) ∙ append_assoc (flat (map sum_of (up_to k))) (sum_of k) rest

      go : (f < k → (t : List ℕ) × (drop (4 * f) (flat (map sum_of (up_to k)) ++ (sum_of k ++ rest)) ≡ sum_of f ++ t)) → (f ≡ k) ⊎ (f < k)
          → (t : List ℕ) × (drop (4 * f) (flat (map sum_of (up_to (suc k))) ++ rest) ≡ sum_of f ++ t)
      go rec (inl e) =
          (rest, ap (drop (4 * f)) apart ∙ drop_at (flat (map sum_of (up_to k))) (sum_of k ++ rest) (4 * f) (sums_length k ∙ ap (λ (x : ℕ). 4 * x) (sym e)) ∙ ap (λ (x : ℕ). sum_of x ++ rest) (sym e))
      go rec (inr q) = let s = rec q in (s.0, ap (drop (4 * f)) apart ∙ s.1)

  -- a fact's sum once the state is added
  sum_at : (n f : ℕ) → f < n → u32_at sums (4 * f) + 1 < 4294967296 → u32_at (added_to n sums m) (4 * f) ≡ u32_at sums (4 * f) + bit_value (atom_holds m f) 1
  unfolding added_to
  sum_at n f h small =
      let s = from_sum f n (drop (4 * n) sums) h in
      read_at (partly n) (4 * f) ∙ ap (λ (l : List ℕ). u32_at l 0) s.1 ∙ read_back (u32_at sums (4 * f) + bit_value (atom_holds m f) 1) s.0 (omega (arith, bit_le (atom_holds m f)))

-- after states are added, a fact's sum has grown by the number of those in which it stands
pub sums_are : (n f : ℕ) (ms : List Interpretation) (sums : List ℕ) → f < n → u32_at sums (4 * f) + length ms < 4294967296
    → u32_at (summed n sums ms) (4 * f) ≡ u32_at sums (4 * f) + length (filter (λ m. atom_holds m f) ms)
unfolding summed filter cons_if bit_value
sums_are n f [] sums h small = omega arith
sums_are n f (m ∷ ms) sums h small =
    let s : u32_at (added_to n sums m) (4 * f) ≡ u32_at sums (4 * f) + bit_value (atom_holds m f) 1 = sum_at sums m n f h (omega arith) in
    sums_are n f ms (added_to n sums m) h (omega (arith, s, bit_le (atom_holds m f))) ∙ go (atom_holds m f) s
  where
    go : (b : Bool) → u32_at (added_to n sums m) (4 * f) ≡ u32_at sums (4 * f) + bit_value b 1
        → u32_at (added_to n sums m) (4 * f) + length (filter (λ m. atom_holds m f) ms) ≡ u32_at sums (4 * f) + length (cons_if b m (filter (λ m. atom_holds m f) ms))
    go true e = omega (arith, e)
    go false e = omega (arith, e)

-- what the proof of `add_state` applies
pub ruleset sum_steps = (partly_none, partly_step, added)
