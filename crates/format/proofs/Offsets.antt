-- Records are taken one after the other: the first and what follows it, and the same at an offset. Used by `whole_records` and `Records`,
-- and by the crate `table`, which walks by offset. Assumes nothing.
use mathlib.Core.Path.{◌≡◌, refl, sym, ap, ◌∙◌}
use mathlib.Core.Bool.{Bool, false, ◌&&◌}
use mathlib.Core.List.{List, [], ◌∷◌}
use Prim.Native.Nat.{ℕ, zero, suc, ◌+◌, ◌-◌, ◌<◌, ◌≤◌, min}
use native.Mathlib.Omega.{arith}
use native.Mathlib.Decide.{dec_lt}
use borrow.Author.Tests.{le-leb, lt-leb}
use lib.Dec.{leb}
use lib.ListN.{length, get_or, take, drop, length-drop, drop_of_length-le}
use lib.Seq.{drop-cons, drop-drop, take_all}
use Rattle.format.specs.Book.{records_in, records, meets_end_in, meets_end, record_end}

-- more turns than bytes change nothing
fuel : (k j : ℕ) (s : List ℕ) → length s ≤ k → length s ≤ j → records_in k s ≡ records_in j s
unfolding records_in
fuel zero zero s h i = refl
fuel zero (suc j) [] h i = refl
fuel zero (suc j) (x ∷ s) h i = absurd (omega arith)
fuel (suc k) zero [] h i = refl
fuel (suc k) zero (x ∷ s) h i = absurd (omega arith)
fuel (suc k) (suc j) [] h i = refl
fuel (suc k) (suc j) (x ∷ s) h i = ap (λ (rs : List (List ℕ)). take x s ∷ rs) (fuel k j (drop x s) (simp length-drop (omega arith)) (simp length-drop (omega arith)))

-- the law of records: the first, and those of what follows it
pub records_next : (len : ℕ) (s : List ℕ) → records (len ∷ s) ≡ take len s ∷ records (drop len s)
unfolding records records_in
records_next len s = ap (λ (rs : List (List ℕ)). take len s ∷ rs) (fuel (length s) (length (drop len s)) (drop len s) (simp length-drop (omega arith)) (omega arith))

-- the same, as `Records` cuts it
pub records_first : (len : ℕ) (s : List ℕ) → records (len ∷ s) ≡ take (min (length s) len) s ∷ records (drop (min (length s) len) s)
records_first len s = records_next len s ∙ go (dec_lt (length s) len)
  where
    go : Dec (length s < len) → take len s ∷ records (drop len s) ≡ take (min (length s) len) s ∷ records (drop (min (length s) len) s)
    go (yes b) =
        let m : min (length s) len ≡ length s = omega arith in
        rw (m, take_all len s (omega arith), take_all (length s) s (omega arith), drop_of_length-le s {i = len} (omega arith), drop_of_length-le s {i = length s} (omega arith)) refl
    go (no b) = let m : min (length s) len ≡ len = omega arith in rw m refl

meets_fuel : (k j : ℕ) (s : List ℕ) → length s ≤ k → length s ≤ j → meets_end_in k s ≡ meets_end_in j s
unfolding meets_end_in
meets_fuel zero zero s h i = refl
meets_fuel zero (suc j) [] h i = refl
meets_fuel zero (suc j) (x ∷ s) h i = absurd (omega arith)
meets_fuel (suc k) zero [] h i = refl
meets_fuel (suc k) zero (x ∷ s) h i = absurd (omega arith)
meets_fuel (suc k) (suc j) [] h i = refl
meets_fuel (suc k) (suc j) (x ∷ s) h i = ap (λ (b : Bool). leb x (length s) && b) (meets_fuel k j (drop x s) (simp length-drop (omega arith)) (simp length-drop (omega arith)))

pub meets_next : (len : ℕ) (s : List ℕ) → meets_end (len ∷ s) ≡ (leb len (length s) && meets_end (drop len s))
unfolding meets_end meets_end_in
meets_next len s = ap (λ (b : Bool). leb len (length s) && b) (meets_fuel (length s) (length (drop len s)) (drop len s) (simp length-drop (omega arith)) (omega arith))

pub records_done : (s : List ℕ) (at : ℕ) → length s ≤ at → records (drop at s) ≡ []
unfolding records records_in
records_done s at h = ap records (drop_of_length-le s h)

module _ (s : List ℕ) (at : ℕ) (h : at < length s) where
  here : drop at s ≡ get_or s at 0 ∷ drop (at + 1) s
  here = drop-cons s at 0 h ∙ ap (λ (k : ℕ). get_or s at 0 ∷ drop k s) {x = suc at} {y = at + 1} (omega arith)

  after : drop (get_or s at 0) (drop (at + 1) s) ≡ drop (at + 1 + get_or s at 0) s
  after = drop-drop (get_or s at 0) (at + 1) s

  records_at : records (drop at s) ≡ take (get_or s at 0) (drop (at + 1) s) ∷ records (drop (at + 1 + get_or s at 0) s)
  records_at = ap records here ∙ records_next (get_or s at 0) (drop (at + 1) s) ∙ ap (λ (t : List ℕ). take (get_or s at 0) (drop (at + 1) s) ∷ records t) after

  meets_at : meets_end (drop at s) ≡ (leb (get_or s at 0) (length s - (at + 1)) && meets_end (drop (at + 1 + get_or s at 0) s))
  meets_at = ap meets_end here ∙ meets_next (get_or s at 0) (drop (at + 1) s) ∙ ap (λ (t : List ℕ). leb (get_or s at 0) (length (drop (at + 1) s)) && meets_end t) after ∙ ap (λ (k : ℕ). leb (get_or s at 0) k && meets_end (drop (at + 1 + get_or s at 0) s)) (length-drop (at + 1) s)

  -- the record asks for more than is left
  pub meets_fails : length s - (at + 1) < get_or s at 0 → meets_end (drop at s) ≡ false
  meets_fails b = meets_at ∙ rw (lt-leb _ _ b) refl

  pub meets_more : get_or s at 0 ≤ length s - (at + 1) → meets_end (drop at s) ≡ meets_end (drop (at + 1 + get_or s at 0) s)
  meets_more b = meets_at ∙ rw (le-leb _ _ b) refl

  pub count-more : length (records (drop at s)) ≡ 1 + length (records (drop (at + 1 + get_or s at 0) s))
  count-more = ap length records_at ∙ omega arith

  -- the record, and what follows it, as the code cuts them
  first_is : take (get_or s at 0) (drop (at + 1) s) ≡ take (record_end s at - (at + 1)) (drop (at + 1) s)
  unfolding record_end
  first_is = go (dec_lt (length s) (at + 1 + get_or s at 0))
    where
      go : Dec (length s < at + 1 + get_or s at 0) → take (get_or s at 0) (drop (at + 1) s) ≡ take (min (at + 1 + get_or s at 0) (length s) - (at + 1)) (drop (at + 1) s)
      go (yes b) = take_all (get_or s at 0) (drop (at + 1) s) (simp length-drop (omega arith)) ∙ sym (take_all (min (at + 1 + get_or s at 0) (length s) - (at + 1)) (drop (at + 1) s) (simp length-drop (omega arith)))
      go (no b) = ap (λ (k : ℕ). take k (drop (at + 1) s)) {x = get_or s at 0} {y = min (at + 1 + get_or s at 0) (length s) - (at + 1)} (omega arith)

  rest_is : drop (at + 1 + get_or s at 0) s ≡ drop (record_end s at) s
  unfolding record_end
  rest_is = go (dec_lt (length s) (at + 1 + get_or s at 0))
    where
      go : Dec (length s < at + 1 + get_or s at 0) → drop (at + 1 + get_or s at 0) s ≡ drop (min (at + 1 + get_or s at 0) (length s)) s
      go (yes b) = drop_of_length-le s {i = at + 1 + get_or s at 0} (omega arith) ∙ sym (drop_of_length-le s {i = min (at + 1 + get_or s at 0) (length s)} (omega arith))
      go (no b) = ap (λ (k : ℕ). drop k s) {x = at + 1 + get_or s at 0} {y = min (at + 1 + get_or s at 0) (length s)} (omega arith)

  pub records_cut : records (drop at s) ≡ take (record_end s at - (at + 1)) (drop (at + 1) s) ∷ records (drop (record_end s at) s)
  records_cut = records_at ∙ ap (λ (t : List ℕ). t ∷ records (drop (at + 1 + get_or s at 0) s)) first_is ∙ ap (λ (t : List ℕ). take (record_end s at - (at + 1)) (drop (at + 1) s) ∷ records t) rest_is
