-- Where two rising runs of records are cut: the bytes at an offset as one of the records, and that each way of cutting parts the
-- records. The proof of `find_cut` cites it. Assumes nothing.
use mathlib.Core.Path.{◌≡◌, refl, sym, ap, ap₂, subst, ◌∙◌}
use mathlib.Core.Logic.{◌⊎◌, inl, inr}
use mathlib.Core.Bool.{Bool, true, false}
use mathlib.Core.List.Memᴰ
use mathlib.Core.List.{List, [], ◌++◌}
use Prim.Native.Nat.{ℕ, zero, suc, ◌+◌, ◌-◌, ◌*◌, ◌/◌, ◌≤◌, ◌<◌}
use native.Mathlib.Nat.{mul-le-mul_right, eq-or-lt_of_le}
use native.Mathlib.Omega.{arith}
use lib.Dec.{T}
use lib.ListN.{length, get_or, take, drop, length-append, get_or-append, drop_of_length-le}
use lib.Seq.{get_or-append-add}
use Rattle.base.proofs.Members.{◌∈◌}
use Rattle.insertion.specs.Sorted.{Up}
use Rattle.insertion.specs.Runs.{bytes_before, Wide}
use Rattle.insertion.proofs.ByteOrder.{bytes_le_lt, bytes_asym, bytes_same}
use Rattle.insertion.proofs.RunLaws.{flat_append, flat_at}
use Rattle.insertion.proofs.SortedLaws as insertion-laws
use Rattle.merging.specs.Merging.{rec_at, GoesIn, Two, Parted}
use Rattle.merging.proofs.MergeLaws as sorted
use Rattle.merging.proofs.PlaceLaws.{lent, place-room, told}

abbrev le_le : (y x r : List ℕ) → bytes_before y x ≡ false → bytes_before x r ≡ false → bytes_before y r ≡ false
le_le = insertion-laws.le_le bytes_before bytes_le_lt bytes_asym

abbrev up_front : (xs : List (List ℕ)) (i : ℕ) → Up bytes_before xs → i < length xs → (l : List ℕ) → l ∈ take i xs → bytes_before (get_or xs i []) l ≡ false
up_front = sorted.up_front bytes_before bytes_le_lt bytes_asym bytes_same []

abbrev up_last : (xs : List (List ℕ)) (i : ℕ) → Up bytes_before xs → i < length xs → (l : List ℕ) → l ∈ take (suc i) xs → bytes_before (get_or xs i []) l ≡ false
up_last = sorted.up_last bytes_before bytes_le_lt bytes_asym bytes_same []

abbrev up_behind : (xs : List (List ℕ)) (i : ℕ) → Up bytes_before xs → (r : List ℕ) → r ∈ drop i xs → bytes_before r (get_or xs i []) ≡ false
up_behind = sorted.up_behind bytes_before bytes_le_lt bytes_asym bytes_same []

pub wide_append : (w : ℕ) (xs ys : List (List ℕ)) → Wide w xs → Wide w ys → Wide w (xs ++ ys)
wide_append w xs ys f g r m = go (Memᴰ.append_cases xs m)
  where
    go : r ∈ xs ⊎ r ∈ ys → length r ≡ w
    go (inl k) = f r k
    go (inr k) = g r k

-- the bytes at an offset are one of the records
module _ {w n m : ℕ} {part : List ℕ} {xs ys : List (List ℕ)} (h : Two w n m part xs ys) where
  rec_of : (t : ℕ) → t < n + m → rec_at w (t * w) part ≡ get_or (xs ++ ys) t []
  rec_of t k =
      ap (λ (p : List ℕ). take w (drop (t * w) p)) (h.bytes ∙ sym (flat_append xs ys))
      ∙ flat_at w (xs ++ ys) (wide_append w xs ys h.first_wide h.second_wide) t (omega (arith, length-append xs ys, h.first_count, h.second_count))

  pub first_rec : (t : ℕ) → t < n → rec_at w (t * w) part ≡ get_or xs t []
  first_rec t k = rec_of t (omega arith) ∙ get_or-append xs ys [] t (omega (arith, h.first_count))

  pub second_rec : (t : ℕ) → t < m → rec_at w (n * w + t * w) part ≡ get_or ys t []
  second_rec t k =
      let e : n * w + t * w ≡ (length xs + t) * w = ap (λ (x : ℕ). x * w + t * w) (sym h.first_count) ∙ omega arith in
      ap (λ (x : ℕ). rec_at w x part) e ∙ rec_of (length xs + t) (omega (arith, h.first_count)) ∙ get_or-append-add xs ys t []

-- one run is parted by its record at a, the other by the place of that record in it
module _ (ps qs : List (List ℕ)) (a k : ℕ) (u : Up bytes_before ps) (v : Up bytes_before qs) (ha : a < length ps) (hk : k ≤ length qs)
    (low : (i : ℕ) → k ≡ suc i → bytes_before (get_or qs i []) (get_or ps a []) ≡ true) (high : k < length qs → bytes_before (get_or qs k []) (get_or ps a []) ≡ false) where
  some-behind : (r : List ℕ) → r ∈ drop k qs → k < length qs
  some-behind r m = go (eq-or-lt_of_le hk)
    where
      go : (k ≡ length qs) ⊎ (k < length qs) → k < length qs
      go (inl e) = absurd (Memᴰ.not-nil (subst (λ (z : List (List ℕ)). r ∈ z) (drop_of_length-le qs {i = k} (omega arith)) m))
      go (inr h) = h

  pub pivot_low : (l r : List ℕ) → l ∈ take a ps → r ∈ drop k qs → bytes_before r l ≡ false
  pivot_low l r i j = le_le r (get_or qs k []) l (up_behind qs k v r j) (le_le (get_or qs k []) (get_or ps a []) l (high (some-behind r j)) (up_front ps a u ha l i))

  pub place-low : (l r : List ℕ) → l ∈ take k qs → r ∈ drop a ps → bytes_before r l ≡ false
  place-low l r i j = go k refl i
    where
      go : (t : ℕ) → k ≡ t → l ∈ take t qs → bytes_before r l ≡ false
      go zero e m = absurd (Memᴰ.not-nil m)
      go (suc t) e m =
          le_le r (get_or ps a []) l (up_behind ps a u r j)
          (le_le (get_or ps a []) (get_or qs t []) l (bytes_asym (get_or qs t []) (get_or ps a []) (low t e)) (up_last qs t v (omega (arith, hk, e)) l m))

-- all of one run goes before all of the other
all-low : (ps qs : List (List ℕ)) (a : ℕ) → Up bytes_before ps → Up bytes_before qs → length ps ≡ suc a → bytes_before (get_or qs 0 []) (get_or ps a []) ≡ false
    → (l r : List ℕ) → l ∈ take (suc a) ps → r ∈ drop 0 qs → bytes_before r l ≡ false
all-low ps qs a u v e b l r i j = le_le r (get_or qs 0 []) l (up_behind qs 0 v r j) (le_le (get_or qs 0 []) (get_or ps a []) l b (up_last ps a u (omega arith) l i))

-- offsets: each run has a record, and so do the places where the longer one is cut
pub record RunSizes (n m w len : ℕ) : Type 0 where
  pub first : w ≤ n * w
  pub both : n * w + m * w ≡ len
  pub second : n * w + w ≤ len
  pub first_half : n / 2 * w + w ≤ len
  pub second_half : n * w + m / 2 * w + w ≤ len

-- what the contract of `find_cut` asks for
abbrev pub TwoRuns : ℕ → ℕ → ℕ → ℕ → Type 0
TwoRuns n m w len = (0 < n) × (0 < m) × (0 < w) × (len ≡ (n + m) * w)

pub run_sizes : (n m w len : ℕ) → TwoRuns n m w len → RunSizes n m w len
run_sizes n m w len h =
    let hn : 0 < n = h.0 in
    let hm : 0 < m = h.1 in
    let e : len ≡ (n + m) * w = h.3 in
    let a : 1 * w ≤ n * w = mul-le-mul_right w hn in
    let b : 1 * w ≤ m * w = mul-le-mul_right w hm in
    let s : (n + m) * w ≡ n * w + m * w = omega arith in
    let i : n / 2 < n = omega arith in
    let j : m / 2 < m = omega arith in
    record {
      first = omega arith;
      both = omega arith;
      second = omega arith;
      first_half = omega (arith, place-room w 0 n (n / 2) len i (omega arith));
      second_half = place-room w (n * w) m (m / 2) len j (omega arith);
    }

-- the four cuts
module _ (w n m : ℕ) (part : List ℕ) (runs : TwoRuns n m w (length part)) where
  abbrev hn : 0 < n
  hn = runs.0

  abbrev hm : 0 < m
  hm = runs.1

  sizes : RunSizes n m w (length part)
  sizes = run_sizes n m w (length part) runs

  -- what the two comparisons say: of the records where the runs meet, and of the first and the last one
  pub meet_told : (r : Bool) → r ≡ bytes_before (take (length (lent (n * w - w) (n * w) part)) (drop (n * w) part)) (lent (n * w - w) (n * w) part)
      → bytes_before (rec_at w (n * w) part) (rec_at w (n * w - w) part) ≡ r
  meet_told = told w (n * w - w) (n * w) part (omega (arith, sizes.first)) (omega (arith, sizes.first, sizes.second)) (n * w)

  pub ends_told : (r : Bool) → r ≡ bytes_before (take (length (lent (length part - w) (length part) part)) (drop 0 part)) (lent (length part - w) (length part) part)
      → bytes_before (rec_at w 0 part) (rec_at w (length part - w) part) ≡ r
  ends_told = told w (length part - w) (length part) part (omega (arith, sizes.second)) (omega (arith, sizes.second)) 0

  -- one less than so many
  before_last : (k : ℕ) → 0 < k → (a : ℕ) × (k ≡ suc a) × (k * w - w ≡ a * w)
  before_last zero h = absurd (omega arith)
  before_last (suc a) h = let e : suc a * w ≡ w + a * w = omega arith in (a, refl, omega (arith, e))

  pub cut_rising : bytes_before (rec_at w (n * w) part) (rec_at w (n * w - w) part) ≡ false → Parted w n m part n 0
  cut_rising b = record {
    first_within = omega arith;
    second_within = omega arith;
    low_some = omega arith;
    high_some = omega arith;
    first_low = λ xs ys h. go xs ys h (before_last n hn);
    second_low = λ xs ys h l r i j. absurd (Memᴰ.not-nil i);
  }
    where
      go : (xs ys : List (List ℕ)) → Two w n m part xs ys → (a : ℕ) × (n ≡ suc a) × (n * w - w ≡ a * w) → (l r : List ℕ) → l ∈ take n xs → r ∈ drop 0 ys → bytes_before r l ≡ false
      go xs ys h q l r i j =
          let z : n * w ≡ n * w + 0 * w = omega arith in
          let f : rec_at w (n * w) part ≡ get_or ys 0 [] = ap (λ (x : ℕ). rec_at w x part) z ∙ second_rec h 0 hm in
          let g : rec_at w (n * w - w) part ≡ get_or xs q.0 [] = ap (λ (x : ℕ). rec_at w x part) q.2 ∙ first_rec h q.0 (omega (arith, q.1)) in
          all-low xs ys q.0 h.first_up h.second_up (h.first_count ∙ q.1) (sym (ap₂ bytes_before f g) ∙ b) l r (subst (λ (x : ℕ). l ∈ take x xs) q.1 i) j

  pub cut_falling : bytes_before (rec_at w 0 part) (rec_at w (length part - w) part) ≡ false → Parted w n m part 0 m
  cut_falling b = record {
    first_within = omega arith;
    second_within = omega arith;
    low_some = omega arith;
    high_some = omega arith;
    first_low = λ xs ys h l r i j. absurd (Memᴰ.not-nil i);
    second_low = λ xs ys h. go xs ys h (before_last m hm);
  }
    where
      go : (xs ys : List (List ℕ)) → Two w n m part xs ys → (a : ℕ) × (m ≡ suc a) × (m * w - w ≡ a * w) → (l r : List ℕ) → l ∈ take m ys → r ∈ drop 0 xs → bytes_before r l ≡ false
      go xs ys h q l r i j =
          let z : 0 ≡ 0 * w = omega arith in
          let s : m * w ≡ suc q.0 * w = ap (λ (x : ℕ). x * w) q.1 in
          let t : suc q.0 * w ≡ w + q.0 * w = omega arith in
          let y : length part - w ≡ n * w + q.0 * w = omega (arith, sizes.both, s, t) in
          let f : rec_at w 0 part ≡ get_or xs 0 [] = ap (λ (x : ℕ). rec_at w x part) z ∙ first_rec h 0 hn in
          let g : rec_at w (length part - w) part ≡ get_or ys q.0 [] = ap (λ (x : ℕ). rec_at w x part) y ∙ second_rec h q.0 (omega (arith, q.1)) in
          all-low ys xs q.0 h.second_up h.first_up (h.second_count ∙ q.1) (sym (ap₂ bytes_before f g) ∙ b) l r (subst (λ (x : ℕ). l ∈ take x ys) q.1 i) j

  -- two records neither rise nor fall: there are more
  more : m ≤ n → bytes_before (rec_at w (n * w) part) (rec_at w (n * w - w) part) ≡ true → bytes_before (rec_at w 0 part) (rec_at w (length part - w) part) ≡ true → 1 < n
  more k a b = go (eq-or-lt_of_le hn)
    where
      go : (1 ≡ n) ⊎ (1 < n) → 1 < n
      go (inr h) = h
      go (inl e) =
          let d : m ≡ 1 = omega arith in
          let f : n * w ≡ w = ap (λ (x : ℕ). x * w) (sym e) ∙ omega arith in
          let g : n * w - w ≡ 0 = omega arith in
          let s : m * w ≡ w = ap (λ (x : ℕ). x * w) d ∙ omega arith in
          let t : length part - w ≡ n * w = omega (arith, sizes.both) in
          absurd (subst T (sym b ∙ ap₂ (λ (x y : ℕ). bytes_before (rec_at w x part) (rec_at w y part)) (sym g) t ∙ bytes_asym (rec_at w (n * w) part) (rec_at w (n * w - w) part) a) tt)

  pub cut_first : (j : ℕ) → m ≤ n → bytes_before (rec_at w (n * w) part) (rec_at w (n * w - w) part) ≡ true → bytes_before (rec_at w 0 part) (rec_at w (length part - w) part) ≡ true
      → GoesIn w (n * w) m (n / 2 * w) part j → Parted w n m part (n / 2) j
  cut_first j k a b p =
      let i : 1 < n = more k a b in
      record {
        first_within = omega arith;
        second_within = p.within;
        low_some = omega arith;
        high_some = omega (arith, p.within);
        first_low = λ xs ys h. pivot_low xs ys (n / 2) j h.first_up h.second_up (omega (arith, h.first_count)) (omega (arith, h.second_count, p.within)) (lows xs ys h) (highs xs ys h);
        second_low = λ xs ys h. place-low xs ys (n / 2) j h.first_up h.second_up (omega (arith, h.first_count)) (omega (arith, h.second_count, p.within)) (lows xs ys h) (highs xs ys h);
      }
    where
      lows : (xs ys : List (List ℕ)) → Two w n m part xs ys → (t : ℕ) → j ≡ suc t → bytes_before (get_or ys t []) (get_or xs (n / 2) []) ≡ true
      lows xs ys h t e = sym (ap₂ bytes_before (second_rec h t (omega (arith, p.within, e))) (first_rec h (n / 2) (omega arith))) ∙ p.low t e

      highs : (xs ys : List (List ℕ)) → Two w n m part xs ys → j < length ys → bytes_before (get_or ys j []) (get_or xs (n / 2) []) ≡ false
      highs xs ys h q = let z : j < m = omega (arith, h.second_count) in sym (ap₂ bytes_before (second_rec h j z) (first_rec h (n / 2) (omega arith))) ∙ p.high z

  pub cut_second : (i : ℕ) → n < m → GoesIn w 0 n (n * w + m / 2 * w) part i → Parted w n m part i (m / 2)
  cut_second i k p = record {
    first_within = p.within;
    second_within = omega arith;
    low_some = omega arith;
    high_some = omega (arith, p.within);
    first_low = λ xs ys h. place-low ys xs (m / 2) i h.second_up h.first_up (omega (arith, h.second_count)) (omega (arith, h.first_count, p.within)) (lows xs ys h) (highs xs ys h);
    second_low = λ xs ys h. pivot_low ys xs (m / 2) i h.second_up h.first_up (omega (arith, h.second_count)) (omega (arith, h.first_count, p.within)) (lows xs ys h) (highs xs ys h);
  }
    where
      lows : (xs ys : List (List ℕ)) → Two w n m part xs ys → (t : ℕ) → i ≡ suc t → bytes_before (get_or xs t []) (get_or ys (m / 2) []) ≡ true
      lows xs ys h t e =
          let z : t * w ≡ 0 + t * w = omega arith in
          sym (ap₂ bytes_before (ap (λ (x : ℕ). rec_at w x part) (sym z) ∙ first_rec h t (omega (arith, p.within, e))) (second_rec h (m / 2) (omega arith))) ∙ p.low t e

      highs : (xs ys : List (List ℕ)) → Two w n m part xs ys → i < length xs → bytes_before (get_or xs i []) (get_or ys (m / 2) []) ≡ false
      highs xs ys h q =
          let y : i < n = omega (arith, h.first_count) in
          let z : i * w ≡ 0 + i * w = omega arith in
          sym (ap₂ bytes_before (ap (λ (x : ℕ). rec_at w x part) (sym z) ∙ first_rec h i y) (second_rec h (m / 2) (omega arith))) ∙ p.high y
