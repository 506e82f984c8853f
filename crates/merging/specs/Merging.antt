-- Two rising runs of records of one width, one behind the other in a part, and what merging them in place makes of the part.
-- Assumes nothing.
use Rattle.std.specs.Prelude.{◌≡◌, true, false, ℕ, suc, ◌+◌, ◌-◌, ◌*◌, ◌≤◌, ◌<◌, length, take, drop}
use mathlib.Core.List.{List, ◌++◌, Memᴰ}
use Rattle.base.specs.Lists.{flat}
use Rattle.insertion.specs.Sorted.{insert_all, Up}
use Rattle.insertion.specs.Runs.{bytes_before, Wide}

-- the first s bytes and the last s have changed places
abbrev pub swapped : ℕ → List ℕ → List ℕ
swapped s l = drop (length l - s) l ++ (take (length l - s - s) (drop s l) ++ take s l)

-- the record at an offset
abbrev pub rec_at : ℕ → ℕ → List ℕ → List ℕ
rec_at w at part = take w (drop at part)

-- of count records, r is where the one at `at` goes in: the one in front of r comes before it, the one at r does not
pub record GoesIn (w from count at : ℕ) (part : List ℕ) (r : ℕ) : Type 0 where
  pub within : r ≤ count
  pub low : (i : ℕ) → r ≡ suc i → bytes_before (rec_at w (from + i * w) part) (rec_at w at part) ≡ true
  pub high : r < count → bytes_before (rec_at w (from + r * w) part) (rec_at w at part) ≡ false

-- the part is n records xs, rising, and behind them m records ys, rising
pub record Two (w n m : ℕ) (part : List ℕ) (xs ys : List (List ℕ)) : Type 0 where
  pub first_count : length xs ≡ n
  pub second_count : length ys ≡ m
  pub first_wide : Wide w xs
  pub second_wide : Wide w ys
  pub first_up : Up bytes_before xs
  pub second_up : Up bytes_before ys
  pub bytes : part ≡ flat xs ++ flat ys

-- cut at i and at j, no record behind a cut comes before one in front of the other cut; and each side has some record
pub record Parted (w n m : ℕ) (part : List ℕ) (i j : ℕ) : Type 0 where
  pub first_within : i ≤ n
  pub second_within : j ≤ m
  pub low_some : 0 < i + j
  pub high_some : i + j < n + m
  pub first_low : (xs ys : List (List ℕ)) → Two w n m part xs ys → (l r : List ℕ) → Memᴰ l (take i xs) → Memᴰ r (drop j ys) → bytes_before r l ≡ false
  pub second_low : (xs ys : List (List ℕ)) → Two w n m part xs ys → (l r : List ℕ) → Memᴰ l (take j ys) → Memᴰ r (drop i xs) → bytes_before r l ≡ false

-- whatever rising records the two runs held, the part is all of them now, rising
pub record Merged (w n m : ℕ) (part₀ part : List ℕ) : Type 0 where
  pub len : length part ≡ length part₀
  pub held : (xs ys : List (List ℕ)) → Two w n m part₀ xs ys → part ≡ flat (insert_all bytes_before ys xs)
