-- Two runs cut, the two inner pieces turned and each half merged: the whole is merged. The proof of `merge` cites
-- it. Assumes nothing.
use mathlib.Core.Path.{◌≡◌, refl, sym, ap, ap₂, subst, ◌∙◌}
use mathlib.Core.List.{List, [], ◌∷◌, ◌++◌, append_assoc, append-nil}
use Prim.Native.Nat.{ℕ, zero, suc, ◌+◌, ◌-◌, ◌*◌, ◌≤◌, ◌<◌}
use native.Mathlib.Nat.{mul-le-mul_left}
use native.Mathlib.Omega.{arith}
use lib.ListN.{length, take, drop, length-drop, length-append, take-append-drop, drop_of_length-le}
use lib.Seq.{take_all, length-take-le, take_at, drop_at}
use borrow.Rule.Slice.PartMut.{put_mid}
use Rattle.base.specs.Lists.{flat}
use Rattle.insertion.specs.Sorted.{insert_all, Up}
use Rattle.insertion.specs.Runs.{bytes_before, Wide}
use Rattle.insertion.proofs.SortedLaws.{take-from, take-keeps_up}
use Rattle.insertion.proofs.ByteOrder.{bytes_le_lt, bytes_asym, bytes_same}
use Rattle.insertion.proofs.RunLaws.{flat_append, flat-length}
use Rattle.merging.specs.Merging.{Two, Parted, Merged}
use Rattle.merging.proofs.MergeLaws.{drop-from, merge_halves, insert_all-nothing}
use Rattle.merging.proofs.RotateLaws.{turned, lent_length}

-- the offsets of a cut
pub record CutSizes (w n m i j len : ℕ) : Type 0 where
  pub all : n * w + m * w ≡ len
  pub first : (n - i) * w + i * w ≡ n * w
  pub second : (m - j) * w + j * w ≡ m * w
  pub inner : (n + j) * w ≡ n * w + j * w
  pub low : (i + j) * w ≡ i * w + j * w
  pub high : (n - i + (m - j)) * w ≡ (n - i) * w + (m - j) * w
  pub count : n + m ≤ len
  pub first_in : i ≤ n
  pub second_in : j ≤ m

pub cut_sizes : (w n m i j len : ℕ) → 0 < w → i ≤ n → j ≤ m → len ≡ (n + m) * w → CutSizes w n m i j len
cut_sizes w n m i j len p hi hj e =
    let a : n ≡ n - i + i = omega arith in
    let b : m ≡ m - j + j = omega arith in
    let c : (n + m) * 1 ≤ (n + m) * w = mul-le-mul_left (n + m) p in
    record {
      all = omega (arith, e);
      first = sym (ap (λ (x : ℕ). x * w) a ∙ omega arith);
      second = sym (ap (λ (x : ℕ). x * w) b ∙ omega arith);
      inner = omega arith;
      low = omega arith;
      high = omega arith;
      count = omega (arith, e, c);
      first_in = hi;
      second_in = hj;
    }

pub sizes_of : {w n m i j : ℕ} {l : List ℕ} → Parted w n m l i j → 0 < w → length l ≡ (n + m) * w → CutSizes w n m i j (length l)
sizes_of {w} {n} {m} {i} {j} {l} p h e = cut_sizes w n m i j (length l) h p.first_within p.second_within e

-- the inner two of four pieces change places
module _ (X₁ X₂ Y₁ Y₂ l : List ℕ) (e : l ≡ X₁ ++ (X₂ ++ (Y₁ ++ Y₂))) (low high k : ℕ) (hl : length X₁ ≡ low) (hh : low + (k + length Y₁) ≡ high) (hk : length X₂ ≡ k) where
  lent_size : length (X₂ ++ Y₁) ≡ high - low
  lent_size = length-append X₂ Y₁ ∙ omega (arith, hh, hk)

  behind : drop low l ≡ (X₂ ++ Y₁) ++ Y₂
  behind = ap (drop low) e ∙ drop_at X₁ (X₂ ++ (Y₁ ++ Y₂)) low hl ∙ sym (append_assoc X₂ Y₁ Y₂)

  pub inner_turned : (r : List ℕ) → r ≡ drop k (take (high - low) (drop low l)) ++ take k (take (high - low) (drop low l)) → put_mid low (high - low) l r ≡ (X₁ ++ Y₁) ++ (X₂ ++ Y₂)
  inner_turned r f =
      let t : take (high - low) (drop low l) ≡ X₂ ++ Y₁ = ap (take (high - low)) behind ∙ take_at (X₂ ++ Y₁) Y₂ (high - low) lent_size in
      let u : r ≡ Y₁ ++ X₂ = f ∙ turned X₂ Y₁ (take (high - low) (drop low l)) k t hk in
      let v : drop (high - low) (drop low l) ≡ Y₂ = ap (drop (high - low)) behind ∙ drop_at (X₂ ++ Y₁) Y₂ (high - low) lent_size in
      ap₂ (λ (x y : List ℕ). x ++ y) (ap (take low) e ∙ take_at X₁ (X₂ ++ (Y₁ ++ Y₂)) low hl) (ap₂ (λ (x y : List ℕ). x ++ y) u v) ∙ simp append_assoc

drop-keeps_up : (i : ℕ) (xs : List (List ℕ)) → Up bytes_before xs → Up bytes_before (drop i xs)
drop-keeps_up zero xs u = u
drop-keeps_up (suc i) [] u = u
drop-keeps_up (suc i) (x ∷ xs) u = drop-keeps_up i xs u.1

-- lengths of what comes back
pub put_length : (a e : ℕ) (l r : List ℕ) → a ≤ e → e ≤ length l → length r ≡ e - a → length (put_mid a (e - a) l r) ≡ length l
put_length a e l r h b f =
    length-append (take a l) (r ++ drop (e - a) (drop a l)) ∙ ap (λ (x : ℕ). length (take a l) + x) (length-append r (drop (e - a) (drop a l)))
    ∙ omega (arith, length-take-le a l (omega arith), f, length-drop (e - a) (drop a l), length-drop a l)

module _ (w n m i j : ℕ) (l : List ℕ) (pos : 0 < w) (len : length l ≡ (n + m) * w) (p : Parted w n m l i j) where
  sizes : CutSizes w n m i j (length l)
  sizes = cut_sizes w n m i j (length l) pos p.first_within p.second_within len

  -- the bytes after the turn, after the lower half, after the upper half
  module _ (r₁ q₁ : List ℕ) (e₁ : r₁ ≡ drop ((n - i) * w) (take ((n + j) * w - i * w) (drop (i * w) l)) ++ take ((n - i) * w) (take ((n + j) * w - i * w) (drop (i * w) l)))
      (f₁ : q₁ ≡ put_mid (i * w) ((n + j) * w - i * w) l r₁) (s₁ : length q₁ ≡ length l)
      (r₂ q₂ : List ℕ) (e₂ : Merged w i j (take ((i + j) * w - 0) (drop 0 q₁)) r₂) (f₂ : q₂ ≡ r₂ ++ drop ((i + j) * w - 0) (drop 0 q₁)) (s₂ : length q₂ ≡ length q₁)
      (r₃ q₃ : List ℕ) (e₃ : Merged w (n - i) (m - j) (take (length q₂ - (i + j) * w) (drop ((i + j) * w) q₂)) r₃) (f₃ : q₃ ≡ put_mid ((i + j) * w) (length q₂ - (i + j) * w) q₂ r₃) (s₃ : length q₃ ≡ length q₂) where
    module _ (xs ys : List (List ℕ)) (h : Two w n m l xs ys) where
      abbrev x₁ : List (List ℕ)
      x₁ = take i xs

      abbrev x₂ : List (List ℕ)
      x₂ = drop i xs

      abbrev y₁ : List (List ℕ)
      y₁ = take j ys

      abbrev y₂ : List (List ℕ)
      y₂ = drop j ys

      x₁_count : length x₁ ≡ i
      x₁_count = length-take-le i xs (omega (arith, h.first_count, p.first_within))

      x₂_count : length x₂ ≡ n - i
      x₂_count = length-drop i xs ∙ omega (arith, h.first_count)

      y₁_count : length y₁ ≡ j
      y₁_count = length-take-le j ys (omega (arith, h.second_count, p.second_within))

      y₂_count : length y₂ ≡ m - j
      y₂_count = length-drop j ys ∙ omega (arith, h.second_count)

      x₁_wide : Wide w x₁
      x₁_wide r k = h.first_wide r (take-from i xs r k)

      x₂_wide : Wide w x₂
      x₂_wide r k = h.first_wide r (drop-from i xs r k)

      y₁_wide : Wide w y₁
      y₁_wide r k = h.second_wide r (take-from j ys r k)

      y₂_wide : Wide w y₂
      y₂_wide r k = h.second_wide r (drop-from j ys r k)

      size : (zs : List (List ℕ)) (k : ℕ) → Wide w zs → length zs ≡ k → length (flat zs) ≡ k * w
      size zs k f e = flat-length w zs f ∙ ap (λ (x : ℕ). x * w) e

      pieces : l ≡ flat x₁ ++ (flat x₂ ++ (flat y₁ ++ flat y₂))
      pieces =
          h.bytes ∙ ap₂ (λ (x y : List (List ℕ)). flat x ++ flat y) (sym (take-append-drop i xs)) (sym (take-append-drop j ys))
          ∙ ap₂ (λ (x y : List ℕ). x ++ y) (flat_append x₁ x₂) (flat_append y₁ y₂) ∙ append_assoc (flat x₁) (flat x₂) (flat y₁ ++ flat y₂)

      q₁_is : q₁ ≡ (flat x₁ ++ flat y₁) ++ (flat x₂ ++ flat y₂)
      q₁_is = f₁ ∙ inner_turned (flat x₁) (flat x₂) (flat y₁) (flat y₂) l pieces (i * w) ((n + j) * w) ((n - i) * w) (size x₁ i x₁_wide x₁_count)
          (omega (arith, size y₁ j y₁_wide y₁_count, sizes.first, sizes.inner)) (size x₂ (n - i) x₂_wide x₂_count) r₁ e₁

      low-size : length (flat x₁ ++ flat y₁) ≡ (i + j) * w
      low-size = length-append (flat x₁) (flat y₁) ∙ omega (arith, size x₁ i x₁_wide x₁_count, size y₁ j y₁_wide y₁_count, sizes.low)

      low_size₀ : length (flat x₁ ++ flat y₁) ≡ (i + j) * w - 0
      low_size₀ = low-size ∙ omega arith

      r₂_is : r₂ ≡ flat (insert_all bytes_before y₁ x₁)
      r₂_is = e₂.held x₁ y₁ (record {
        first_count = x₁_count;
        second_count = y₁_count;
        first_wide = x₁_wide;
        second_wide = y₁_wide;
        first_up = take-keeps_up bytes_before i xs h.first_up;
        second_up = take-keeps_up bytes_before j ys h.second_up;
        bytes = ap (take ((i + j) * w - 0)) q₁_is ∙ take_at (flat x₁ ++ flat y₁) (flat x₂ ++ flat y₂) ((i + j) * w - 0) low_size₀;
      })

      r₂_size : length r₂ ≡ (i + j) * w
      r₂_size = e₂.len ∙ lent_length 0 ((i + j) * w) q₁ (omega (arith, s₁, sizes.all, sizes.first, sizes.second, sizes.low)) ∙ omega arith

      q₂_is : q₂ ≡ r₂ ++ (flat x₂ ++ flat y₂)
      q₂_is = f₂ ∙ ap (λ (x : List ℕ). r₂ ++ x) (ap (drop ((i + j) * w - 0)) q₁_is ∙ drop_at (flat x₁ ++ flat y₁) (flat x₂ ++ flat y₂) ((i + j) * w - 0) low_size₀)

      upper : drop ((i + j) * w) q₂ ≡ flat x₂ ++ flat y₂
      upper = ap (drop ((i + j) * w)) q₂_is ∙ drop_at r₂ (flat x₂ ++ flat y₂) ((i + j) * w) r₂_size

      r₃_is : r₃ ≡ flat (insert_all bytes_before y₂ x₂)
      r₃_is = e₃.held x₂ y₂ (record {
        first_count = x₂_count;
        second_count = y₂_count;
        first_wide = x₂_wide;
        second_wide = y₂_wide;
        first_up = drop-keeps_up i xs h.first_up;
        second_up = drop-keeps_up j ys h.second_up;
        bytes = take_all (length q₂ - (i + j) * w) (drop ((i + j) * w) q₂) (omega (arith, length-drop ((i + j) * w) q₂)) ∙ upper;
      })

      q₃_is : q₃ ≡ r₂ ++ r₃
      q₃_is =
          f₃ ∙ ap₂ (λ (x y : List ℕ). x ++ (r₃ ++ y)) (ap (take ((i + j) * w)) q₂_is ∙ take_at r₂ (flat x₂ ++ flat y₂) ((i + j) * w) r₂_size)
          (drop_of_length-le (drop ((i + j) * w) q₂) {i = length q₂ - (i + j) * w} (omega (arith, length-drop ((i + j) * w) q₂)))
          ∙ ap (λ (x : List ℕ). r₂ ++ x) (append-nil r₃)

      up_whole : (k : ℕ) (zs : List (List ℕ)) → Up bytes_before zs → Up bytes_before (take k zs ++ drop k zs)
      up_whole k zs u = subst (λ (x : List (List ℕ)). Up bytes_before x) (sym (take-append-drop k zs)) u

      joined-held : q₃ ≡ flat (insert_all bytes_before ys xs)
      joined-held =
          q₃_is ∙ ap₂ (λ (x y : List ℕ). x ++ y) r₂_is r₃_is ∙ sym (flat_append (insert_all bytes_before y₁ x₁) (insert_all bytes_before y₂ x₂))
          ∙ ap flat (sym (merge_halves bytes_before bytes_le_lt bytes_asym bytes_same x₁ x₂ y₁ y₂ (up_whole i xs h.first_up) (up_whole j ys h.second_up) (p.first_low xs ys h) (p.second_low xs ys h))
          ∙ ap₂ (insert_all bytes_before) (take-append-drop j ys) (take-append-drop i xs))

    joined_halves : Merged w n m l q₃
    joined_halves = record { len = s₃ ∙ s₂ ∙ s₁; held = λ xs ys h. joined-held xs ys h }

turned_length : (k : ℕ) (l : List ℕ) → length (drop k l ++ take k l) ≡ length l
turned_length k l = length-append (drop k l) (take k l) ∙ sym (sym (ap length (take-append-drop k l)) ∙ length-append (take k l) (drop k l) ∙ omega arith)

-- the same of the lists as they come back from the calls
module _ (w n m i j : ℕ) (l : List ℕ) (pos : 0 < w) (len : length l ≡ (n + m) * w) (p : Parted w n m l i j)
    (r₁ : List ℕ) (e₁ : r₁ ≡ drop ((n - i) * w) (take ((n + j) * w - i * w) (drop (i * w) l)) ++ take ((n - i) * w) (take ((n + j) * w - i * w) (drop (i * w) l))) where
  z : CutSizes w n m i j (length l)
  z = cut_sizes w n m i j (length l) pos p.first_within p.second_within len

  abbrev turned_part : List ℕ
  turned_part = put_mid (i * w) ((n + j) * w - i * w) l r₁

  turned_part_len : length turned_part ≡ length l
  turned_part_len =
      put_length (i * w) ((n + j) * w) l r₁ (omega (arith, z.first, z.inner)) (omega (arith, z.all, z.second, z.inner))
      (ap length e₁ ∙ turned_length ((n - i) * w) (take ((n + j) * w - i * w) (drop (i * w) l)) ∙ lent_length (i * w) ((n + j) * w) l (omega (arith, z.all, z.second, z.inner)))

  module _ (r₂ : List ℕ) (e₂ : Merged w i j (take ((i + j) * w - 0) (drop 0 turned_part)) r₂) where
    abbrev low_part : List ℕ
    low_part = r₂ ++ drop ((i + j) * w - 0) (drop 0 turned_part)

    low_fits : (i + j) * w ≤ length l
    low_fits = omega (arith, z.all, z.first, z.second, z.low)

    low-part-len : length low_part ≡ length turned_part
    low-part-len = put_length 0 ((i + j) * w) turned_part r₂ (omega arith) (omega (arith, low_fits, turned_part_len)) (e₂.len ∙ lent_length 0 ((i + j) * w) turned_part (omega (arith, low_fits, turned_part_len)))

    high_lent : length (take (length low_part - (i + j) * w) (drop ((i + j) * w) low_part)) ≡ length low_part - (i + j) * w
    high_lent = lent_length ((i + j) * w) (length low_part) low_part (omega arith)

    pub high-size : length (take (length low_part - (i + j) * w) (drop ((i + j) * w) low_part)) ≡ (n - i + (m - j)) * w
    high-size = high_lent ∙ omega (arith, low-part-len, turned_part_len, z.all, z.first, z.second, z.low, z.high)

    pub joined : (r₃ : List ℕ) → Merged w (n - i) (m - j) (take (length low_part - (i + j) * w) (drop ((i + j) * w) low_part)) r₃ → Merged w n m l (put_mid ((i + j) * w) (length low_part - (i + j) * w) low_part r₃)
    joined r₃ e₃ =
        joined_halves w n m i j l pos len p r₁ turned_part e₁ refl turned_part_len r₂ low_part e₂ refl low-part-len r₃ (put_mid ((i + j) * w) (length low_part - (i + j) * w) low_part r₃) e₃ refl
        (put_length ((i + j) * w) (length low_part) low_part r₃ (omega (arith, low_fits, low-part-len, turned_part_len)) (omega arith) (e₃.len ∙ high_lent))

-- one of the runs is empty
pub joined_second : (w n m : ℕ) (l : List ℕ) → n ≡ 0 → Merged w n m l l
unfolding flat
joined_second w n m l z = record { len = refl; held = λ xs ys h. go xs ys h (omega (arith, h.first_count)) }
  where
    go : (xs ys : List (List ℕ)) → Two w n m l xs ys → length xs ≡ 0 → l ≡ flat (insert_all bytes_before ys xs)
    go [] ys h e = h.bytes ∙ ap flat (sym (insert_all-nothing bytes_before bytes_le_lt bytes_asym bytes_same ys h.second_up))
    go (x ∷ xs) ys h e = absurd (omega arith)

pub joined_first : (w n m : ℕ) (l : List ℕ) → m ≡ 0 → Merged w n m l l
unfolding flat insert_all
joined_first w n m l z = record { len = refl; held = λ xs ys h. go xs ys h (omega (arith, h.second_count)) }
  where
    go : (xs ys : List (List ℕ)) → Two w n m l xs ys → length ys ≡ 0 → l ≡ flat (insert_all bytes_before ys xs)
    go xs [] h e = h.bytes ∙ append-nil (flat xs)
    go xs (y ∷ ys) h e = absurd (omega arith)
