-- What each goal writes of models: nothing for none, a record or sums for one (`keep`), and for two runs of models what it writes for
-- both together (`combine`). Assumes nothing.
use mathlib.Core.Path.{◌≡◌, refl, sym, ap, ap₂, subst, ◌∙◌}
use mathlib.Core.Logic.{◌⊎◌, inl, inr}
use mathlib.Core.List.Memᴰ
use mathlib.Core.List.{List, [], ◌∷◌, ◌++◌, map, append_assoc, append-nil}
use Prim.Native.Nat.{ℕ, ◌+◌, ◌-◌, ◌*◌, ◌≤◌, ◌<◌}
use native.Mathlib.Nat.{mul-le-mul, mul-le-mul_right}
use native.Mathlib.Omega.{arith}
use borrow.Rule.Slice.PartMut.{put_mid}
use lib.ListN.{length, take, drop, length-drop, length-append, length-map, take-append-drop}
use lib.Seq.{length-take-le, take_at, drop_at, drop-drop, drop-append-add}
use Rattle.base.specs.Bounds.{max_atoms, max_record}
use Rattle.base.specs.Lists.{flat}
use Rattle.base.proofs.Members.{◌∈◌}
use Rattle.insertion.specs.Sorted.{insert_by, insert_all, Up}
use Rattle.insertion.specs.Runs.{bytes_before, Wide}
use Rattle.insertion.proofs.ByteOrder.{bytes_le_lt, bytes_asym}
use Rattle.insertion.proofs.SortedLaws.{insert_all-map, insert_all-keeps_up}
use Rattle.merging.specs.Merging.{Two, Merged}
use Rattle.merging.proofs.HalvesLaws.{merged_records}
use Rattle.models.specs.StableModels.{Interpretation}
use Rattle.models.specs.Listing.{record_size, record_of}
use Rattle.models.proofs.RecordLaws.{record_length, records-length}
use Rattle.records.specs.Written.{sorted, added_to, summed}
use Rattle.records.proofs.OrderLaws.{sorted-length}
use Rattle.search.specs.declared.Goal.{Goal}
use Rattle.search.specs.declared.Goal.TheVariants as goals
use Rattle.search.specs.Visits.{rising, kept_by, RoomFor, Combines}

-- ---- the room that a goal needs
-- less room for fewer models, and as much in a part of the same length
pub room_less : (goal : Goal) (n a b : ℕ) (part : List ℕ) → a ≤ b → RoomFor goal n b part → RoomFor goal n a part
unfolding RoomFor
room_less goals.List n a b part h r = let q : a * record_size n ≤ b * record_size n = mul-le-mul_right (record_size n) h in omega (arith, q, r)
room_less goals.Sums n a b part h r = r
room_less _ n a b part h r = tt

pub room-same : (goal : Goal) (n a : ℕ) (part part' : List ℕ) → length part' ≡ length part → RoomFor goal n a part → RoomFor goal n a part'
unfolding RoomFor
room-same goals.List n a part part' e r = omega (arith, e, r)
room-same goals.Sums n a part part' e r = omega (arith, e, r)
room-same _ n a part part' e r = tt

-- a record's place, and the bytes of as many records as there may be, in numbers that fit
pub times_fit : (count w : ℕ) → count ≤ 4294967296 → w ≤ max_record → count * w ≤ 4294967296 * max_record
times_fit count w h b = mul-le-mul h b

module _ (goal : Goal) (n count : ℕ) where
  pub place-fits : (w : ℕ) (part : List ℕ) → goal ≡ goals.List → w ≡ record_size n → RoomFor goal n (count + 1) part → count * w + record_size n ≤ length part
  unfolding RoomFor
  place-fits w part e ew r =
      let q : (count + 1) * record_size n ≤ length part = subst (λ (g : Goal). RoomFor g n (count + 1) part) e r in
      let z : (count + 1) * record_size n ≡ count * record_size n + record_size n = omega arith in
      omega (arith, q, z, ap (λ (k : ℕ). count * k) ew)

  pub sums_fit : (s : Interpretation) (part : List ℕ) → goal ≡ goals.Sums → length s ≡ n → n ≤ max_atoms → RoomFor goal n (count + 1) part
      → (length s ≤ max_atoms) × (4 * length s ≤ length part)
  unfolding RoomFor
  sums_fit s part e l h r = let q : 4 * n ≤ length part = subst (λ (g : Goal). RoomFor g n (count + 1) part) e r in (omega arith, omega (arith, q))

-- ---- no model
pub kept-none : (goal : Goal) (n count : ℕ) (part : List ℕ) → kept_by goal n count [] part ≡ part
unfolding kept_by sorted insert_all flat summed
kept-none goals.List n count part = let z : count + 0 ≡ count = omega arith in rw z (take-append-drop (count * record_size n) part)
kept-none goals.Sums n count part = refl
kept-none _ n count part = refl

-- ---- one model
module _ (goal : Goal) (n count : ℕ) (m : Interpretation) (part : List ℕ) where
  pub keep_listed : goal ≡ goals.List → (w : ℕ) → w ≡ record_size n → (new : List ℕ) → new ≡ take (count * w) part ++ (record_of n m ++ drop (count * w + record_size n) part)
      → new ≡ kept_by goal n count (m ∷ []) part
  unfolding kept_by sorted insert_all insert_by flat
  keep_listed e w ew new f =
      let z : (count + 1) * record_size n ≡ count * record_size n + record_size n = omega arith in
      f ∙ rw (e, ew, z, append-nil (record_of n m)) refl

  pub keep_sums : goal ≡ goals.Sums → (new : List ℕ) → new ≡ added_to n part m → new ≡ kept_by goal n count (m ∷ []) part
  unfolding kept_by summed
  keep_sums e new f = f ∙ rw e refl

pub keep_others : (goal : Goal) (n count : ℕ) (m : Interpretation) (part : List ℕ) → (goal ≡ goals.List → ⊥) → (goal ≡ goals.Sums → ⊥) → part ≡ kept_by goal n count (m ∷ []) part
unfolding kept_by
keep_others goals.List n count m part d e = absurd (d refl)
keep_others goals.Sums n count m part d e = absurd (e refl)
keep_others _ n count m part d e = refl

-- ---- two runs of models
sums_append : (n : ℕ) (xs ys : List Interpretation) (part : List ℕ) → summed n (summed n part xs) ys ≡ summed n part (xs ++ ys)
unfolding summed
sums_append n [] ys part = refl
sums_append n (x ∷ xs) ys part = sums_append n xs ys (added_to n part x)

-- where no records are listed, they are one already
pub combines_others : (goal : Goal) (n from mid end : ℕ) (part : List ℕ) → (goal ≡ goals.List → ⊥) → Combines goal n from mid end part part
unfolding kept_by
combines_others goals.List n from mid end part d = absurd (d refl)
combines_others goals.Sums n from mid end part d = λ old xs ys room em ee f. f ∙ sums_append n xs ys old
combines_others _ n from mid end part d = λ old xs ys room em ee f. f

-- ---- two runs of records
records_wide : (n : ℕ) (ms : List Interpretation) → Wide (record_size n) (map (record_of n) ms)
records_wide n [] r k = absurd (Memᴰ.not-nil k)
records_wide n (m ∷ ms) r k = go (records_wide n ms r) (Memᴰ.cases_cons k)
  where
    go : (r ∈ map (record_of n) ms → length r ≡ record_size n) → (r ≡ record_of n m) ⊎ r ∈ map (record_of n) ms → length r ≡ record_size n
    go f (inl e) = ap length e ∙ record_length n m
    go f (inr j) = f j

map-append : {A B : Type 0} (f : A → B) (xs ys : List A) → map f (xs ++ ys) ≡ map f xs ++ map f ys
map-append f [] ys = refl
map-append f (x ∷ xs) ys = ap (λ (l : List _). f x ∷ l) (map-append f xs ys)

module _ (n : ℕ) where
  as_inserted : (ms : List Interpretation) → map (record_of n) (sorted n ms) ≡ insert_all bytes_before (map (record_of n) ms) []
  unfolding sorted
  as_inserted ms = insert_all-map (record_of n) bytes_before ms []

  sorted_up : (ms : List Interpretation) → Up bytes_before (map (record_of n) (sorted n ms))
  sorted_up ms = subst (λ (l : List (List ℕ)). Up bytes_before l) (sym (as_inserted ms)) (insert_all-keeps_up bytes_before bytes_le_lt bytes_asym (map (record_of n) ms) [] tt)

  rising-length : (ms : List Interpretation) → length (rising n ms) ≡ length ms * record_size n
  rising-length ms = records-length n (sorted n ms) ∙ ap (λ (k : ℕ). k * record_size n) (sorted-length n ms)

  -- the records of the one among those of the other, rising
  rising_both : (xs ys : List Interpretation) → flat (insert_all bytes_before (map (record_of n) (sorted n ys)) (map (record_of n) (sorted n xs))) ≡ rising n (xs ++ ys)
  rising_both xs ys =
      ap flat (ap₂ (insert_all bytes_before) (as_inserted ys) (as_inserted xs) ∙ merged_records (map (record_of n) xs) (map (record_of n) ys)
      ∙ ap (λ (l : List (List ℕ)). insert_all bytes_before l []) (sym (map-append (record_of n) xs ys)) ∙ sym (as_inserted (xs ++ ys)))

  module _ (from mid end : ℕ) (old : List ℕ) (xs ys : List Interpretation) (room : end * record_size n ≤ length old) (em : mid ≡ from + length xs) (ee : end ≡ mid + length ys) where
    abbrev w : ℕ
    w = record_size n

    mid_at : mid * w ≡ from * w + length xs * w
    mid_at = ap (λ (k : ℕ). k * w) em ∙ omega arith

    end_at : end * w ≡ mid * w + length ys * w
    end_at = ap (λ (k : ℕ). k * w) ee ∙ omega arith

    abbrev A : List ℕ
    A = take (from * w) old

    abbrev X : List ℕ
    X = rising n xs

    abbrev Y : List ℕ
    Y = rising n ys

    abbrev Z : List ℕ
    Z = drop (end * w) old

    A_length : length A ≡ from * w
    A_length = length-take-le (from * w) old (omega (arith, mid_at, end_at))

    front_length : length (A ++ X) ≡ mid * w
    front_length = length-append A X ∙ omega (arith, A_length, rising-length xs, mid_at)

    abbrev once : List ℕ
    once = take (from * w) old ++ (rising n xs ++ drop ((from + length xs) * w) old)

    once_is : once ≡ (A ++ X) ++ drop (mid * w) old
    once_is = ap (λ (k : ℕ). take (from * w) old ++ (rising n xs ++ drop (k * w) old)) (sym em) ∙ sym (append_assoc A X (drop (mid * w) old))

    rest_is : drop ((mid + length ys) * w) once ≡ Z
    rest_is =
        let e : (mid + length ys) * w ≡ length (A ++ X) + length ys * w = omega (arith, front_length) in
        ap₂ drop e once_is ∙ drop-append-add (A ++ X) (drop (mid * w) old) (length ys * w) ∙ drop-drop (length ys * w) (mid * w) old
        ∙ ap (λ (k : ℕ). drop k old) (sym end_at)

    -- the two runs one behind the other
    twice_is : take (mid * w) once ++ (Y ++ drop ((mid + length ys) * w) once) ≡ A ++ ((X ++ Y) ++ Z)
    twice_is =
        ap₂ (λ (a b : List ℕ). a ++ (Y ++ b)) (ap (take (mid * w)) once_is ∙ take_at (A ++ X) (drop (mid * w) old) (mid * w) front_length) rest_is
        ∙ append_assoc A X (Y ++ Z) ∙ ap (λ (l : List ℕ). A ++ l) (sym (append_assoc X Y Z))

    module _ (part : List ℕ) (f : part ≡ take (mid * w) once ++ (Y ++ drop ((mid + length ys) * w) once)) where
      part_is : part ≡ A ++ ((X ++ Y) ++ Z)
      part_is = f ∙ twice_is

      both_length : length (X ++ Y) ≡ end * w - from * w
      both_length = length-append X Y ∙ omega (arith, rising-length xs, rising-length ys, mid_at, end_at)

      behind : drop (from * w) part ≡ (X ++ Y) ++ Z
      behind = ap (drop (from * w)) part_is ∙ drop_at A ((X ++ Y) ++ Z) (from * w) A_length

      lent_is : take (end * w - from * w) (drop (from * w) part) ≡ X ++ Y
      lent_is = ap (take (end * w - from * w)) behind ∙ take_at (X ++ Y) Z (end * w - from * w) both_length

      -- the part holds two rising runs
      two : Two w (length xs) (length ys) (take (end * w - from * w) (drop (from * w) part)) (map (record_of n) (sorted n xs)) (map (record_of n) (sorted n ys))
      two = record {
        first_count = length-map (sorted n xs) (record_of n) ∙ sorted-length n xs;
        second_count = length-map (sorted n ys) (record_of n) ∙ sorted-length n ys;
        first_wide = records_wide n (sorted n xs);
        second_wide = records_wide n (sorted n ys);
        first_up = sorted_up xs;
        second_up = sorted_up ys;
        bytes = lent_is;
      }

      pub runs_merged : (new : List ℕ) → Merged w (length xs) (length ys) (take (end * w - from * w) (drop (from * w) part)) new
          → put_mid (from * w) (end * w - from * w) part new ≡ take (from * w) old ++ (rising n (xs ++ ys) ++ drop ((from + length (xs ++ ys)) * w) old)
      runs_merged new g =
          let z : end ≡ from + length (xs ++ ys) = omega (arith, em, ee, length-append xs ys) in
          ap₂ (λ (a b : List ℕ). a ++ (new ++ b)) (ap (take (from * w)) part_is ∙ take_at A ((X ++ Y) ++ Z) (from * w) A_length)
          (ap (drop (end * w - from * w)) behind ∙ drop_at (X ++ Y) Z (end * w - from * w) both_length)
          ∙ ap₂ (λ (l : List ℕ) (k : ℕ). A ++ (l ++ drop (k * w) old)) (g.held (map (record_of n) (sorted n xs)) (map (record_of n) (sorted n ys)) two ∙ rising_both xs ys) z

-- what the recursion lends to the merge
module _ (goal : Goal) (n from mid end w : ℕ) (part : List ℕ) (is : goal ≡ goals.List) (ew : w ≡ record_size n) (hm : from ≤ mid) (he : mid ≤ end) (room : RoomFor goal n end part) where
  list_room : end * record_size n ≤ length part
  unfolding RoomFor
  list_room = subst (λ (g : Goal). RoomFor g n end part) is room

  pub end_fits : end * w ≤ length part
  end_fits = rw ew list_room

  pub start_fits : from * w ≤ end * w
  start_fits = mul-le-mul_right w (let q : from ≤ end = omega arith in q)

  pub width_some : 0 < n → 0 < w
  unfolding record_size
  width_some some = omega (arith, ew)

  pub lent_size : length (take (end * w - from * w) (drop (from * w) part)) ≡ (mid - from + (end - mid)) * w
  lent_size =
      let size : length (take (end * w - from * w) (drop (from * w) part)) ≡ end * w - from * w = length-take-le (end * w - from * w) (drop (from * w) part) (omega (arith, end_fits, length-drop (from * w) part)) in
      let e : end ≡ from + (mid - from + (end - mid)) = omega arith in
      let q : end * w ≡ from * w + (mid - from + (end - mid)) * w = ap (λ (k : ℕ). k * w) e ∙ omega arith in
      omega (arith, size, q)

  pub combines_listed : (new : List ℕ) → Merged w (mid - from) (end - mid) (take (end * w - from * w) (drop (from * w) part)) new → Combines goal n from mid end part (put_mid (from * w) (end * w - from * w) part new)
  unfolding kept_by RoomFor
  combines_listed new g old xs ys r em ee f =
      let a : mid - from ≡ length xs = omega (arith, em) in
      let b : end - mid ≡ length ys = omega (arith, ee) in
      rw (is, ew) (runs_merged n from mid end old xs ys (subst (λ (q : Goal). RoomFor q n end old) is r) em ee part (rw is at f) new (rw (ew, a, b) at g))
