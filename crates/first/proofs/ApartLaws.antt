-- How far states are from the wanted one: the distance, fact by fact, and what the decided facts say of it. Used by distance, step_apart and
-- search_first; a pass cites `apart-start`. Assumes nothing.
use mathlib.Core.Path.{◌≡◌, refl, sym, ap, ap₂, subst, ◌∙◌}
use mathlib.Core.Bool.{Bool, true, false, not, ◌&&◌, beq}
use mathlib.Core.List.Memᴰ
use mathlib.Core.List.{List, [], ◌∷◌, ◌++◌}
use Prim.Native.Nat.{ℕ, zero, suc, ◌+◌, ◌-◌, ◌^◌, ◌<◌, ◌≤◌}
use native.Mathlib.Decide.{dec_lt}
use native.Mathlib.Omega.{arith}
use borrow.Author.Tests.{le-ltb}
use lib.Dec.{T, ltb}
use mir.Val.{bool_byte}
use lib.ListN.{length, get_or, drop}
use lib.Seq.{drop-cons}
use native.Mathlib.Numerals.{add-one}
use Rattle.base.specs.Lists.{cons_if, filter, up_to}
use Rattle.base.proofs.Members.{◌∈◌}
use Rattle.base.proofs.UpTo.{passed}
use Rattle.layers.specs.Masks.{bit_of}
use Rattle.layers.proofs.BitLaws.{bit-same, or_right}
use Rattle.models.specs.StableModels.{Interpretation, atom_holds}
use Rattle.models.specs.Branching.{branching, branching_atoms}
use Rattle.models.specs.Listing.{bit_value}
use Rattle.models.proofs.RecordLaws.{bit_le}
use Rattle.bans.specs.Bans.{barred}
use Rattle.setting.specs.Setting.{setting_of}
use Rattle.leaf.specs.Searchable.{Searchable}
use Rattle.search.specs.declared.space.Space.{Space}
use Rattle.search.specs.declared.Turn.{Turn}
use Rattle.search.specs.Decided.{undecided, decided_turn, Turned}
use Rattle.search.specs.Space.{space_atoms, models_left}
use Rattle.search.proofs.AllowedLaws.{barred-listed, barred-size}
use Rattle.search.proofs.ReadyLaws.{space_searchable}
use Rattle.search.proofs.TurnLaws.{turned_first, turned_second, halves_are}
use Rattle.first.specs.Nearest.{differs, distance}
use Rattle.first.specs.InHand.{far, apart_at, Apart}
use Rattle.first.proofs.LaterLaws.{group_has, group_lacks}
use Rattle.table.specs.declared.Row.{Row}
use Rattle.table.specs.declared.Span.{Span}

-- ---- counting
count_cons : {A : Type 0} (p : A → Bool) (x : A) (xs : List A) → length (filter p (x ∷ xs)) ≡ bit_value (p x) 1 + length (filter p xs)
unfolding filter cons_if bit_value
count_cons p x xs = go (p x)
  where
    go : (c : Bool) → length (cons_if c x (filter p xs)) ≡ bit_value c 1 + length (filter p xs)
    go true = omega arith
    go false = omega arith

count-append : {A : Type 0} (p : A → Bool) (xs ys : List A) → length (filter p (xs ++ ys)) ≡ length (filter p xs) + length (filter p ys)
unfolding filter
count-append p [] ys = omega arith
count-append p (x ∷ xs) ys = omega (arith, count_cons p x (xs ++ ys), count_cons p x xs, count-append p xs ys)

count_next : (p : ℕ → Bool) (n : ℕ) → length (filter p (up_to (suc n))) ≡ length (filter p (up_to n)) + bit_value (p n) 1
unfolding up_to filter
count_next p n = omega (arith, count-append p (up_to n) (n ∷ []), count_cons p n [])

and_le : (a b : Bool) → bit_value (a && b) 1 ≤ bit_value b 1
unfolding bit_value
and_le true b = omega arith
and_le false b = omega arith

-- of fewer members no more are counted
count-filter : {A : Type 0} (p q : A → Bool) (xs : List A) → length (filter p (filter q xs)) ≤ length (filter p xs)
unfolding filter cons_if
count-filter p q [] = omega arith
count-filter p q (x ∷ xs) = go (q x) (count-filter p q xs)
  where
    go : (c : Bool) → length (filter p (filter q xs)) ≤ length (filter p xs) → length (filter p (cons_if c x (filter q xs))) ≤ length (filter p (x ∷ xs))
    go true h = omega (arith, count_cons p x (filter q xs), count_cons p x xs)
    go false h = omega (arith, count_cons p x xs)

module _ (k : ℕ) (p : ℕ → Bool) where
  abbrev low : ℕ → Bool
  low f = ltb f k && p f

  count-below : (n : ℕ) → length (filter low (up_to n)) ≤ length (filter p (up_to n))
  unfolding up_to filter
  count-below zero = omega arith
  count-below (suc n) = omega (arith, count_next low n, count_next p n, and_le (ltb n k) (p n), count-below n)

  count_low : (n : ℕ) → k ≤ n → length (filter low (up_to n)) ≤ length (filter p (up_to k))
  unfolding up_to bit_value
  count_low zero h = let z : k ≡ 0 = omega arith in subst (λ (i : ℕ). length (filter low (up_to 0)) ≤ length (filter p (up_to i))) (sym z) (count-below 0)
  count_low (suc n) h = go (dec_lt n k) (λ l. count_low n l)
    where
      go : Dec (n < k) → (k ≤ n → length (filter low (up_to n)) ≤ length (filter p (up_to k))) → length (filter low (up_to (suc n))) ≤ length (filter p (up_to k))
      go (yes l) f = let z : k ≡ suc n = omega arith in subst (λ (i : ℕ). length (filter low (up_to (suc n))) ≤ length (filter p (up_to i))) (sym z) (count-below (suc n))
      go (no l) f =
          let z : bit_value (low n) 1 ≡ 0 = ap (λ (c : Bool). bit_value (c && p n) 1) (le-ltb n k (omega arith)) in
          omega (arith, count_next low n, z, f (omega arith))

-- ---- the distance, fact by fact
module _ (c m : Interpretation) where
  pub distance_none : 0 ≡ distance 0 c m
  unfolding distance up_to filter
  distance_none = refl

  next : (f : ℕ) → distance (f + 1) c m ≡ distance f c m + bit_value (differs c m f) 1
  unfolding distance
  next f = ap (λ (k : ℕ). length (filter (differs c m) (up_to k))) (add-one f) ∙ count_next (differs c m) f

  pub distance_le : (f : ℕ) → distance f c m ≤ f
  unfolding distance up_to filter
  distance_le zero = omega arith
  distance_le (suc f) = omega (arith, count_next (differs c m) f, bit_le (differs c m f), distance_le f)

  module _ (d f : ℕ) (is : d ≡ distance f c m) where
    pub distance-more : differs c m f ≡ true → d + 1 ≡ distance (f + 1) c m
    unfolding bit_value
    distance-more e = omega (arith, is, next f, ap (λ (b : Bool). bit_value b 1) e)

    pub distance-same : differs c m f ≡ false → d ≡ distance (f + 1) c m
    unfolding bit_value
    distance-same e = omega (arith, is, next f, ap (λ (b : Bool). bit_value b 1) e)

-- ---- one fact, as the code counts it
-- a bit of a test, as a number is made of it
pub bit_byte : (b : Bool) → bool_byte b ≡ bit_value b 1
unfolding bit_value
bit_byte true = refl
bit_byte false = refl

pub step_small : (r : ℕ) (b : Bool) → r ≡ bit_value b 1 → r ≤ 1
step_small r b e = omega (arith, e, bit_le b)

-- ---- what the decided facts say
-- nothing is decided at first
module _ {book : List ℕ} {rows : List Row} {atoms : List ℕ} {n : ℕ} (w : Searchable book rows atoms n) (bans : List Span) (wanted : Interpretation) (low : length wanted ≤ n) where
  branching-apart : (m : Interpretation) → apart_at wanted m atoms ≤ far wanted m
  unfolding apart_at distance branching_atoms
  branching-apart m =
      let e : atoms ≡ branching_atoms (barred book rows bans n) = barred-listed w bans in
      let a = count-filter (λ (f : ℕ). ltb f (length wanted) && differs wanted m f) (branching (barred book rows bans n)) (up_to (barred book rows bans n).atoms) in
      let b = count_low (length wanted) (differs wanted m) (barred book rows bans n).atoms (omega (arith, barred-size w bans)) in
      omega (arith, a, b, ap (λ (l : List ℕ). apart_at wanted m l) e)

  pub apart-start : (left : ℕ) → left ≡ length atoms → (models : List Interpretation) → Apart wanted (undecided atoms left) models left 0
  apart-start left e models = record {
    few = omega (arith, w.atoms_few);
    at_least = λ m k. let z : apart_at wanted m (undecided atoms left) ≡ apart_at wanted m atoms = ap (λ (i : ℕ). apart_at wanted m (drop i atoms)) {x = length atoms - left} {y = 0} (omega arith) in omega (arith, z, branching-apart m);
  }

-- the first of the facts that are left, the i-th of all, is decided each way
module _ (s : Space) {turn : Turn} (t : Turned (space_atoms s) turn) (some : turn.left ≡ 0 → ⊥) (i : ℕ) (ei : i ≡ length (space_atoms s) - turn.left) (wanted : Interpretation) {apart : ℕ}
    (away : Apart wanted (undecided (space_atoms s) turn.left) (models_left s turn) turn.left apart)
    {first second : Turn} (e₁ : first ≡ decided_turn turn i false) (e₂ : second ≡ decided_turn turn i true) where
  abbrev atoms : List ℕ
  atoms = space_atoms s

  inside_atoms : i < length atoms
  inside_atoms = omega (arith, t.few, ei, some)

  opened : undecided atoms turn.left ≡ get_or atoms i 0 ∷ undecided atoms (turn.left - 1)
  opened =
      ap (λ (k : ℕ). drop k atoms) {x = length atoms - turn.left} {y = i} (omega (arith, ei)) ∙ drop-cons atoms i 0 inside_atoms
      ∙ ap (λ (k : ℕ). get_or atoms i 0 ∷ drop k atoms) (let z : suc i ≡ length atoms - (turn.left - 1) = omega (arith, t.few, ei, some) in z)

  -- of a half, in which the fact is decided so
  module _ (f : ℕ) (is : f ≡ get_or atoms i 0) (stands : Bool) (r : ℕ) (step : r ≡ bit_value (ltb f (length wanted) && not (beq (atom_holds wanted f) stands)) 1) (h : Turn) (left : h.left ≡ turn.left - 1)
      (inside : (m : Interpretation) → m ∈ models_left s h → m ∈ models_left s turn)
      (decides : (m : Interpretation) → m ∈ models_left s h → atom_holds m (get_or atoms i 0) ≡ stands) where
    rest_is : undecided atoms (turn.left - 1) ≡ undecided atoms h.left
    rest_is = ap (undecided atoms) (sym left)

    half_at : (m : Interpretation) → m ∈ models_left s h → apart_at wanted m (undecided atoms turn.left) ≡ r + apart_at wanted m (undecided atoms h.left)
    unfolding apart_at
    half_at m k =
        let a : apart_at wanted m (undecided atoms turn.left) ≡ apart_at wanted m (get_or atoms i 0 ∷ undecided atoms h.left) = ap (apart_at wanted m) (opened ∙ ap (λ (l : List ℕ). get_or atoms i 0 ∷ l) rest_is) in
        let b = count_cons (λ (g : ℕ). ltb g (length wanted) && differs wanted m g) (get_or atoms i 0) (undecided atoms h.left) in
        let c : r ≡ bit_value (ltb (get_or atoms i 0) (length wanted) && differs wanted m (get_or atoms i 0)) 1 =
        step ∙ ap₂ (λ (g : ℕ) (v : Bool). bit_value (ltb g (length wanted) && not (beq (atom_holds wanted g) v)) 1) is (sym (decides m k)) in
        omega (arith, a, b, c)

    half_apart : Apart wanted (undecided atoms h.left) (models_left s h) h.left (apart + r)
    half_apart = record {
      few = omega (arith, away.few, left, some, step, bit_le (ltb f (length wanted) && not (beq (atom_holds wanted f) stands)));
      at_least = λ m k. omega (arith, half_at m k, away.at_least m (inside m k));
    }

  not_held : (b : Bool) → T (not b) → b ≡ false
  not_held false h = refl
  not_held true h = absurd h

  module _ (f : ℕ) (is : f ≡ get_or atoms i 0) (r : ℕ) where
    pub apart_first : r ≡ bit_value (ltb f (length wanted) && not (beq (atom_holds wanted f) false)) 1 → Apart wanted (undecided atoms first.left) (models_left s first) first.left (apart + r)
    apart_first step =
        half_apart f is false r step first (ap (λ (h : Turn). h.left) e₁)
        (λ m k. subst (λ (l : List Interpretation). m ∈ l) (sym (halves_are s t some i ei e₁ e₂)) (Memᴰ.append_left _ k))
        (λ m k. not_held (atom_holds m (get_or atoms i 0)) (group_lacks (space_searchable s) s.bans.spans.now (setting_of atoms first.standing) (turned_first s t some i ei e₁ e₂).decided m k i
        (subst (λ (x : ℕ). bit_of x i ≡ 1) (sym (ap (λ (h : Turn). h.denied) e₁)) (or_right turn.denied (2 ^ i) i (bit-same i)))))

    pub apart_second : r ≡ bit_value (ltb f (length wanted) && not (beq (atom_holds wanted f) true)) 1 → Apart wanted (undecided atoms second.left) (models_left s second) second.left (apart + r)
    apart_second step =
        half_apart f is true r step second (ap (λ (h : Turn). h.left) e₂)
        (λ m k. subst (λ (l : List Interpretation). m ∈ l) (sym (halves_are s t some i ei e₁ e₂)) (Memᴰ.append_right (models_left s first) k))
        (λ m k. passed (atom_holds m (get_or atoms i 0)) (group_has (space_searchable s) s.bans.spans.now (setting_of atoms second.standing) (turned_second s t some i ei e₁ e₂).decided m k i
        (subst (λ (x : ℕ). bit_of x i ≡ 1) (sym (ap (λ (h : Turn). h.standing) e₂)) (or_right turn.standing (2 ^ i) i (bit-same i)))))
