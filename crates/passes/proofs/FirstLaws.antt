-- A pass for the closest model, into the room of one record: of what it meets, in the order of distances and records, the first is the first
-- of the listing that is closest; where nothing is wanted, the listing's first. Assumes nothing.
use mathlib.Core.Path.{◌≡◌, refl, sym, ap, subst, ◌∙◌}
use mathlib.Core.Logic.{◌⊎◌, inl, inr}
use mathlib.Core.Bool.{Bool, true, false, not, false≢true}
use mathlib.Core.List.Memᴰ
use mathlib.Core.List.{List, [], ◌∷◌}
use Prim.Native.Nat.{ℕ, ◌-◌, ◌<◌, ◌≤◌}
use native.Mathlib.Omega.{arith}
use borrow.Author.Tests.{ne_eqb}
use lib.Dec.{T, eqb, ltb, leb, leb→le, le→leb}
use lib.ListN.{length, take, drop}
use Rattle.base.specs.Lists.{cons_if, all, filter, up_to}
use Rattle.base.proofs.Members.{◌∈◌, filter-from, filter_into, all_at, all_of}
use Rattle.base.proofs.Rising.{Rising, filter-rising}
use Rattle.insertion.specs.Sorted.{insert_all, Up}
use Rattle.insertion.specs.Runs.{bytes_before}
use Rattle.insertion.proofs.SortedLaws.{take-from, insert_all-keeps_up, insert_all-length, insert_all-from, insert_all_into}
use Rattle.insertion.proofs.ByteOrder.{not-before_cases, before_by_rest, bytes_le_lt, bytes_asym}
use Rattle.models.specs.Program.{Program}
use Rattle.models.specs.StableModels.{Interpretation, stable}
use Rattle.models.specs.Listing.{interpretations, stable_models, record_of}
use Rattle.models.proofs.InterpretationLaws.{◌⊏◌, interpretations-rising}
use Rattle.models.proofs.ListingLaws.{stable_models-length}
use Rattle.records.proofs.OrderLaws.{record_rises}
use Rattle.setting.specs.Setting.{setting_of}
use Rattle.leaf.specs.Found.{at_setting, found_by}
use Rattle.search.specs.declared.space.Space.{Space}
use Rattle.search.specs.declared.Turn.{Turn}
use Rattle.search.specs.Decided.{undecided}
use Rattle.search.specs.Space.{space_atoms, space_program, models_left}
use Rattle.search.proofs.ReadyLaws.{space_searchable}
use Rattle.passes.proofs.SpaceLaws.{space_formed, space_size, space_few}
use Rattle.std.specs.Prelude.{Option, Some, None, is_some}
use Rattle.std.specs.Option.{option_map}
use Rattle.first.specs.declared.Held.{Held}
use Rattle.first.specs.Nearest.{distance, closest}
use Rattle.first.specs.InHand.{far, closer, first_among, record_held, HeldOf, InHand, Takes, Apart}
use Rattle.first.proofs.ApartLaws.{apart-start}
use Rattle.passes.specs.Limit.{has_no_stable_state}
use Rattle.passes.specs.Tallied.{searched}
use Rattle.passes.specs.Nearest.{chosen, Nearest}
use Rattle.passes.proofs.PassLaws.{found_is}
use Rattle.passes.proofs.StateLaws.{models_from, models_into, searched-from, searched_into}

-- ---- the first in the order of distances and records is the first of those whose distance is least
module _ (wanted : Interpretation) (n : ℕ) where
  abbrev less : Interpretation → Interpretation → Bool
  less = closer wanted n

  abbrev is_least : List Interpretation → Interpretation → Bool
  is_least ms m = all (λ o. leb (far wanted m) (far wanted o)) ms

  sorted_up : (ms : List Interpretation) → Up less (insert_all less ms [])
  sorted_up ms =
      insert_all-keeps_up less (λ y x r p q. bytes_le_lt (far wanted y ∷ record_of n y) (far wanted x ∷ record_of n x) (far wanted r ∷ record_of n r) p q)
      (λ x y p. bytes_asym (far wanted x ∷ record_of n x) (far wanted y ∷ record_of n y) p) ms [] tt

  -- S is the listing's order, L the other, of the same states
  module _ (S : List Interpretation) (rising : Rising ◌⊏◌ S) (sizes : (m : Interpretation) → m ∈ S → length m ≡ n) where
    module _ (h : Interpretation) (L : List Interpretation) (front : (y : Interpretation) → y ∈ L → less y h ≡ false) (into : (m : Interpretation) → m ∈ S → m ∈ (h ∷ L)) (inside : h ∈ S) where
      no_farther : (o : Interpretation) → o ∈ S → far wanted h ≤ far wanted o
      no_farther o k = go (Memᴰ.cases_cons (into o k))
        where
          cases : (far wanted h < far wanted o) ⊎ ((far wanted o ≡ far wanted h) × (bytes_before (record_of n o) (record_of n h) ≡ false)) → far wanted h ≤ far wanted o
          cases (inl l) = omega arith
          cases (inr e) = omega (arith, e.0)

          go : (o ≡ h) ⊎ o ∈ L → far wanted h ≤ far wanted o
          go (inl e) = let z : far wanted o ≡ far wanted h = ap (far wanted) e in omega (arith, z)
          go (inr l) = cases (not-before_cases (far wanted o) (far wanted h) (record_of n o) (record_of n h) (front o l))

      head_is : (x : Interpretation) (F : List Interpretation) → closest (length wanted) wanted S ≡ x ∷ F → x ≡ h
      unfolding closest
      head_is x F e = go (Memᴰ.cases_cons (subst (λ (l : List Interpretation). h ∈ l) e (filter_into (is_least S) inside (all_of (λ o. leb (far wanted h) (far wanted o)) S (λ o k. le→leb (far wanted h) (far wanted o) (no_farther o k))))))
        where
          up : Rising ◌⊏◌ (x ∷ F)
          up = subst (Rising ◌⊏◌) e (filter-rising ◌⊏◌ (is_least S) S rising)

          least : x ∈ S × T (is_least S x)
          least = filter-from (is_least S) S (subst (λ (l : List Interpretation). x ∈ l) (sym e) (Memᴰ.head refl))

          same : far wanted x ≡ far wanted h
          same = omega (arith, leb→le (far wanted x) (far wanted h) (all_at (λ o. leb (far wanted x) (far wanted o)) least.1 inside), no_farther x least.0)

          later : x ⊏ h → (x ≡ h) ⊎ x ∈ L → x ≡ h
          later p (inl q) = q
          later p (inr l) = absurd (false≢true (sym (front x l) ∙ before_by_rest (far wanted x) (far wanted h) (record_of n x) (record_of n h) same ∙ record_rises n x h (sizes x least.0) (sizes h inside) p))

          go : (h ≡ x) ⊎ h ∈ F → x ≡ h
          go (inl q) = sym q
          go (inr k) = later (up.0 h k) (Memᴰ.cases_cons (into x least.0))

    first_closest : (L : List Interpretation) → Up less L → ((m : Interpretation) → m ∈ L → m ∈ S) → ((m : Interpretation) → m ∈ S → m ∈ L) → take 1 L ≡ take 1 (closest (length wanted) wanted S)
    unfolding closest
    first_closest [] up from into = go (closest (length wanted) wanted S) (λ m k. Memᴰ.not-nil (into m (filter-from (is_least S) S k).0))
      where
        go : (F : List Interpretation) → ((m : Interpretation) → m ∈ F → ⊥) → [] ≡ take 1 F
        go [] f = refl
        go (m ∷ F) f = absurd (f m (Memᴰ.head refl))
    first_closest (h ∷ L) up from into = go (closest (length wanted) wanted S) refl (filter_into (is_least S) inside (all_of (λ o. leb (far wanted h) (far wanted o)) S (λ o k. le→leb (far wanted h) (far wanted o) (no_farther h L up.0 into inside o k))))
      where
        inside : h ∈ S
        inside = from h (Memᴰ.head refl)

        go : (F : List Interpretation) → closest (length wanted) wanted S ≡ F → h ∈ F → h ∷ [] ≡ take 1 F
        go [] e k = absurd (Memᴰ.not-nil k)
        go (x ∷ F) e k = ap (λ (m : Interpretation). m ∷ []) (sym (head_is h L up.0 into inside x F e))

-- as many as there are: the first is there if any is
first_some : (L ms : List Interpretation) → length L ≡ length ms → ltb 0 (length (take 1 L)) ≡ not (eqb (length ms) 0)
first_some [] [] e = refl
first_some [] (m ∷ ms) e = absurd (omega (arith, e))
first_some (x ∷ L) [] e = absurd (omega (arith, e))
first_some (x ∷ L) (m ∷ ms) e = sym (ap not (ne_eqb (length (m ∷ ms)) 0 (λ z. omega arith)))

-- ---- of a program's stable models
module _ (P : Program) (wanted : Interpretation) where
  models_rising : Rising ◌⊏◌ (stable_models P)
  unfolding stable_models
  models_rising = filter-rising ◌⊏◌ (stable P) (interpretations P.atoms) (interpretations-rising P.atoms)

  ordered : (n : ℕ) → n ≡ P.atoms → (ms : List Interpretation) → ((m : Interpretation) → m ∈ ms → m ∈ stable_models P) → ((m : Interpretation) → m ∈ stable_models P → m ∈ ms) → first_among wanted n ms [] ≡ chosen P wanted
  unfolding first_among chosen
  ordered n e ms from into = first_closest wanted n (stable_models P) models_rising (λ m k. stable_models-length P m k ∙ sym e) (insert_all (closer wanted n) ms []) (sorted_up wanted n ms)
      (λ m k. inside m (insert_all-from (closer wanted n) ms [] m k)) (λ m k. insert_all_into (closer wanted n) ms [] m (inl (into m k)))
    where
      inside : (m : Interpretation) → m ∈ ms ⊎ m ∈ [] → m ∈ stable_models P
      inside m (inl k) = from m k
      inside m (inr k) = absurd (Memᴰ.not-nil k)

  -- there is one if any is stable
  pub chosen-some : ltb 0 (length (chosen P wanted)) ≡ not (has_no_stable_state P)
  unfolding first_among has_no_stable_state
  chosen-some =
      ap (λ (l : List Interpretation). ltb 0 (length l)) (sym (ordered P.atoms refl (stable_models P) (λ m k. k) (λ m k. k)))
      ∙ first_some (insert_all (closer wanted P.atoms) (stable_models P) []) (stable_models P) (omega (arith, insert_all-length (closer wanted P.atoms) (stable_models P) []))

  -- what is chosen is stable, none is closer, and any other that is as close comes later
  module _ (m : Interpretation) (k : m ∈ chosen P wanted) where
    member : m ∈ closest (length wanted) wanted (stable_models P)
    unfolding chosen
    member = take-from 1 (closest (length wanted) wanted (stable_models P)) m k

    pub chosen-listed : m ∈ stable_models P
    unfolding closest
    chosen-listed = (filter-from (is_least wanted P.atoms (stable_models P)) (stable_models P) member).0

    pub chosen-closest : (o : Interpretation) → o ∈ stable_models P → far wanted m ≤ far wanted o
    unfolding closest
    chosen-closest o l = leb→le (far wanted m) (far wanted o) (all_at (λ o. leb (far wanted m) (far wanted o)) (filter-from (is_least wanted P.atoms (stable_models P)) (stable_models P) member).1 l)

    pub chosen_first : (o : Interpretation) → o ∈ stable_models P → far wanted o ≡ far wanted m → (o ≡ m) ⊎ (m ⊏ o)
    unfolding closest chosen
    chosen_first o l e = go (closest (length wanted) wanted (stable_models P)) (filter-rising ◌⊏◌ (is_least wanted P.atoms (stable_models P)) (stable_models P) models_rising) k
        (filter_into (is_least wanted P.atoms (stable_models P)) l (all_of (λ x. leb (far wanted o) (far wanted x)) (stable_models P) (λ x i. le→leb (far wanted o) (far wanted x) (omega (arith, e, chosen-closest x i)))))
      where
        go : (F : List Interpretation) → Rising ◌⊏◌ F → m ∈ take 1 F → o ∈ F → (o ≡ m) ⊎ (m ⊏ o)
        go [] r i j = absurd (Memᴰ.not-nil j)
        go (x ∷ F) r i j = first (Memᴰ.cases_cons i) (Memᴰ.cases_cons j)
          where
            first : (m ≡ x) ⊎ m ∈ [] → (o ≡ x) ⊎ o ∈ F → (o ≡ m) ⊎ (m ⊏ o)
            first (inr q) p = absurd (Memᴰ.not-nil q)
            first (inl q) (inl p) = inl (p ∙ sym q)
            first (inl q) (inr p) = inr (subst (λ (z : Interpretation). z ⊏ o) (sym q) (r.0 o p))

-- ---- where nothing is wanted, all are equally close
filter-all : {A : Type 0} (p : A → Bool) → (xs : List A) → ((x : A) → p x ≡ true) → filter p xs ≡ xs
unfolding filter cons_if
filter-all p [] h = refl
filter-all p (x ∷ xs) h = rw (h x) (ap (λ (l : List _). x ∷ l) (filter-all p xs h))

pub none_wanted : (P : Program) → chosen P [] ≡ take 1 (stable_models P)
unfolding chosen closest distance all filter up_to
none_wanted P = ap (take 1) (filter-all (λ m. all (λ o. leb (distance 0 [] m) (distance 0 [] o)) (stable_models P)) (stable_models P) (λ m. every (stable_models P)))
  where
    every : (ms : List Interpretation) → all (λ o. true) ms ≡ true
    every [] = refl
    every (m ∷ ms) = every ms

-- ---- the pass
nothing-held : (atoms : List ℕ) (sure : List Bool) (wanted : Interpretation) (n : ℕ) (part : List ℕ) → InHand atoms sure wanted n part [] None part
unfolding record_held
nothing-held atoms sure wanted n part = record { few = omega arith; part_is = refl; held_is = tt }

-- what is told of what is in hand
module _ (atoms : List ℕ) (sure : List Bool) (wanted : Interpretation) (n : ℕ) where
  told_if : (hand : List Interpretation) (held : Option Held) → HeldOf atoms sure wanted n hand held → is_some (option_map (λ (h : Held). h.distance) held) ≡ ltb 0 (length hand)
  told_if [] None h = refl
  told_if [] (Some held) h = absurd h
  told_if (m ∷ []) None h = absurd h
  told_if (m ∷ []) (Some held) h = refl
  told_if (m ∷ k ∷ hand) held h = absurd h

  told_is : (hand : List Interpretation) (held : Option Held) → HeldOf atoms sure wanted n hand held → (m : Interpretation) → m ∈ hand → option_map (λ (h : Held). h.distance) held ≡ Some (far wanted m)
  told_is [] held h m k = absurd (Memᴰ.not-nil k)
  told_is (x ∷ []) None h m k = absurd h
  told_is (x ∷ []) (Some held) h m k = go (Memᴰ.cases_cons k)
    where
      go : (m ≡ x) ⊎ m ∈ [] → Some held.distance ≡ Some (far wanted m)
      go (inl e) = ap (λ (d : ℕ). Some d) (h.1 ∙ ap (far wanted) (sym e))
      go (inr j) = absurd (Memᴰ.not-nil j)
  told_is (x ∷ y ∷ hand) held h m k = absurd h

module _ (s : Space) where
  abbrev P : Program
  P = space_program s

  abbrev n : ℕ
  n = s.plan.now.n

  abbrev atoms : List ℕ
  atoms = space_atoms s

  module _ (left : ℕ) (e : left ≡ length atoms) {held' : Option Held} {sure : List Bool} {wanted : Interpretation} {part part' : List ℕ}
      (t : Takes atoms sure wanted n (found_by (at_setting P atoms) (undecided atoms left) (setting_of atoms 0)) None part held' part') where
    all_left : found_by (at_setting P atoms) (undecided atoms left) (setting_of atoms 0) ≡ searched P
    all_left = ap (λ (k : ℕ). found_by (at_setting P atoms) (drop k atoms) (setting_of atoms 0)) {x = length atoms - left} {y = 0} (omega arith) ∙ found_is s

    met_all : first_among wanted n (searched P) [] ≡ chosen P wanted
    met_all = ordered P wanted n (space_size s) (searched P) (λ m k. models_into P m (searched-from P (space_formed s) (space_few s) m k)) (λ m k. searched_into P (space_formed s) (space_few s) m (models_from P m k))

    last : InHand atoms sure wanted n part (chosen P wanted) held' part'
    last = subst (λ (l : List Interpretation). InHand atoms sure wanted n part l held' part') (ap (λ (ms : List Interpretation). first_among wanted n ms []) all_left ∙ met_all) (t part [] (nothing-held atoms sure wanted n part))

    pub nearest_found : Nearest P wanted n part (option_map (λ (h : Held). h.distance) held') part'
    nearest_found = record { found_is = told_if atoms sure wanted n (chosen P wanted) held' last.held_is ∙ chosen-some P wanted; written = last.part_is; distance_is = told_is atoms sure wanted n (chosen P wanted) held' last.held_is }

  -- from no fact decided
  module _ {turn : Turn} (e : turn ≡ record { left = length atoms; standing = 0; denied = 0 }) where
    pub nearest_told : {held : Option Held} {sure : List Bool} {wanted : Interpretation} {part part' : List ℕ}
        → Takes atoms sure wanted n (models_left s turn) None part held part' → Nearest P wanted n part (option_map (λ (h : Held). h.distance) held) part'
    nearest_told {held} {sure} {wanted} {part} {part'} t =
        nearest_found (length atoms) refl
        (subst (λ (u : Turn). Takes atoms sure wanted n (models_left s u) None part held part') e t)

    pub start_apart : (wanted : Interpretation) → length wanted ≤ n → Apart wanted (undecided atoms turn.left) (models_left s turn) turn.left 0
    start_apart wanted low =
        subst (λ (u : Turn). Apart wanted (undecided atoms u.left) (models_left s u) u.left 0) (sym e) (apart-start (space_searchable s) s.bans.spans.now wanted low (length atoms) refl _)
