-- One pass from no fact decided: it meets the stable models, sorted they are the listing's, and their records stand in front of the part
-- lent to it. Assumes nothing.
use mathlib.Core.Path.{◌≡◌, refl, sym, ap, ap₂, subst, ◌∙◌}
use mathlib.Core.Bool.{Bool, false}
use mathlib.Core.List.{List, [], ◌∷◌, ◌++◌, map, append-nil}
use Prim.Native.Nat.{ℕ, suc, ◌+◌, ◌*◌, ◌-◌, ◌^◌, ◌%◌, ◌≤◌, ◌<◌}
use native.Mathlib.Nat.{pow-le-pow_right}
use native.Mathlib.Omega.{arith}
use borrow.Author.Tests.{le-ltb}
use lib.ListN.{length, take, drop, replicate, length-replicate, length-append}
use Rattle.base.specs.Bounds.{max_atoms}
use Rattle.base.specs.Lists.{flat}
use Rattle.models.specs.Program.{Program}
use Rattle.models.specs.StableModels.{Interpretation, stable, WellFormed}
use Rattle.models.specs.Branching.{branching_atoms, branching_count}
use Rattle.models.specs.Listing.{stable_models, record_size, record_of}
use Rattle.records.specs.Written.{sorted}
use Rattle.records.proofs.OrderLaws.{sorted-length, sorted-listed}
use Rattle.search.specs.declared.Goal.{Goal}
use Rattle.search.specs.declared.Goal.TheVariants as goals
use Rattle.search.specs.declared.space.Space.{Space}
use Rattle.search.specs.declared.Turn.{Turn}
use Rattle.search.specs.declared.Visit.{Visit}
use Rattle.search.specs.Space.{space_atoms, space_program, models_left}
use Rattle.passes.proofs.SpaceLaws.{space_formed, space_size, space_listed, space_count, space_few, branching_few}
use Rattle.search.proofs.TurnLaws.{turned_start}
use Rattle.leaf.specs.Found.{at_setting, found_by}
use Rattle.search.specs.Decided.{undecided, Turned}
use Rattle.search.specs.Visits.{Asks, rising, kept_by, RoomFor, reaches, Kept, Searched}
use Rattle.setting.specs.Setting.{setting_of}
use Rattle.setting.proofs.SettingLaws.{setting_none}
use Rattle.leaf.proofs.FoundLaws.{found_stable, stable_found, found_once, found_count}
use Rattle.search.proofs.KeptLaws.{room_less}
use Rattle.search.proofs.VisitLaws.{searched-count, searched_weight}
use Rattle.passes.specs.Tallied.{searched, Passed, Tallied, Bounds}

pub empty : {A : Type 0} (l : List A) → length l ≡ 0 → l ≡ []
empty [] e = refl
empty (x ∷ l) e = absurd (omega arith)

unset : length (replicate {A = Bool} max_atoms false) ≡ max_atoms
unset = length-replicate {A = Bool} max_atoms false

module _ (P : Program) (w : WellFormed P) (few : P.atoms ≤ max_atoms) where
  -- what the search meets, sorted, is the listing's order
  pub searched-sorted : sorted P.atoms (searched P) ≡ stable_models P
  unfolding searched stable_models
  searched-sorted =
      sorted-listed P.atoms (stable P) (found_by (at_setting P (branching_atoms P)) (branching_atoms P) (replicate max_atoms false))
      (found_once P w (replicate max_atoms false) max_atoms unset few) (found_stable P w (replicate max_atoms false) max_atoms unset few) (stable_found P w (replicate max_atoms false) max_atoms unset few)

  -- as many are met as there are stable models: at most 2^g
  pub searched-length : length (searched P) ≡ length (stable_models P)
  searched-length = sym (sorted-length P.atoms (searched P)) ∙ ap length searched-sorted

  pub models_le : length (stable_models P) ≤ 2 ^ branching_count P
  unfolding searched
  models_le = subst (λ (k : ℕ). k ≤ 2 ^ branching_count P) searched-length (found_count P w (replicate max_atoms false) max_atoms unset few)

-- a goal that asks nothing, and those that write nothing
pub asks_list : Asks goals.List
unfolding Asks
asks_list = tt

pub asks_count : (most : ℕ) → Asks (goals.Count most)
unfolding Asks
asks_count most = tt

pub asks_settle : (fact : ℕ) → Asks (goals.Settle fact)
unfolding Asks
asks_settle fact = tt

pub count_room : (most n k : ℕ) (part : List ℕ) → RoomFor (goals.Count most) n k part
unfolding RoomFor
count_room most n k part = tt

pub settle_room : (fact n k : ℕ) (part : List ℕ) → RoomFor (goals.Settle fact) n k part
unfolding RoomFor
settle_room fact n k part = tt

pub fit_room : (codes : _) (n k : ℕ) (part : List ℕ) → RoomFor (goals.Fit codes) n k part
unfolding RoomFor
fit_room codes n k part = tt

pub list_room : (n k : ℕ) (part : List ℕ) → k * record_size n ≤ length part → RoomFor goals.List n k part
unfolding RoomFor
list_room n k part h = h

-- at first all atoms are left
pub from_all : (P : Program) (atoms : List ℕ) (left : ℕ) → left ≡ length atoms → {goal : Goal} {n : ℕ} (o : Interpretation) {v : Visit} {p : List ℕ} {v' : Visit} {p' : List ℕ}
    → Searched goal n (found_by (at_setting P atoms) (undecided atoms left) o) v p v' p' → Searched goal n (found_by (at_setting P atoms) atoms o) v p v' p'
from_all P atoms left e {goal} {n} o {v} {p} {v'} {p'} s =
    subst (λ (k : ℕ). Searched goal n (found_by (at_setting P atoms) (drop k atoms) o) v p v' p') {x = length atoms - left} {y = 0} (omega arith) s

-- the call of the search
module _ (s : Space) where
  abbrev P : Program
  P = space_program s

  abbrev n : ℕ
  n = s.plan.now.n

  abbrev atoms : List ℕ
  atoms = space_atoms s

  pub found_is : found_by (at_setting P atoms) atoms (setting_of atoms 0) ≡ searched P
  unfolding searched
  found_is =
      ap (λ (o : Interpretation). found_by (at_setting P atoms) atoms o) (sym (setting_none atoms))
      ∙ ap (λ (l : List ℕ). found_by (at_setting P l) l (replicate max_atoms false)) (space_listed s)

  pub start_fits : 0 + 2 ^ length atoms ≤ 4294967296
  start_fits = omega (arith, pow-le-pow_right {n = 2} (omega arith) (branching_few s))

  all_found : length (searched P) ≡ length (stable_models P)
  all_found = searched-length P (space_formed s) (space_few s)

  abbrev start : Visit
  start = record { count = 0; weight = 0 }

  -- as many are found as there are stable models
  pub start-kept : (goal : Goal) (left : ℕ) → left ≡ length atoms → (part : List ℕ) → Asks goal → RoomFor goal n (length (stable_models P)) part
      → Kept goal n (length (found_by (at_setting P atoms) (undecided atoms left) (setting_of atoms 0))) start part
  start-kept goal left e part a r =
      let all : undecided atoms left ≡ atoms = ap (λ (k : ℕ). drop k atoms) {x = length atoms - left} {y = 0} (omega arith) in
      let count : length (found_by (at_setting P atoms) (undecided atoms left) (setting_of atoms 0)) ≡ length (stable_models P) =
      ap (λ (fs : List ℕ). length (found_by (at_setting P atoms) fs (setting_of atoms 0))) all ∙ ap length found_is ∙ all_found in
      record { asks = a; room = room_less goal n (0 + length (found_by (at_setting P atoms) (undecided atoms left) (setting_of atoms 0))) (length (stable_models P)) part (omega (arith, count)) r; light = omega arith }

  module _ {goal : Goal} {part : List ℕ} {end : Visit} {part' : List ℕ} (x : Passed P atoms n goal part end part') where
    abbrev found : List Interpretation
    found = found_by (at_setting P atoms) atoms (setting_of atoms 0)

    pub counted : end.count ≡ length x.seen
    counted = searched-count goal n found start part end part' x ∙ omega arith

    pub tallied : Tallied P goal end.count end.weight
    tallied = record {
      seen = x.seen;
      rest = x.rest;
      split = sym found_is ∙ x.split;
      count_is = counted;
      weight_is = searched_weight goal n found start part end part' x ∙ omega arith;
      whole = λ e. x.whole e;
    }

    all_seen : reaches goal end.count end.weight ≡ false → x.seen ≡ searched P
    all_seen e =
        sym (append-nil x.seen) ∙ ap (λ (l : List Interpretation). x.seen ++ l) (sym (x.whole e))
        ∙ sym x.split ∙ found_is

    seen_few : length x.seen ≤ length (stable_models P)
    seen_few = omega (arith, ap length (sym found_is ∙ x.split), length-append x.seen x.rest, all_found)

    -- a pass for every model
    module _ (every : goal ≡ goals.List) where
      none_reached : reaches goal end.count end.weight ≡ false
      unfolding reaches
      none_reached = rw every refl

      pub all_counted : end.count ≡ length (stable_models P)
      all_counted = counted ∙ ap length (all_seen none_reached) ∙ all_found

      all-sorted : sorted n x.seen ≡ stable_models P
      all-sorted =
          ap (λ (l : List Interpretation). sorted n l) (all_seen none_reached) ∙ ap (λ (k : ℕ). sorted k (searched P)) (space_size s)
          ∙ searched-sorted P (space_formed s) (space_few s)

      pub all-written : part' ≡ flat (map (record_of n) (stable_models P)) ++ drop (length (stable_models P) * record_size n) part
      unfolding kept_by
      all-written =
          let e : part' ≡ take (0 * record_size n) part ++ (rising n x.seen ++ drop ((0 + length x.seen) * record_size n) part) = x.part_is ∙ ap (λ (g : Goal). kept_by g n 0 x.seen part) every in
          let z : 0 * record_size n ≡ 0 = omega arith in
          let k : 0 + length x.seen ≡ length (stable_models P) = omega (arith, counted, all_counted) in
          e ∙ ap₂ (λ (a b : ℕ). take a part ++ (rising n x.seen ++ drop (b * record_size n) part)) z k
          ∙ ap (λ (l : List Interpretation). flat (map (record_of n) l) ++ drop (length (stable_models P) * record_size n) part) all-sorted

    -- a pass that counts
    pub counted_past : (room : ℕ) → goal ≡ goals.Count room → Bounds (length (stable_models P)) room end.count
    unfolding reaches
    counted_past room e = record {
      enough = λ h. let q : reaches goal end.count end.weight ≡ false = rw e (le-ltb room end.count h) in omega (arith, counted, ap length (all_seen q), all_found);
      past = λ h. omega (arith, counted, seen_few);
    }

  -- a record of every setting is room enough
  pub every_setting : (g every room : ℕ) → g ≡ length atoms → every ≡ 1 * 2 ^ g % 18446744073709551616 → every ≤ room → Bounds (length (stable_models P)) room every
  every_setting g every room eg e h =
      let low : g ≤ 20 = omega (arith, eg, branching_few s) in
      let small : 2 ^ g ≤ 2 ^ 20 = pow-le-pow_right {n = 2} (omega arith) low in
      let m : length (stable_models P) ≤ 2 ^ g = subst (λ (k : ℕ). length (stable_models P) ≤ 2 ^ k) (sym (eg ∙ space_count s)) (models_le P (space_formed s) (space_few s)) in
      record { enough = λ _. omega (arith, e, small, m); past = λ k. absurd (omega (arith, h, k)) }

  -- from no fact decided
  module _ {turn : Turn} (e : turn ≡ record { left = length atoms; standing = 0; denied = 0 }) where
    pub start_turned : Turned atoms turn
    start_turned = subst (Turned atoms) (sym e) (turned_start atoms (length atoms) refl)

    pub start_left : 0 + 2 ^ turn.left ≤ 4294967296
    start_left = subst (λ (t : Turn). 0 + 2 ^ t.left ≤ 4294967296) (sym e) start_fits

    module _ (goal : Goal) (part : List ℕ) where
      pub start_kept : Asks goal → RoomFor goal n (length (stable_models P)) part → Kept goal n (length (models_left s turn)) start part
      start_kept a r = subst (λ (t : Turn). Kept goal n (length (models_left s t)) start part) (sym e) (start-kept goal (length atoms) refl part a r)

      pub passed : {end : Visit} {part' : List ℕ} → Searched goal n (models_left s turn) start part end part' → Passed P atoms n goal part end part'
      passed {end} {part'} w =
          from_all P atoms (length atoms) refl (setting_of atoms 0)
          (subst (λ (t : Turn). Searched goal n (models_left s t) start part end part') e w)

-- a part without room holds all the records, if it has the room for them
pub none_written : (n : ℕ) (ms : List Interpretation) (part : List ℕ) → 0 < n → length ms * record_size n ≤ length part → length part ≡ 0
    → (0 ≡ length ms) × (part ≡ flat (map (record_of n) ms) ++ drop (length ms * record_size n) part)
unfolding record_size flat
none_written n [] part some h z = (refl, let e : 0 * record_size n ≡ 0 = omega arith in ap (λ (k : ℕ). drop k part) (sym e))
none_written n (m ∷ ms) part some h z = absurd (let e : suc (length ms) * record_size n ≡ record_size n + length ms * record_size n = omega arith in omega (arith, e))
