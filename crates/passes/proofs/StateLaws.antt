-- The stable models that a pass met are stable models by the inductive definition, and where it met none there is none. Assumes
-- nothing.
use mathlib.Core.Path.{◌≡◌, refl, sym, ap, ap₂, subst, ◌∙◌}
use mathlib.Core.Bool.{Bool, true, false}
use mathlib.Core.List.Memᴰ
use mathlib.Core.List.{List, [], ◌∷◌, ◌++◌, append-nil}
use Prim.Native.Nat.{ℕ, ◌+◌, ◌<◌, ◌≤◌}
use native.Mathlib.Omega.{arith}
use borrow.Author.Tests.{ne_eqb, le-ltb}
use lib.Dec.{eqb}
use lib.ListN.{length, replicate, length-replicate, length-append}
use Rattle.base.specs.Bounds.{max_atoms}
use Rattle.base.specs.Lists.{cons_if, filter}
use Rattle.base.proofs.Members.{◌∈◌, filter-from, filter_into}
use Rattle.models.specs.Program.{Program}
use Rattle.models.specs.StableModels.{Interpretation, atom_holds, stable, StableModel, WellFormed}
use Rattle.models.specs.Listing.{bit_value, interpretations, stable_models}
use Rattle.models.proofs.InterpretationLaws.{interpretations-length, interpretations_has}
use Rattle.models.proofs.LeastLaws.{stable_sound, stable_complete}
use Rattle.insertion.specs.Sorted.{insert_past, insert_by, insert_all}
use Rattle.records.specs.Written.{before, sorted}
use Rattle.condition.specs.Code.{code_holds}
use Rattle.search.specs.declared.Goal.{Goal}
use Rattle.search.specs.declared.Goal.TheVariants as goals
use Rattle.search.specs.Visits.{weight_of, total_of, reaches}
use Rattle.leaf.proofs.FoundLaws.{found_stable, stable_found}
use Rattle.passes.specs.Limit.{has_no_stable_state}
use Rattle.passes.specs.Tallied.{searched, Tallied}
use Rattle.passes.proofs.PassLaws.{empty, searched-length, searched-sorted}

-- ---- the list of the stable models, and the inductive definition
module _ (P : Program) where
  pub models_from : (m : Interpretation) → m ∈ stable_models P → StableModel P m
  unfolding stable_models
  models_from m k =
      let w = filter-from (stable P) (interpretations P.atoms) k in
      stable_sound P m (interpretations-length P.atoms m w.0) w.1

  pub models_into : (m : Interpretation) → StableModel P m → m ∈ stable_models P
  unfolding stable_models
  models_into m s = filter_into (stable P) (interpretations_has P.atoms m s.size) (stable_complete P m s)

  pub some_state : has_no_stable_state P ≡ false → (m : Interpretation) × StableModel P m
  unfolding has_no_stable_state
  some_state e = go (stable_models P) models_from e
    where
      go : (ms : List Interpretation) → ((m : Interpretation) → m ∈ ms → StableModel P m) → eqb (length ms) 0 ≡ false → (m : Interpretation) × StableModel P m
      go [] f q = let z : ◌≡◌ {A = ℕ} 0 1 = cc in absurd (omega arith)
      go (x ∷ ms) f q = (x, f x (Memᴰ.head refl))

  state_none : length (stable_models P) ≡ 0 → has_no_stable_state P ≡ true
  unfolding has_no_stable_state
  state_none e = rw e refl

  state_some : 0 < length (stable_models P) → has_no_stable_state P ≡ false
  unfolding has_no_stable_state
  state_some h = ne_eqb (length (stable_models P)) 0 (λ e. omega arith)

-- ---- what a pass met
none-reaches : (goal : Goal) → reaches goal 0 0 ≡ false
unfolding reaches
none-reaches (goals.Count most) = le-ltb most 0 (omega arith)
none-reaches (goals.Settle fact) = refl
none-reaches _ = refl

module _ (P : Program) (w : WellFormed P) (few : P.atoms ≤ max_atoms) where
  pub searched-from : (m : Interpretation) → m ∈ searched P → StableModel P m
  unfolding searched
  searched-from m k = let f = found_stable P w (replicate max_atoms false) max_atoms (length-replicate {A = Bool} max_atoms false) few m k in stable_sound P m f.0 f.1

  pub searched_into : (m : Interpretation) → StableModel P m → m ∈ searched P
  unfolding searched
  searched_into m s = stable_found P w (replicate max_atoms false) max_atoms (length-replicate {A = Bool} max_atoms false) few m s.size (stable_complete P m s)

  module _ {goal : Goal} {count weight : ℕ} (t : Tallied P goal count weight) where
    pub seen-from : (m : Interpretation) → m ∈ t.seen → StableModel P m
    seen-from m k = searched-from m (subst (λ (l : List Interpretation). m ∈ l) (sym t.split) (Memᴰ.append_left t.rest k))

    pub seen_into : reaches goal count weight ≡ false → (m : Interpretation) → StableModel P m → m ∈ t.seen
    seen_into e m s = subst (λ (l : List Interpretation). m ∈ l) (t.split ∙ ap (λ (l : List Interpretation). t.seen ++ l) (t.whole e) ∙ append-nil t.seen) (searched_into m s)

    pub tallied_none : count ≡ 0 → has_no_stable_state P ≡ true
    unfolding total_of
    tallied_none e =
        let s : t.seen ≡ [] = empty t.seen (sym t.count_is ∙ e) in
        let z : weight ≡ 0 = t.weight_is ∙ ap (total_of (weight_of goal)) s in
        let r : t.rest ≡ [] = t.whole (rw (e, z) (none-reaches goal)) in
        state_none P (sym (searched-length P w few) ∙ ap length (t.split ∙ ap₂ (λ (x y : List Interpretation). x ++ y) s r))

    pub tallied_some : 0 < count → has_no_stable_state P ≡ false
    tallied_some h = state_some P (omega (arith, t.count_is, ap length t.split, length-append t.seen t.rest, searched-length P w few))

-- ---- what models weigh together, where each weighs one bit
pub bits_weight : (w : Interpretation → ℕ) (p : Interpretation → Bool) → ((m : Interpretation) → w m ≡ bit_value (p m) 1) → (ms : List Interpretation) → total_of w ms ≡ length (filter p ms)
unfolding total_of filter bit_value cons_if
bits_weight w p e [] = refl
bits_weight w p e (m ∷ ms) = go (p m) (e m) (bits_weight w p e ms)
  where
    go : (c : Bool) → w m ≡ bit_value c 1 → total_of w ms ≡ length (filter p ms) → w m + total_of w ms ≡ length (cons_if c m (filter p ms))
    go true f g = omega (arith, f, g)
    go false f g = omega (arith, f, g)

-- for a fact's place the models weigh as many as those in which it stands
pub settled_weight : (fact : ℕ) (ms : List Interpretation) → total_of (weight_of (goals.Settle fact)) ms ≡ length (filter (λ m. atom_holds m fact) ms)
unfolding weight_of
settled_weight fact ms = bits_weight (weight_of (goals.Settle fact)) (λ m. atom_holds m fact) (λ m. refl) ms

-- for a condition as many as those in which it holds
pub fitted_weight : (codes : _) (ms : List Interpretation) → total_of (weight_of (goals.Fit codes)) ms ≡ length (filter (code_holds codes.now) ms)
unfolding weight_of
fitted_weight codes ms = bits_weight (weight_of (goals.Fit codes)) (code_holds codes.now) (λ m. refl) ms

-- ---- how many pass a test does not depend on the order
module _ (p : Interpretation → Bool) where
  cons_if-length : (c : Bool) (m : Interpretation) (ms : List Interpretation) → length (cons_if c m ms) ≡ bit_value c 1 + length ms
  unfolding cons_if bit_value
  cons_if-length true m ms = omega arith
  cons_if-length false m ms = omega arith

  passing : (m : Interpretation) (ms : List Interpretation) → length (filter p (m ∷ ms)) ≡ bit_value (p m) 1 + length (filter p ms)
  unfolding filter
  passing m ms = cons_if-length (p m) m (filter p ms)

  module _ (less : Interpretation → Interpretation → Bool) where
    insert_passing : (m : Interpretation) (ms : List Interpretation) → length (filter p (insert_by less m ms)) ≡ bit_value (p m) 1 + length (filter p ms)
    unfolding insert_by insert_past
    insert_passing m [] = passing m []
    insert_passing m (y ∷ ys) = go (less y m) (insert_passing m ys)
      where
        go : (c : Bool) → length (filter p (insert_by less m ys)) ≡ bit_value (p m) 1 + length (filter p ys)
            → length (filter p (insert_past c m y (insert_by less m ys) ys)) ≡ bit_value (p m) 1 + length (filter p (y ∷ ys))
        go true e = omega (arith, e, passing y (insert_by less m ys), passing y ys)
        go false e = omega (arith, passing m (y ∷ ys))

    insert_all_passing : (ms l : List Interpretation) → length (filter p (insert_all less ms l)) ≡ length (filter p ms) + length (filter p l)
    unfolding insert_all filter
    insert_all_passing [] l = omega arith
    insert_all_passing (m ∷ ms) l = omega (arith, insert_all_passing ms (insert_by less m l), insert_passing m l, passing m ms)

  pub searched_passing : (P : Program) → WellFormed P → P.atoms ≤ max_atoms → length (filter p (searched P)) ≡ length (filter p (stable_models P))
  unfolding sorted filter
  searched_passing P w few = omega (arith, insert_all_passing (before P.atoms) (searched P) [], ap (λ (l : List Interpretation). length (filter p l)) (searched-sorted P w few))
