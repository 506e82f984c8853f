-- Searches one after the other are one search, and what a search leaves behind. Assumes nothing.
use mathlib.Core.Path.{◌≡◌, refl, sym, ap, ap₂, ◌∙◌}
use mathlib.Core.Bool.{Bool, true, false, false≢true}
use mathlib.Core.List.{List, [], ◌∷◌, ◌++◌, append_assoc, append-nil}
use Prim.Native.Nat.{ℕ, ◌+◌, ◌≤◌}
use native.Mathlib.Omega.{arith}
use mir.Val.{bool_byte}
use lib.ListN.{length, length-append}
use Rattle.models.specs.StableModels.{Interpretation, atom_holds}
use Rattle.models.specs.Listing.{bit_value}
use Rattle.models.proofs.RecordLaws.{bit_le}
use Rattle.condition.specs.Code.{code_holds}
use Rattle.search.specs.declared.Goal.{Goal}
use Rattle.search.specs.declared.Goal.TheVariants as goals
use Rattle.search.specs.declared.Visit.{Visit}
use Rattle.search.specs.Visits.{weight_of, total_of, kept_by, RoomFor, reaches, stopped, Kept, visited, Searched, Combines}
use Rattle.search.proofs.KeptLaws.{room_less, room-same, kept-none}

-- ---- the counters
total_append : (w : Interpretation → ℕ) (xs ys : List Interpretation) → total_of w (xs ++ ys) ≡ total_of w xs + total_of w ys
unfolding total_of
total_append w [] ys = omega arith
total_append w (x ∷ xs) ys = omega (arith, total_append w xs ys)

pub weight_le : (goal : Goal) (m : Interpretation) → weight_of goal m ≤ 1
unfolding weight_of
weight_le (goals.Settle fact) m = bit_le (atom_holds m fact)
weight_le (goals.Fit code) m = bit_le (code_holds code.now m)
weight_le _ m = omega arith

total_le : (goal : Goal) (ms : List Interpretation) → total_of (weight_of goal) ms ≤ length ms
unfolding total_of
total_le goal [] = omega arith
total_le goal (m ∷ ms) = omega (arith, weight_le goal m, total_le goal ms)

module _ (goal : Goal) where
  pub visited-none : (v : Visit) → visited goal [] v ≡ v
  unfolding total_of
  visited-none v =
      let c : v.count + 0 ≡ v.count = omega arith in
      let w : v.weight + 0 ≡ v.weight = omega arith in
      ap₂ (λ (x y : ℕ). record { count = x; weight = y }) c w

  pub visited_one : (m : Interpretation) (v : Visit) (x : ℕ) → x ≡ weight_of goal m → record { count = v.count + 1; weight = v.weight + x } ≡ visited goal (m ∷ []) v
  unfolding total_of
  visited_one m v x e = let z : v.weight + x ≡ v.weight + (weight_of goal m + 0) = omega (arith, e) in ap (λ (y : ℕ). record { count = v.count + 1; weight = y }) z

  visited-append : (xs ys : List Interpretation) (v : Visit) → visited goal ys (visited goal xs v) ≡ visited goal (xs ++ ys) v
  visited-append xs ys v =
      let c : v.count + length xs + length ys ≡ v.count + length (xs ++ ys) = omega (arith, length-append xs ys) in
      let w : v.weight + total_of (weight_of goal) xs + total_of (weight_of goal) ys ≡ v.weight + total_of (weight_of goal) (xs ++ ys) = omega (arith, total_append (weight_of goal) xs ys) in
      ap₂ (λ (x y : ℕ). record { count = x; weight = y }) c w

-- ---- what a search leaves behind
module _ (goal : Goal) (n : ℕ) where
  pub searched-none : (v : Visit) (p : List ℕ) → Searched goal n [] v p v p
  searched-none v p = record {
    seen = [];
    rest = [];
    split = refl;
    visit_is = sym (visited-none goal v);
    part_is = sym (kept-none goal n v.count p);
    whole = λ _. refl;
    still = λ _. refl;
  }

  pub searched-stopped : (ms : List Interpretation) (v : Visit) (p : List ℕ) → stopped goal v ≡ true → Searched goal n ms v p v p
  searched-stopped ms v p e = record {
    seen = [];
    rest = ms;
    split = refl;
    visit_is = sym (visited-none goal v);
    part_is = sym (kept-none goal n v.count p);
    whole = λ f. absurd (false≢true (sym f ∙ e));
    still = λ _. refl;
  }

  pub searched_one : (m : Interpretation) (v : Visit) (p : List ℕ) (v' : Visit) (p' : List ℕ) → stopped goal v ≡ false
      → (v' ≡ visited goal (m ∷ []) v) × (p' ≡ kept_by goal n v.count (m ∷ []) p) → Searched goal n (m ∷ []) v p v' p'
  searched_one m v p v' p' e a = record {
    seen = m ∷ [];
    rest = [];
    split = refl;
    visit_is = a.0;
    part_is = a.1;
    whole = λ _. refl;
    still = λ f. absurd (false≢true (sym e ∙ f));
  }

  module _ (ms : List Interpretation) (v : Visit) (p : List ℕ) (v₁ : Visit) (p₁ : List ℕ) (a : Searched goal n ms v p v₁ p₁) where
    pub searched-count : v₁.count ≡ v.count + length a.seen
    searched-count = ap (λ (u : Visit). u.count) a.visit_is

    pub searched_weight : v₁.weight ≡ v.weight + total_of (weight_of goal) a.seen
    searched_weight = ap (λ (u : Visit). u.weight) a.visit_is

    pub seen_few : length a.seen ≤ length ms
    seen_few = omega (arith, ap length a.split, length-append a.seen a.rest)

    -- what is left to meet is met from there on
    pub kept-after : (more : ℕ) → length p₁ ≡ length p → Kept goal n (length ms + more) v p → Kept goal n more v₁ p₁
    kept-after more l k = record {
      asks = k.asks;
      room = room-same goal n (v₁.count + more) p p₁ l (room_less goal n (v₁.count + more) (v.count + (length ms + more)) p (omega (arith, searched-count, seen_few)) k.room);
      light = omega (arith, searched-count, searched_weight, k.light, total_le goal a.seen);
    }

  -- a search, then another, then the two runs made one
  module _ (ms ns : List Interpretation) (v : Visit) (p : List ℕ) (v₁ : Visit) (p₁ : List ℕ) (v₂ : Visit) (p₂ p₃ : List ℕ) (a : Searched goal n ms v p v₁ p₁) (b : Searched goal n ns v₁ p₁ v₂ p₂) where
    both_visited : v₂ ≡ visited goal (a.seen ++ b.seen) v
    both_visited = b.visit_is ∙ ap (visited goal b.seen) a.visit_is ∙ visited-append goal a.seen b.seen v

    both_kept : RoomFor goal n v₂.count p → Combines goal n v.count v₁.count v₂.count p₂ p₃ → p₃ ≡ kept_by goal n v.count (a.seen ++ b.seen) p
    both_kept r j =
        j p a.seen b.seen r (searched-count ms v p v₁ p₁ a) (searched-count ns v₁ p₁ v₂ p₂ b)
        (b.part_is ∙ ap (kept_by goal n v₁.count b.seen) a.part_is)

    none_after : stopped goal v₁ ≡ true → v₂ ≡ v₁
    none_after e = b.visit_is ∙ ap (λ (l : List Interpretation). visited goal l v₁) (b.still e) ∙ visited-none goal v₁

    none_at_all : stopped goal v ≡ true → a.seen ++ b.seen ≡ []
    none_at_all e =
        let s : a.seen ≡ [] = a.still e in
        let u : v₁ ≡ v = a.visit_is ∙ ap (λ (l : List Interpretation). visited goal l v) s ∙ visited-none goal v in
        ap₂ (λ (x y : List Interpretation). x ++ y) s (b.still (ap (stopped goal) u ∙ e))

    pub searched_combined : RoomFor goal n v₂.count p → Combines goal n v.count v₁.count v₂.count p₂ p₃ → Searched goal n (ms ++ ns) v p v₂ p₃
    searched_combined r j = go (stopped goal v₁) refl
      where
        go : (c : Bool) → stopped goal v₁ ≡ c → Searched goal n (ms ++ ns) v p v₂ p₃
        go false e = record {
          seen = a.seen ++ b.seen;
          rest = b.rest;
          split = ap₂ (λ (x y : List Interpretation). x ++ y) (a.split ∙ ap (λ (x : List Interpretation). a.seen ++ x) (a.whole e) ∙ append-nil a.seen) b.split
              ∙ sym (append_assoc a.seen b.seen b.rest);
          visit_is = both_visited;
          part_is = both_kept r j;
          whole = b.whole;
          still = none_at_all;
        }
        go true e = record {
          seen = a.seen ++ b.seen;
          rest = a.rest ++ ns;
          split = ap (λ (x : List Interpretation). x ++ ns) a.split ∙ append_assoc a.seen a.rest ns
              ∙ ap (λ (x : List Interpretation). x ++ (a.rest ++ ns)) (sym (ap (λ (y : List Interpretation). a.seen ++ y) (b.still e) ∙ append-nil a.seen));
          visit_is = both_visited;
          part_is = both_kept r j;
          whole = λ f. absurd (false≢true (sym f ∙ ap (stopped goal) (none_after e) ∙ e));
          still = none_at_all;
        }

-- ---- the goals that nothing reaches, and those for which no model weighs
pub goes_on : (goal : Goal) (v : Visit) → ((most : ℕ) → goal ≡ goals.Count most → ⊥) → ((fact : ℕ) → goal ≡ goals.Settle fact → ⊥) → false ≡ stopped goal v
unfolding reaches
goes_on (goals.Count most) v d e = absurd (d most refl)
goes_on (goals.Settle fact) v d e = absurd (e fact refl)
goes_on _ v d e = refl

-- what a model weighs, as the code has it
pub weighs_bit : (goal : Goal) (m : Interpretation) (x : ℕ) (b : Bool) → x ≡ bool_byte b → bit_value b 1 ≡ weight_of goal m → (x ≡ weight_of goal m) × (x ≤ 1)
unfolding bit_value
weighs_bit goal m x true e w = let q : x ≡ weight_of goal m = e ∙ w in (q, omega (arith, q, weight_le goal m))
weighs_bit goal m x false e w = let q : x ≡ weight_of goal m = e ∙ w in (q, omega (arith, q, weight_le goal m))

pub weighs_none : (goal : Goal) (m : Interpretation) → ((fact : ℕ) → goal ≡ goals.Settle fact → ⊥) → ((code : _) → goal ≡ goals.Fit code → ⊥) → (0 ≡ weight_of goal m) × (0 ≤ 1)
unfolding weight_of
weighs_none (goals.Settle fact) m d e = absurd (d fact refl)
weighs_none (goals.Fit code) m d e = absurd (e code refl)
weighs_none _ m d e = (refl, omega arith)
