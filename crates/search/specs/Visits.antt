-- What the search keeps while it meets stable models one after the other: how many there were, what they weigh together, and what is
-- written of them into the part. What a goal makes of models is `weight_of` and `kept_by`; the recursion looks into neither.
-- Assumes nothing.
use Rattle.std.specs.Prelude.{◌≡◌, Bool, true, false, ◌&&◌, List, [], ◌∷◌, ◌++◌, map, ℕ, ◌+◌, ◌*◌, ◌≤◌, ltb, length, take, drop}
use Rattle.base.specs.Lists.{flat}
use Rattle.models.specs.StableModels.{Interpretation, atom_holds}
use Rattle.models.specs.Listing.{bit_value, record_size, record_of}
use Rattle.records.specs.Written.{sorted, summed}
use Rattle.condition.specs.Code.{code_holds, StackFits}
use Rattle.search.specs.declared.Goal.{Goal}
use Rattle.search.specs.declared.Goal.TheVariants as goals
use Rattle.search.specs.declared.Visit.{Visit}

-- what a goal carries can be asked: a condition's code fits the stack
unfoldable pub Asks : Goal → Type 0
Asks (goals.Fit code) = StackFits code.now
Asks _ = Unit {0}

-- what a model weighs: for a fact's place 1 where the fact stands, for a condition 1 where it holds
unfoldable pub weight_of : Goal → Interpretation → ℕ
weight_of (goals.Settle fact) m = bit_value (atom_holds m fact) 1
weight_of (goals.Fit code) m = bit_value (code_holds code.now m) 1
weight_of _ m = 0

-- what models weigh together
unfoldable pub total_of : (Interpretation → ℕ) → List Interpretation → ℕ
total_of w [] = 0
total_of w (m ∷ ms) = w m + total_of w ms

-- the records of these models, rising
abbrev pub rising : ℕ → List Interpretation → List ℕ
rising n ms = flat (map (record_of n) (sorted n ms))

-- What the part is once these models are met, and so many were before them. A listing's part has the records of the models before in
-- front, and behind them those of these models, rising.
unfoldable pub kept_by : Goal → ℕ → ℕ → List Interpretation → List ℕ → List ℕ
kept_by goals.List n count ms part = take (count * record_size n) part ++ (rising n ms ++ drop ((count + length ms) * record_size n) part)
kept_by goals.Sums n count ms part = summed n part ms
kept_by _ n count ms part = part

-- the part has the room that the goal needs for so many models in all
unfoldable pub RoomFor : Goal → ℕ → ℕ → List ℕ → Type 0
RoomFor goals.List n count part = count * record_size n ≤ length part
RoomFor goals.Sums n count part = 4 * n ≤ length part
RoomFor _ n count part = Unit {0}

-- the goal is reached: of a count, once it is past its most; of a fact's place, once it stands in some but not in all
unfoldable pub reaches : Goal → ℕ → ℕ → Bool
reaches (goals.Count most) count weight = ltb most count
reaches (goals.Settle fact) count weight = ltb 0 weight && ltb weight count
reaches _ count weight = false

abbrev pub stopped : Goal → Visit → Bool
stopped goal v = reaches goal v.count v.weight

-- what the goal, the counters and the part have to say of each other before a search that meets no more than so many models
pub record Kept (goal : Goal) (n more : ℕ) (v : Visit) (part : List ℕ) : Type 0 where
  pub asks : Asks goal
  pub room : RoomFor goal n (v.count + more) part
  pub light : v.weight ≤ v.count

-- these models are counted and weighed
abbrev pub visited : Goal → List Interpretation → Visit → Visit
visited goal ms v = record { count = v.count + length ms; weight = v.weight + total_of (weight_of goal) ms }

-- Of the models of a list the first were met, and all of them unless the goal was reached before; none where it was reached already.
pub record Searched (goal : Goal) (n : ℕ) (ms : List Interpretation) (v : Visit) (part : List ℕ) (v' : Visit) (part' : List ℕ) : Type 0 where
  pub seen : List Interpretation
  pub rest : List Interpretation
  pub split : ms ≡ seen ++ rest
  pub visit_is : v' ≡ visited goal seen v
  pub part_is : part' ≡ kept_by goal n v.count seen part
  pub whole : stopped goal v' ≡ false → rest ≡ []
  pub still : stopped goal v ≡ true → seen ≡ []

-- Models were met in two runs, one after the other: the part is what it would be had they been met in one.
abbrev pub Combines : Goal → ℕ → ℕ → ℕ → ℕ → List ℕ → List ℕ → Type 0
Combines goal n from mid end part part' =
    (old : List ℕ) (xs ys : List Interpretation) → RoomFor goal n end old → mid ≡ from + length xs → end ≡ mid + length ys
    → part ≡ kept_by goal n mid ys (kept_by goal n from xs old) → part' ≡ kept_by goal n from (xs ++ ys) old
