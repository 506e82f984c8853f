-- What one pass of the search tells: how many stable models it met, and what they weigh together. Assumes nothing.
use Rattle.std.specs.Prelude.{◌≡◌, false, List, [], ◌++◌, ℕ, ◌<◌, ◌≤◌, length, replicate}
use Rattle.base.specs.Bounds.{max_atoms}
use Rattle.models.specs.Program.{Program}
use Rattle.models.specs.StableModels.{Interpretation}
use Rattle.models.specs.Branching.{branching_atoms}
use Rattle.leaf.specs.Found.{at_setting, found_by}
use Rattle.search.specs.Visits.{weight_of, total_of, reaches, Searched}
use Rattle.search.specs.declared.Goal.{Goal}
use Rattle.search.specs.declared.Visit.{Visit}
use Rattle.setting.specs.Setting.{setting_of}

-- every stable model, in the order of the search: no fact is decided at first
unfoldable pub searched : Program → List Interpretation
searched P = found_by (at_setting P (branching_atoms P)) (branching_atoms P) (replicate max_atoms false)

-- one pass of the search, which begins with nothing met
abbrev pub Passed : Program → List ℕ → ℕ → Goal → List ℕ → Visit → List ℕ → Type 0
Passed P atoms n goal part end part' = Searched goal n (found_by (at_setting P atoms) atoms (setting_of atoms 0)) (record { count = 0; weight = 0 }) part end part'

-- the first of them were met, and all unless the goal was reached before
pub record Tallied (P : Program) (goal : Goal) (count weight : ℕ) : Type 0 where
  pub seen : List Interpretation
  pub rest : List Interpretation
  pub split : searched P ≡ seen ++ rest
  pub count_is : count ≡ length seen
  pub weight_is : weight ≡ total_of (weight_of goal) seen
  pub whole : reaches goal count weight ≡ false → rest ≡ []

-- a number that is no less than k, or that with k is over what there is room for
pub record Bounds (k room r : ℕ) : Type 0 where
  pub enough : r ≤ room → k ≤ r
  pub past : room < r → room < k
