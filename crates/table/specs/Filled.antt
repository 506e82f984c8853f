-- What stands in an array that is filled from the front. Assumes nothing.
use Rattle.std.specs.Prelude.{List, ℕ, ◌≤◌, length, take}

-- the first `count` entries are those wanted
pub record Filled {E : Type 0} (wanted : List E → Type 0) (array : List E) (count : ℕ) : Type 0 where
  pub room : count ≤ length array
  pub front : wanted (take count array)
