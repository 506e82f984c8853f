-- What is written of states that are found in any order: their records in rising order, or sums by fact. Assumes nothing.
use Rattle.std.specs.Prelude.{Bool, List, [], ◌∷◌, ◌++◌, map, ℕ, ◌+◌, ◌*◌, drop}
use Rattle.base.specs.Lists.{flat, up_to}
use Rattle.format.specs.Book.{u32_at}
use Rattle.insertion.specs.Sorted.{insert_all}
use Rattle.insertion.specs.Runs.{bytes_before}
use Rattle.models.specs.StableModels.{Interpretation, atom_holds}
use Rattle.models.specs.Listing.{bit_value, record_of, be32}

-- a state comes before another as its record does
abbrev pub before : ℕ → Interpretation → Interpretation → Bool
before n a b = bytes_before (record_of n a) (record_of n b)

-- the states in the order of their records
unfoldable pub sorted : ℕ → List Interpretation → List Interpretation
sorted n ms = insert_all (before n) ms []

-- Sums by fact, four bytes each: to each sum of a fact that stands in the state 1 is added.
unfoldable pub added_to : ℕ → List ℕ → Interpretation → List ℕ
added_to n sums m = flat (map (λ f. be32 (u32_at sums (4 * f) + bit_value (atom_holds m f) 1)) (up_to n)) ++ drop (4 * n) sums

-- states added one after the other
unfoldable pub summed : ℕ → List ℕ → List Interpretation → List ℕ
summed n sums [] = sums
summed n sums (m ∷ ms) = summed n (added_to n sums m) ms
