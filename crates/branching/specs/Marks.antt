-- The branching facts, as the code marks them row by row and then lists them. Assumes nothing.
use Rattle.std.specs.Prelude.{◌≡◌, Bool, ◌&&◌, ◌||◌, List, ℕ, ◌<◌, ◌≤◌, eqb, length}
use Rattle.base.specs.Bounds.{max_atoms, max_branching}
use Rattle.base.specs.Lists.{any}
use Rattle.format.specs.Book.{Literal, literals_of}
use Rattle.models.specs.Program.{Program}
use Rattle.models.specs.StableModels.{atom_holds}
use Rattle.models.specs.Branching.{branching, branching_atoms, branching_count}

-- the literals of a body that make their fact branch: the negated ones, and all where the rule can displace
unfoldable pub branches_in : Bool → ℕ → List Literal → Bool
branches_in rejecting f body = any (λ l. eqb l.atom f && (l.negated || rejecting)) body

-- a body's facts are marked besides those that were
pub record BodyMarked (body : List ℕ) (rejecting : Bool) (marks marks' : List Bool) : Type 0 where
  pub size : length marks' ≡ length marks
  pub marked : (f : ℕ) → f < max_atoms → atom_holds marks' f ≡ (atom_holds marks f || branches_in rejecting f (literals_of body))

-- the marks are those of the branching facts
pub record BranchingMarks (P : Program) (marks : List Bool) : Type 0 where
  pub size : length marks ≡ max_atoms
  pub marked : (f : ℕ) → f < max_atoms → atom_holds marks f ≡ branching P f

-- How many the branching facts are; where a search goes through them, they are the list, rising.
pub record Listed (P : Program) (atoms : List ℕ) (g : ℕ) : Type 0 where
  pub count_is : g ≡ branching_count P
  pub atoms_are : g ≤ max_branching → atoms ≡ branching_atoms P
