-- Document 02, (j): how far one state is from another, and which of some states are closest to a given one. Assumes nothing.
use Rattle.std.specs.Prelude.{Bool, not, List, ℕ, leb, length}
use Rattle.std.specs.Bool.{beq}
use Rattle.base.specs.Lists.{all, filter, up_to}
use Rattle.models.specs.StableModels.{Interpretation, atom_holds}

-- a fact stands in one of two states and not in the other
abbrev pub differs : Interpretation → Interpretation → ℕ → Bool
differs c m f = not (beq (atom_holds c f) (atom_holds m f))

-- how many of the first n facts differ
unfoldable pub distance : ℕ → Interpretation → Interpretation → ℕ
distance n c m = length (filter (differs c m) (up_to n))

-- those of some states whose distance to c is least, in their order
unfoldable pub closest : ℕ → Interpretation → List Interpretation → List Interpretation
closest n c ms = filter (λ m. all (λ o. leb (distance n c m) (distance n c o)) ms) ms
