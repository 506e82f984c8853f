-- The marks and an interpretation agree. Assumes nothing.
use Rattle.std.specs.Prelude.{Bool, not, ◌&&◌, List, ℕ}
use Rattle.std.specs.Bool.{beq}
use Rattle.models.specs.StableModels.{Interpretation, atom_holds}

-- of fact f, exactly the name that m gives is marked
unfoldable pub marks_agree : List Bool → List Bool → Interpretation → ℕ → Bool
marks_agree p q m f = beq (atom_holds p f) (atom_holds m f) && beq (atom_holds q f) (not (atom_holds m f))
