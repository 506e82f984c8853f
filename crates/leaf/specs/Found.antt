-- Document 01: "The search goes through the settings of these facts alone, each setting once." What it finds, as a definition.
-- Assumes nothing.
use Rattle.std.specs.Prelude.{Bool, true, false, ◌&&◌, List, [], ◌∷◌, ◌++◌, ℕ, set}
use Rattle.std.specs.Bool.{beq}
use Rattle.base.specs.Lists.{all, filter}
use Rattle.models.specs.Program.{Program}
use Rattle.models.specs.StableModels.{Interpretation, atom_holds, stable}
use Rattle.models.specs.Listing.{interpretations}

-- m gives the atoms as the setting o does
unfoldable pub agree_on : List ℕ → Interpretation → Interpretation → Bool
agree_on atoms m o = all (λ f. beq (atom_holds m f) (atom_holds o f)) atoms

-- a stable model that agrees with the setting of the atoms
unfoldable pub fits : Program → List ℕ → Interpretation → Interpretation → Bool
fits P atoms o m = stable P m && agree_on atoms m o

-- the stable models of a setting of the branching atoms: `setting_one` of proofs/FoundLaws.antt says that there is at most one
unfoldable pub at_setting : Program → List ℕ → Interpretation → List Interpretation
at_setting P atoms o = filter (fits P atoms o) (interpretations P.atoms)

-- each setting of the undecided atoms once, and what is found at each: first where the atom does not stand, then where it does
unfoldable pub found_by : (Interpretation → List Interpretation) → List ℕ → Interpretation → List Interpretation
found_by leaf [] o = leaf o
found_by leaf (f ∷ undecided) o = found_by leaf undecided (set o f false) ++ found_by leaf undecided (set o f true)
