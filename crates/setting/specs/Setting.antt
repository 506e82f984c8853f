-- A setting of the branching atoms as a mask, bit i for the i-th of them. Assumes nothing.
use Rattle.std.specs.Prelude.{◌&&◌, List, map, ℕ, eqb, length, get_or}
use Rattle.base.specs.Bounds.{max_atoms}
use Rattle.base.specs.Lists.{any, up_to}
use Rattle.layers.specs.Masks.{bit_of}
use Rattle.models.specs.StableModels.{Interpretation}

-- the atoms whose bits are set stand, and no others
unfoldable pub setting_of : List ℕ → ℕ → Interpretation
setting_of atoms standing = map (λ f. any (λ i. eqb (get_or atoms i 0) f && eqb (bit_of standing i) 1) (up_to (length atoms))) (up_to max_atoms)
