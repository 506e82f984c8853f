-- What the pass for the state closest to a wanted one tells and writes. Assumes nothing.
use Rattle.std.specs.Prelude.{◌≡◌, not, ℕ, length, take, Option, Some, is_some}
use mathlib.Core.List.{List, Memᴰ}
use Rattle.models.specs.Program.{Program}
use Rattle.models.specs.StableModels.{Interpretation}
use Rattle.models.specs.Listing.{stable_models}
use Rattle.first.specs.Nearest.{closest}
use Rattle.first.specs.InHand.{far, record_held}
use Rattle.passes.specs.Limit.{has_no_stable_state}

-- the first of those stable models whose distance to the wanted state, over the facts that it has, is least
unfoldable pub chosen : Program → Interpretation → List Interpretation
chosen P wanted = take 1 (closest (length wanted) wanted (stable_models P))

-- its record is written, and its distance is told, if there is one
pub record Nearest (P : Program) (wanted : Interpretation) (n : ℕ) (old : List ℕ) (told : Option ℕ) (new : List ℕ) : Type 0 where
  pub found_is : is_some told ≡ not (has_no_stable_state P)
  pub written : new ≡ record_held n (chosen P wanted) old
  pub distance_is : (m : Interpretation) → Memᴰ m (chosen P wanted) → told ≡ Some (far wanted m)
