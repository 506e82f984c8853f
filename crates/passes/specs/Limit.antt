-- Document 01, causes 12 and 14: g over 20, and no stable state. The calls that search make these tests. Assumes nothing.
use Rattle.std.specs.Prelude.{Bool, eqb, ltb, length}
use Rattle.base.specs.Bounds.{max_branching}
use Rattle.models.specs.Program.{Program}
use Rattle.models.specs.Branching.{branching_count}
use Rattle.models.specs.Listing.{stable_models}

-- 12: listing, one state, fact's place
unfoldable pub has_too_many_branching : Program → Bool
has_too_many_branching P = ltb max_branching (branching_count P)

-- 14: one state, fact's place
unfoldable pub has_no_stable_state : Program → Bool
has_no_stable_state P = eqb (length (stable_models P)) 0
