-- The measure is the number of facts that are left.
use Rattle.search.proofs.+search.Given as goal

abbrev pub decreases-search : goal.decreases-search
decreases-search l = l.turn.left
