-- The measure is the number of facts that are left.
use Rattle.first.proofs.+search_first.Given as goal

abbrev pub decreases-search_first : goal.decreases-search_first
decreases-search_first l = l.turn.left
