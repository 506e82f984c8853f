-- `merge` meets its contract: a run that is empty leaves nothing to do; else the cut, the turn of the inner pieces and the two
-- halves make the whole, by `joined` of JoinLaws. The number of records falls. Assumes nothing.
use Prim.Native.Nat.{◌+◌}
use Rattle.merging.proofs.+merge.Given as goal

abbrev pub decreases-merge : goal.decreases-merge
decreases-merge l = l.n + l.m
