-- What is not 0 stands at the name of an entry to come.
use Rattle.std.proofs.Common.{drop}
use Rattle.rejecting.specs.Rejecting.{Uncleared}
use Rattle.rejecting.proofs.clear_at.Given as goal

abbrev pub invariant-loop-row : goal.invariant-loop-row
invariant-loop-row l = Uncleared (drop l.row-index l.rejecting) l.rejects
