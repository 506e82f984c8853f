-- The masks have what the rows passed can reject.
use Rattle.nogoods.specs.Nogoods.{Rejectable}
use Rattle.nogoods.proofs.rejectable_masks.Given as goal

abbrev pub invariant-loop-row : goal.invariant-loop-row
invariant-loop-row l = Rejectable l.rows l.rejectable l.row-index
