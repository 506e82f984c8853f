-- The masks have what the rows passed can reject.
use Rattle.nogoods.proofs.NogoodLaws.{rejectable-more}
use Rattle.nogoods.proofs.rejectable_masks.Goals as goal

pub loop-row-preserved : goal.loop-row-preserved
loop-row-preserved c =
    rejectable-more c.loop-row.invariant c.from.result c.opposite.result c.from.ensures c.opposite.ensures.0 c.opposite.ensures.1
