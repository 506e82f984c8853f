-- What is not 0 stands at the name of an entry to come.
use Rattle.rejecting.proofs.ClearLaws.{cleared_at, cleared_end}
use Rattle.rejecting.proofs.clear_at.Goals as goal

pub loop-row-preserved : goal.loop-row-preserved
loop-row-preserved c = cleared_at c.args.rejecting.now _ c.loop-row-test.true _ c.loop-row.invariant c.requires.named _ c.from.ensures

pub returns : goal.returns
returns c = cleared_end c.args.rejecting.now _ c.loop-row-test.false _ c.loop-row.invariant
