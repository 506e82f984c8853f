-- One pass, which writes nothing (`tallied`).
use Rattle.passes.proofs.PassLaws.{tallied}
use Rattle.passes.proofs.tally.Goals as goal

pub returns : goal.returns
returns c = tallied c.args.space.now c.pass.ensures
