-- The setting's model, if there is one, is met.
use Rattle.search.proofs.StepLaws.{none-searched}
use Rattle.search.proofs.visit_setting.Goals as goal

pub returns-in-None : goal.returns-in-None
returns-in-None c = none-searched c.args.goal.now c.args.space.now.plan.now.n _ c.in-None.ensures c.args.v c.args.part.now
