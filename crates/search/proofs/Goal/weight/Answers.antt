-- One law a goal.
use Rattle.std.proofs.Common.{refl, subst}
use Rattle.search.specs.Visits.{Asks, weight_of}
use Rattle.search.proofs.VisitLaws.{weighs_bit, weighs_none}
use Rattle.search.proofs.Goal.weight.Goals as goal

pub evaluate-requires : goal.evaluate-requires
unfolding Asks
evaluate-requires c = subst Asks c.in-Fit.is c.requires

pub returns-in-Settle : goal.returns-in-Settle
unfolding weight_of
returns-in-Settle c = weighs_bit c.args.self.now c.args.m.now c.from.result c.atom_holds.result c.from.ensures (rw (c.in-Settle.is, c.atom_holds.ensures) refl)

pub returns-in-Fit : goal.returns-in-Fit
unfolding weight_of
returns-in-Fit c = weighs_bit c.args.self.now c.args.m.now c.from-in-Fit.result c.evaluate.result c.from-in-Fit.ensures (rw (c.in-Fit.is, c.evaluate.ensures) refl)

pub returns-in_default : goal.returns-in_default
returns-in_default c = weighs_none c.args.self.now c.args.m.now c.in_default.not-Settle c.in_default.not-Fit
