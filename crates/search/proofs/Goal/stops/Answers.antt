-- One law a goal.
use Rattle.std.proofs.Common.{refl}
use borrow.Author.Tests.{lt-ltb, le-ltb}
use Rattle.search.specs.Visits.{reaches}
use Rattle.search.proofs.VisitLaws.{goes_on}
use Rattle.search.proofs.Goal.stops.Goals as goal

pub returns-in-List : goal.returns-in-List
unfolding reaches
returns-in-List c = rw c.in-List.is refl

pub returns-in-Count : goal.returns-in-Count
unfolding reaches
returns-in-Count c = rw c.in-Count.is refl

pub returns-then-v-gt0 : goal.returns-then-v-gt0
unfolding reaches
returns-then-v-gt0 c = rw (c.in-Settle.is, lt-ltb 0 c.args.v.weight c.if-v-gt0.true) refl

pub returns-else-v-gt0 : goal.returns-else-v-gt0
unfolding reaches
returns-else-v-gt0 c = rw (c.in-Settle.is, le-ltb 0 c.args.v.weight c.if-v-gt0.false) refl

pub returns-in_default : goal.returns-in_default
returns-in_default c = goes_on c.args.self.now c.args.v c.in_default.not-Count c.in_default.not-Settle
