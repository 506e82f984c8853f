-- The invariant (`Marking`): marked are the facts that the literals passed make branch, besides those that were.
use Rattle.branching.proofs.MarkLaws.{marking_start, marking_set, marking_pass}
use borrow.Author.Rules.{rules}
use Rattle.branching.proofs.mark_body.Goals as goal

pub loop-l-init : goal.loop-l-init
loop-l-init c =
    marking_start c.args.rejecting c.args.marks.now (search rules)

pub loop-l-preserved-then-branches : goal.loop-l-preserved-then-branches
loop-l-preserved-then-branches c =
    marking_set c.args.rejecting c.args.marks.now c.loop-l.yielded c.loop-l.marks c.loop-l.invariant c.in-Some.l _ c.branches.ensures c.if-branches.true

pub loop-l-preserved : goal.loop-l-preserved
loop-l-preserved c =
    marking_pass c.args.rejecting c.args.marks.now c.loop-l.yielded c.loop-l.marks c.loop-l.invariant c.in-Some.l _ c.branches.ensures c.if-branches.false
