-- The entries of the rows passed are there (`PlanTo`), and the facts are as they were.
use Rattle.plan.specs.Plan.{SameFacts, PlanTo}
use Rattle.plan.proofs.make_plan.Given as goal

abbrev pub invariant-loop-j : goal.invariant-loop-j
invariant-loop-j l = PlanTo l.table.book.now l.table.rows.now l.bits l.rejectable l.plan l.j × SameFacts l.initial.plan l.plan
