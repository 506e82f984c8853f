-- The invariant (`Marking`): marked are the facts that the literals passed make branch, besides those that were.
use Rattle.branching.proofs.MarkLaws.{Marking}
use Rattle.branching.proofs.mark_body.Given as goal

abbrev pub invariant-loop-l : goal.invariant-loop-l
invariant-loop-l l = Marking l.rejecting l.initial.marks l.yielded l.marks
