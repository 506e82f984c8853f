-- The invariant: the masks have exactly what the rows passed reject.
use Rattle.tester.specs.Masks.{RejectedMasks}
use Rattle.tester.proofs.reject.Given as goal

abbrev pub invariant-loop-j : goal.invariant-loop-j
invariant-loop-j l = RejectedMasks l.table.book.now l.table.rows.now l.m l.rejects l.j
