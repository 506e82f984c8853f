-- The invariant: the array has exactly what the rows passed support. A row changes nothing where its body does not hold or its head is
-- negated; whether it is alive matters only where its head does not hold, and then the pass is over.
use Rattle.tester.specs.Masks.{Supported}
use Rattle.tester.proofs.supported.Given as goal

abbrev pub invariant-loop-j : goal.invariant-loop-j
invariant-loop-j l = Supported l.rules.table.book.now l.rules.table.rows.now l.m l.atoms l.j
