-- None of the rows passed is contested.
use Rattle.leaf.specs.Contested.{Uncontested}
use Rattle.leaf.proofs.contested.Given as goal

abbrev pub invariant-loop-j : goal.invariant-loop-j
invariant-loop-j l = Uncontested l.rules.table.book.now l.rules.table.rows.now l.rules.rejects.now l.m l.negative l.j
