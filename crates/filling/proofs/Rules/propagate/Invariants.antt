-- Every turn that marks marks what follows (`settle`), and no other touches the marks.
use mathlib.Core.Path.{◌≡◌}
use lib.ListN.{length}
use Rattle.filling.proofs.FillingLaws.{Turn}
use Rattle.filling.proofs.Rules.propagate.Given as goal

abbrev pub invariant-loop : goal.invariant-loop
invariant-loop l = (l.count ≡ length l.self.table.rows.now) × Turn l.self.table.book.now l.self.table.rows.now l.self.rejects.now l.initial.positive l.initial.negative l.positive l.negative
