-- The marks have grown since the pass began, each mark that was added was an unmarked one, and where none was added no row so far adds
-- its head.
use Rattle.filling.proofs.FillingLaws.{Passing}
use Rattle.filling.proofs.Rules.pass.Given as goal

abbrev pub invariant-loop-j : goal.invariant-loop-j
invariant-loop-j l = Passing l.self.table.book.now l.self.table.rows.now l.self.rejects.now l.initial.positive l.initial.negative l.positive l.negative l.added l.j
