-- Each row of the trail adds what follows or nothing (`add_head`).
use Rattle.filling.proofs.FillingLaws.{Turn}
use Rattle.filling.proofs.Rules.replay.Given as goal

abbrev pub invariant-loop-row : goal.invariant-loop-row
invariant-loop-row l = Turn l.self.table.book.now l.self.table.rows.now l.self.rejects.now l.initial.positive l.initial.negative l.positive l.negative
