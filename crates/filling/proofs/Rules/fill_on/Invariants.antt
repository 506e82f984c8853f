-- Between passes the marks have grown, and each pass that is followed by another marks a name that was not marked: the measure is the
-- unmarked names. Trail and waiting lists only add marks that follow.
use Prim.Native.Nat.{◌+◌}
use Rattle.filling.specs.Marks.{falses}
use Rattle.filling.proofs.FillingLaws.{Turn}
use Rattle.filling.proofs.Rules.fill_on.Given as goal

abbrev pub invariant-loop-positive : goal.invariant-loop-positive
invariant-loop-positive l = Turn l.self.table.book.now l.self.table.rows.now l.self.rejects.now l.fn.positive l.fn.negative l.positive l.negative

abbrev pub decreases-loop-positive : goal.decreases-loop-positive
decreases-loop-positive l = falses l.positive + falses l.negative
