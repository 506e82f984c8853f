-- A row is not contested where it is alive, where its head is answered or where its body does not hold.
use Rattle.std.proofs.Common.{ap, not}
use Rattle.leaf.proofs.ContestedLaws.{uncontested_alive, uncontested_answered, uncontested_not, uncontested_row}
use Rattle.leaf.proofs.contested.Goals as goal
use Rattle.leaf.proofs.contested.Goals.{else-not-alive-via-then-not-alive+then-undecided+else-holds, else-not-alive-via-then-not-alive+else-undecided, else-not-alive-via-else-not-alive}

pub loop-j-preserved : goal.loop-j-preserved
loop-j-preserved c =
    uncontested_row c.row-row.ensures.table_is c.row-row.ensures.number_is (λ v. elim c.else-not-alive.branch [
      | else-not-alive-via-then-not-alive+then-undecided+else-holds w ↦ uncontested_not v w.holds.result w.holds.ensures w.if-holds.false
      | else-not-alive-via-then-not-alive+else-undecided w ↦ uncontested_answered v w.head.result w.head.ensures.0 (w.undecided.ensures w.if-undecided.false)
      | else-not-alive-via-else-not-alive w ↦ uncontested_alive v c.alive.result c.alive.ensures (ap not w.if-not-alive.false)
    ]) c.loop-j.invariant
