-- The invariant: the array has exactly what the rows passed support. A row changes nothing where its body does not hold or its head is
-- negated; whether it is alive matters only where its head does not hold, and then the pass is over.
use mathlib.Core.Path.{ap}
use mathlib.Core.Bool.{true≢false, not}
use Rattle.tester.proofs.MaskLaws.{supported_start, supported_other, supported_not, supported_more, violation_at}
use borrow.Author.Rules.{rules}
use Rattle.tester.proofs.supported.Goals as goal
use Rattle.tester.proofs.supported.Goals.{else-holds, then-holds+else-lives+else-h-atoms, then-holds+else-lives+then-h-atoms}

pub loop-j-init : goal.loop-j-init
loop-j-init c =
    supported_start _ c.requires _ c.clear_marks.ensures

pub returns-then-not-literal_holds : goal.returns-then-not-literal_holds
returns-then-not-literal_holds c =
    record {
      support = λ e. absurd (true≢false e);
      violation = λ e. violation_at c.loop-j.j (search rules) c.alive-lives.result (rw (c.row-row.ensures.table_is, c.row-row.ensures.number_is) at c.alive-lives.ensures) c.if-lives.true c.holds.result (rw (c.row-row.ensures.table_is, c.row-row.ensures.number_is) at c.holds.ensures) c.if-holds.true c.head-h.result (rw (c.row-row.ensures.table_is, c.row-row.ensures.number_is) at c.head-h.ensures.0) c.literal_holds.result (rw c.literal_named.ensures at c.literal_holds.ensures) (ap not c.if-not-literal_holds.true);
    }

pub loop-j-preserved : goal.loop-j-preserved
loop-j-preserved c =
    elim c.if-holds.branch [
      | then-holds+else-lives+then-h-atoms v ↦ rw v.atoms-is (supported_more c.loop-j.invariant v.head-h.result (rw (c.row-row.ensures.table_is, c.row-row.ensures.number_is) at v.head-h.ensures.0) c.holds.result v.if-h-atoms.true (rw (c.row-row.ensures.table_is, c.row-row.ensures.number_is) at c.holds.ensures) v.if-holds.true)
      | then-holds+else-lives+else-h-atoms v ↦ rw v.atoms-is (supported_other c.loop-j.invariant v.head-h.result (rw (c.row-row.ensures.table_is, c.row-row.ensures.number_is) at v.head-h.ensures.0) v.if-h-atoms.false)
      | else-holds v ↦ rw v.atoms-is (supported_not c.loop-j.invariant c.holds.result (rw (c.row-row.ensures.table_is, c.row-row.ensures.number_is) at c.holds.ensures) v.if-holds.false)
    ]
