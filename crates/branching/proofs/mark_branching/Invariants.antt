-- The invariant: the marks are the facts that the rows passed make branch.
use Rattle.table.specs.Tabled.{tabled}
use Rattle.branching.proofs.RowMarkLaws.{RowsMarked}
use Rattle.branching.proofs.mark_branching.Given as goal

abbrev pub invariant-loop-row : goal.invariant-loop-row
invariant-loop-row l = RowsMarked (tabled l.table.book.now l.table.rows.now 0) l.table.book.now l.table.rows.now l.row-index l.marks
