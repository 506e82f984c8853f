-- The invariant: the marks are the facts that the rows passed make branch.
use mathlib.Core.Path.{refl, sym, subst}
use Rattle.table.specs.Tabled.{tabled}
use Rattle.branching.proofs.RowMarkLaws.{RowsMarked, rows_start, rows_more, rows_end}
use native.Mathlib.Omega.{arith}
use Rattle.branching.proofs.mark_branching.Goals as goal

pub loop-row-init : goal.loop-row-init
loop-row-init c =
    subst (RowsMarked (tabled c.args.table.book.now c.args.table.rows.now 0) c.args.table.book.now c.args.table.rows.now 0) (sym c.requires.marks_value) (rows_start (tabled c.args.table.book.now c.args.table.rows.now 0) c.args.table.book.now c.args.table.rows.now)

pub loop-row-preserved : goal.loop-row-preserved
loop-row-preserved c =
    rows_more (tabled c.args.table.book.now c.args.table.rows.now 0) c.args.table.book.now c.args.table.rows.now c.requires.tabulates c.loop-row.row-index (omega arith) c.loop-row.marks _ c.loop-row.invariant _ c.span_bytes.ensures _ refl c.mark_body.ensures

pub returns : goal.returns
returns c =
    rows_end (tabled c.args.table.book.now c.args.table.rows.now 0) c.args.table.book.now c.args.table.rows.now c.requires.tabulates c.loop-row.row-index c.loop-row.marks c.loop-row-test.false c.loop-row.invariant
