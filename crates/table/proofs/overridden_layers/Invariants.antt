-- The invariant: the masks of the rows passed have the lower layers in which the opposite head stands, or none where the row leans on
-- itself, and the rest of the rows is as it was.
use Rattle.table.specs.Rows.{RowsFit, SameRules}
use Rattle.table.specs.Overriding.{Overridden}
use Rattle.table.proofs.overridden_layers.Given as goal

abbrev pub invariant-loop-row : goal.invariant-loop-row
invariant-loop-row l = record {
  fits : RowsFit l.book l.rows;
  same : SameRules l.initial.rows l.rows;
  masks : Overridden l.book l.initial.rows l.lower l.rows l.row-index;
}
