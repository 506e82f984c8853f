-- The invariant: the masks have the bit of every row passed.
use Rattle.table.specs.Overriding.{HeadLayers}
use Rattle.table.proofs.head_layers.Given as goal

abbrev pub invariant-loop-row : goal.invariant-loop-row
invariant-loop-row l = HeadLayers l.rows l.masks l.row-index
