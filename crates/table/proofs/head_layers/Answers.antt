-- The invariant: the masks have the bit of every row passed.
use mathlib.Core.Path.{refl}
use Rattle.table.proofs.OverridingLaws.{heads-start, heads-more}
use Rattle.table.proofs.head_layers.Goals as goal

pub loop-row-init : goal.loop-row-init
loop-row-init c =
    heads-start c.args.rows.now

pub loop-row-preserved : goal.loop-row-preserved
loop-row-preserved c =
    heads-more c.args.rows.now c.loop-row.masks c.loop-row.row-index _ _ c.loop-row.invariant c.from.ensures (rw c.from.ensures (c.requires.name c.loop-row.row-index c.loop-row-test.true)) refl (c.requires.layer_low c.loop-row.row-index c.loop-row-test.true)
