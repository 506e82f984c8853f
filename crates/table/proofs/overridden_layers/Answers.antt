-- The invariant: the masks of the rows passed have the lower layers in which the opposite head stands, or none where the row leans on
-- itself, and the rest of the rows is as it was.
use mathlib.Core.Path.{◌∙◌}
use Rattle.models.specs.StableModels.{leans_on_itself}
use Rattle.table.specs.Rows.{row_at}
use Rattle.table.proofs.RowLaws.{fits-same, name_kept, layer_kept}
use Rattle.table.proofs.OverridingLaws.{overridden-start, rules-start, rules-more, overridden-more}
use Rattle.table.proofs.overridden_layers.Goals as goal

pub loop-row-init : goal.loop-row-init
loop-row-init c =
    record { fits = c.requires; same = rules-start c.args.rows.now; masks = overridden-start c.args.book.now c.args.rows.now c.args.lower.now c.args.rows.now }

pub loop-row-preserved : goal.loop-row-preserved
unfolding row_at leans_on_itself
loop-row-preserved c =
    let r = c.loop-row.invariant.same in
    let rules = rules-more c.args.rows.now c.loop-row.rows r c.loop-row.row-index c.unless_leaning-row.result c.loop-row-test.true in
    record {
      fits = fits-same rules c.requires;
      same = rules;
      masks = overridden-more c.args.book.now c.args.rows.now c.args.lower.now c.head_layers-heads.result c.loop-row.rows r c.loop-row.row-index _ c.opposite.result _ c.unless_leaning-row.result c.loop-row.invariant.masks c.loop-row-test.true c.head_layers-heads.ensures (c.from-h.ensures ∙ name_kept r c.loop-row.row-index) c.opposite.ensures.0 (c.from.ensures ∙ layer_kept r c.loop-row.row-index)
          (rw (c.literal_named.ensures, c.from-h.ensures, c.span_bytes.ensures) at c.unless_leaning-row.ensures);
    }
