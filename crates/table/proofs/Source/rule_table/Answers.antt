-- The rows are those of the relevant rules, since the mask has the driven layer and those below it, without the layers that are
-- switched off; their masks are written in front of what is left of the array.
use native.Mathlib.Omega.{arith}
use lib.Seq.{length-take-le}
use Rattle.table.proofs.FilledLaws.{filled_front}
use Rattle.table.proofs.TableLaws.{table_made}
use Rattle.table.proofs.Source.rule_table.Goals as goal

pub overridden_layers-requires : goal.overridden_layers-requires
overridden_layers-requires c =
    (rw (c.rules.ensures.0, c.rules.ensures.1) at c.make_rows-count.ensures).front.fits

pub returns : goal.returns
returns c =
    let s = c.args.self.now in
    let made = (rw (c.rules.ensures.0, c.rules.ensures.1) at c.make_rows-count.ensures) in
    let masks = c.overridden_layers.ensures in
    filled_front c.overridden_layers.new.rows _ c.make_rows-count.result
    (omega (arith, masks.0.size, length-take-le c.make_rows-count.result c.make_rows-count.new.rows made.room))
    (table_made s.book.now s.first _ _ made.front _ masks.0 s.lower s.prepared s.layer s.off s.layer_low c.relevant.ensures masks.1)
