-- Where none of causes 1 to 9 and 19 applies, the book is accepted and the layer is one of its own.
use mathlib.Core.Path.{sym, ap, ◌∙◌}
use Rattle.format.specs.Book.{layer_count}
use Rattle.accepted.proofs.DrivenLaws.{book_accepted, driven}
use Rattle.accepted.proofs.check_layer.Goals as goal

pub invariant_of-result : goal.invariant_of-result
invariant_of-result c =
    let accepts = c.in_ok-lower.ensures.verdict in
    let none = c.in_ok-check_driven.ensures ∙ book_accepted c.args.book.now c.args.layer c.args.off accepts _ (c.read-header.result.says.layers_are ∙ ap layer_count c.read-header.ensures) in
    record {
      accepted = sym accepts;
      layer_inside = (driven c.args.book.now c.args.layer c.args.off (sym none)).1;
      lower_masks = c.in_ok-lower.ensures.masks;
    }
