-- What the table is made from is what the check has made sure of.
use mathlib.Core.Path.{ap, ◌∙◌}
use Prim.Native.Nat.{◌+◌}
use Rattle.format.specs.Book.{rule_section}
use Rattle.accepted.proofs.RangeFacts.{layer_low}
use Rattle.accepted.proofs.PreparedLaws.{prepared}
use Rattle.accepted.proofs.Driving.source.Goals as goal

pub invariant_of-result : goal.invariant_of-result
invariant_of-result c =
    let d = c.args.self.now in
    record {
      prepared = prepared d.book.now d.accepted c.rules_from.result (c.rules_from.ensures ∙ ap (λ s. rule_section s + 6) c.read.ensures) d.lower d.lower_masks;
      layer_low = layer_low d.book.now d.accepted d.layer d.layer_inside;
    }
