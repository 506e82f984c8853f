-- Where nothing is wanted, the closest is the first (`none_wanted`).
use Rattle.std.proofs.Common.{rules, ap, ◌∙◌, List}
use Rattle.models.specs.StableModels.{Interpretation}
use Rattle.first.specs.InHand.{record_held}
use Rattle.passes.proofs.FirstLaws.{none_wanted}
use Rattle.passes.proofs.write_first.Goals as goal

pub returns : goal.returns
returns c =
    (search (rules, c.write_nearest.ensures.found_is), c.write_nearest.ensures.written ∙ ap (λ (ms : List Interpretation). record_held c.args.space.now.plan.now.n ms c.args.part.now) (none_wanted _))
