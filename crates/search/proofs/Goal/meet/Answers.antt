-- One more is counted and weighed; what the part keeps is for `keep` to say.
use Rattle.search.proofs.VisitLaws.{visited_one}
use Rattle.search.proofs.Goal.meet.Goals as goal

pub returns : goal.returns
returns c =
    (visited_one c.args.self.now _ c.args.v c.weight.result c.weight.ensures.0, c.keep.ensures)
