-- A listing has room for one record more (`place-fits`); the laws of each goal are named on the function.
use Rattle.search.proofs.KeptLaws.{place-fits}
use Rattle.search.proofs.Goal.keep.Goals as goal

pub put_state-requires : goal.put_state-requires
put_state-requires c =
    (c.requires.0, place-fits c.args.self.now _ c.args.count _ c.args.part.now c.in-List.is c.record_size.ensures.0 c.requires.2)
