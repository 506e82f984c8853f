-- The search from no fact decided.
use Rattle.passes.proofs.PassLaws.{start_turned, start_left, start_kept, passed}
use Rattle.passes.proofs.pass.Goals as goal

pub search-requires-clause-turned : goal.search-requires-clause-turned
search-requires-clause-turned c = start_turned c.args.space.now c.start.ensures

pub search-requires-clause-kept : goal.search-requires-clause-kept
search-requires-clause-kept c = start_kept c.args.space.now c.start.ensures c.args.goal.now c.args.part.now c.requires.asks c.requires.room_for

pub search-requires-clause-left_bound : goal.search-requires-clause-left_bound
search-requires-clause-left_bound c = start_left c.args.space.now c.start.ensures

pub returns : goal.returns
returns c = passed c.args.space.now c.start.ensures c.args.goal.now c.args.part.now c.search.ensures
