-- Every stable model is met, and their records stand in front (`all-written`); where there is no room at all there are none
-- (`none_written`).
use Rattle.std.proofs.Common.{rules, refl}
use Rattle.passes.proofs.SpaceLaws.{space_some}
use Rattle.passes.proofs.PassLaws.{asks_list, list_room, none_written, all_counted, all-written}
use Rattle.passes.proofs.write_all.Goals as goal

pub returns-then-is_empty : goal.returns-then-is_empty
returns-then-is_empty c =
    none_written c.args.space.now.plan.now.n _ c.args.part.now (space_some c.args.space.now) c.requires.n_in_bounds (search rules)

pub pass-requires-clause-asks : goal.pass-requires-clause-asks
pass-requires-clause-asks c = asks_list

pub pass-requires-clause-room_for : goal.pass-requires-clause-room_for
pass-requires-clause-room_for c = list_room c.args.space.now.plan.now.n _ c.args.part.now c.requires.n_in_bounds

pub returns : goal.returns
returns c =
    (all_counted c.args.space.now c.pass.ensures refl, all-written c.args.space.now c.pass.ensures refl)
