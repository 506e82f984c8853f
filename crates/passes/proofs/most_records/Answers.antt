-- A record of every setting is enough (`every_setting`); else a pass that counts (`counted_past`).
use Rattle.std.proofs.Common.{refl, ap, length, arith}
use Rattle.passes.proofs.SpaceLaws.{branching_few}
use Rattle.passes.proofs.PassLaws.{asks_count, count_room, every_setting, counted_past}
use Rattle.passes.proofs.most_records.Goals as goal

pub overflow_shl-settings : goal.overflow_shl-settings
overflow_shl-settings c =
    omega (arith, branching_few c.args.space.now, ap length c.as_slice.ensures.value)

pub returns-then-settings-room : goal.returns-then-settings-room
returns-then-settings-room c =
    every_setting c.args.space.now _ _ c.args.room (ap length c.as_slice.ensures.value) refl c.if-settings-room.true

pub pass-requires-clause-asks : goal.pass-requires-clause-asks
pass-requires-clause-asks c = asks_count c.args.room

pub pass-requires-clause-room_for : goal.pass-requires-clause-room_for
pass-requires-clause-room_for c = count_room c.args.room _ _ _

pub returns : goal.returns
returns c = counted_past c.args.space.now c.pass.ensures c.args.room refl
