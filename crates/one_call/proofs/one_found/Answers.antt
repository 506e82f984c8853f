-- `one_found` meets its contract: room for a record, then the first record that a pass writes. Assumes nothing.
use Rattle.one_call.proofs.OneLaws.{room_refused, part_sized, state_refused, state_written_lem}
use Rattle.passes.proofs.SpaceLaws.{plan_few}
use mathlib.Core.Path.{ap}
use lib.ListN.{length}
use Rattle.one_call.proofs.one_found.Goals as goal

pub record_size-size-requires : goal.record_size-size-requires
record_size-size-requires c =
    plan_few c.args.space.now

pub returns-then-buffer-size : goal.returns-then-buffer-size
returns-then-buffer-size c =
    room_refused c.args.space.now c.record_size-size.result c.record_size-size.ensures.0 c.args.buffer.now c.if-buffer-size.true

pub write_first-found-requires : goal.write_first-found-requires
write_first-found-requires c =
    record { part_len = part_sized c.args.space.now c.record_size-size.result c.record_size-size.ensures.0 c.args.buffer.now c.if-buffer-size.false }

pub returns-then-found : goal.returns-then-found
returns-then-found c =
    state_written_lem c.args.space.now c.record_size-size.result c.record_size-size.ensures.0 c.args.buffer.now c.if-buffer-size.false c.write_first-found.ensures c.if-found.true (ap length c.as_slice.ensures.value)

pub returns-else-found : goal.returns-else-found
returns-else-found c =
    state_refused c.args.space.now c.record_size-size.result c.record_size-size.ensures.0 c.args.buffer.now c.if-buffer-size.false c.write_first-found.ensures c.if-found.false
