-- Where the most records that there may be have room, the part has the room for all that there are, and the head goes in front of them.
use Rattle.list_call.proofs.ListLaws.{head_refused, width_some, room_refused, part-fits, part-enough, bytes_fit, room-listed}
use Rattle.passes.proofs.SpaceLaws.{plan_few}
use mathlib.Core.Path.{ap}
use lib.ListN.{length}
use native.Mathlib.Omega.{arith}
use borrow.Author.Rules.{rules}
use Rattle.list_call.proofs.list_models.Goals as goal

pub returns-then-buffer-lt-HEAD_SIZE : goal.returns-then-buffer-lt-HEAD_SIZE
returns-then-buffer-lt-HEAD_SIZE c =
    head_refused c.args.space.now c.args.buffer.now c.if-buffer-lt-HEAD_SIZE.true

pub record_size-w-requires : goal.record_size-w-requires
record_size-w-requires c =
    plan_few c.args.space.now

pub returns-then-room-most : goal.returns-then-room-most
returns-then-room-most c =
    room_refused c.args.space.now c.args.buffer.now c.if-buffer-lt-HEAD_SIZE.false c.record_size-w.result c.record_size-w.ensures.0 c.most_records-most.ensures c.if-room-most.true

pub overflow_mul-end : goal.overflow_mul-end
overflow_mul-end c =
    let f = part-fits c.args.space.now c.args.buffer.now c.if-buffer-lt-HEAD_SIZE.false c.record_size-w.result c.record_size-w.ensures.0 c.most_records-most.ensures c.if-room-most.false in search rules

pub overflow_add-end : goal.overflow_add-end
overflow_add-end c =
    let f = part-fits c.args.space.now c.args.buffer.now c.if-buffer-lt-HEAD_SIZE.false c.record_size-w.result c.record_size-w.ensures.0 c.most_records-most.ensures c.if-room-most.false in search rules

pub slice_bounds-write_all-end : goal.slice_bounds-write_all-end
slice_bounds-write_all-end c =
    part-fits c.args.space.now c.args.buffer.now c.if-buffer-lt-HEAD_SIZE.false c.record_size-w.result c.record_size-w.ensures.0 c.most_records-most.ensures c.if-room-most.false

pub write_all-k-requires : goal.write_all-k-requires
write_all-k-requires c =
    record { n_in_bounds = part-enough c.args.space.now c.args.buffer.now c.if-buffer-lt-HEAD_SIZE.false c.record_size-w.result c.record_size-w.ensures.0 c.most_records-most.ensures c.if-room-most.false }

pub overflow_mul-k : goal.overflow_mul-k
overflow_mul-k c =
    record { fits = omega (arith, bytes_fit c.args.space.now c.args.buffer.now c.if-buffer-lt-HEAD_SIZE.false c.record_size-w.result c.record_size-w.ensures.0 c.most_records-most.ensures c.if-room-most.false c.write_all-k.ensures.0) }

pub overflow_add-k : goal.overflow_add-k
overflow_add-k c =
    record { fits = omega (arith, bytes_fit c.args.space.now c.args.buffer.now c.if-buffer-lt-HEAD_SIZE.false c.record_size-w.result c.record_size-w.ensures.0 c.most_records-most.ensures c.if-room-most.false c.write_all-k.ensures.0) }

pub put_head-requires : goal.put_head-requires
put_head-requires c =
    search rules

pub returns : goal.returns
returns c =
    room-listed c.args.space.now c.args.buffer.now c.if-buffer-lt-HEAD_SIZE.false c.record_size-w.result c.record_size-w.ensures.0 c.most_records-most.ensures c.if-room-most.false c.write_all-k.ensures.0 _ (ap length c.as_slice.ensures.value) _ _ c.write_all-k.ensures.1 c.put_head.ensures

pub nonzero_div-room : goal.nonzero_div-room
nonzero_div-room c = width_some c.args.space.now c.args.buffer.now c.if-buffer-lt-HEAD_SIZE.false c.record_size-w.result c.record_size-w.ensures.0
