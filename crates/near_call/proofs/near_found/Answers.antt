-- Room for a record, then the record of the closest state that a pass writes.
use mathlib.Core.Path.{ap}
use lib.ListN.{length}
use Rattle.passes.proofs.SpaceLaws.{plan_few}
use Rattle.candidate.proofs.CandidateLaws.{ok_length, read_length}
use Rattle.near_call.proofs.NearLaws.{room_refused, part_sized, state_refused, state_written_lem}
use native.Mathlib.Omega.{arith}
use Rattle.near_call.proofs.near_found.Goals as goal

pub record_size-size-requires : goal.record_size-size-requires
record_size-size-requires c =
    plan_few c.args.space.now

pub returns-then-buffer-size : goal.returns-then-buffer-size
returns-then-buffer-size c =
    room_refused c.args.space.now c.args.candidate.now c.record_size-size.result c.record_size-size.ensures.0 c.args.buffer.now c.if-buffer-size.true

pub read_candidate-wanted-requires : goal.read_candidate-wanted-requires
read_candidate-wanted-requires c =
    record { n_le_max_atoms = plan_few c.args.space.now; candidate_len = ok_length c.args.space.now.plan.now.n c.args.candidate.now c.requires }

pub write_nearest-requires : goal.write_nearest-requires
write_nearest-requires c =
    record {
      wanted_len_bound = omega (arith, ap length c.read_candidate-wanted.ensures, read_length c.args.space.now.plan.now.n c.args.candidate.now);
      part_len = part_sized c.args.space.now c.args.candidate.now c.record_size-size.result c.record_size-size.ensures.0 c.args.buffer.now c.if-buffer-size.false;
    }

pub returns-in-Some : goal.returns-in-Some
returns-in-Some c =
    state_written_lem c.args.space.now c.args.candidate.now c.record_size-size.result c.record_size-size.ensures.0 c.args.buffer.now c.if-buffer-size.false c.read_candidate-wanted.ensures c.write_nearest.ensures c.in-Some.is (ap length c.as_slice.ensures.value)

pub returns-in-None : goal.returns-in-None
returns-in-None c =
    state_refused c.args.space.now c.args.candidate.now c.record_size-size.result c.record_size-size.ensures.0 c.args.buffer.now c.if-buffer-size.false c.read_candidate-wanted.ensures c.write_nearest.ensures c.in-None.is
