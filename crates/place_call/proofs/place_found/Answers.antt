-- `place_found` meets its contract: the counts of one pass settle the fact's place. Assumes nothing.
use mathlib.Core.Path.{ap}
use mathlib.Core.List.{[]}
use lib.ListN.{length}
use native.Mathlib.Omega.{arith}
use Rattle.passes.proofs.PassLaws.{asks_settle, settle_room}
use Rattle.place_call.proofs.PlaceLaws.{refused_state, placed_nowhere, placed_in_some, placed_every}
use Rattle.place_call.proofs.place_found.Goals as goal

pub tally-counts-requires : goal.tally-counts-requires
tally-counts-requires c =
    record { asks = asks_settle c.args.fact; room_for = settle_room c.args.fact _ _ [] }

pub returns-then-counts-eq0 : goal.returns-then-counts-eq0
returns-then-counts-eq0 c =
    refused_state c.args.space.now c.args.fact c.tally-counts.ensures c.if-counts-eq0.true

pub returns-then-standing-eq0 : goal.returns-then-standing-eq0
returns-then-standing-eq0 c =
    placed_nowhere c.args.space.now c.args.fact c.tally-counts.ensures (omega (arith, c.if-counts-eq0.false)) (ap length c.as_slice-branching.ensures.value) (omega (arith, c.if-standing-eq0.true))

pub returns-then-standing-counts : goal.returns-then-standing-counts
returns-then-standing-counts c =
    placed_in_some c.args.space.now c.args.fact c.tally-counts.ensures (omega (arith, c.if-counts-eq0.false)) (ap length c.as_slice-branching.ensures.value) (omega (arith, c.if-standing-eq0.false)) c.if-standing-counts.true

pub returns-else-standing-counts : goal.returns-else-standing-counts
returns-else-standing-counts c =
    placed_every c.args.space.now c.args.fact c.tally-counts.ensures (omega (arith, c.if-counts-eq0.false)) (ap length c.as_slice-branching.ensures.value) c.if-standing-counts.false
