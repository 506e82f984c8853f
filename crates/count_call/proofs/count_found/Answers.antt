-- `count_found` meets its contract: one pass meets every stable model, and weighs those in which the code holds. Assumes nothing.
use mathlib.Core.Path.{ap}
use mathlib.Core.List.{[]}
use lib.ListN.{length}
use Rattle.passes.proofs.PassLaws.{fit_room}
use Rattle.count_call.proofs.CountLaws.{asks_fit, counted}
use Rattle.count_call.proofs.count_found.Goals as goal

pub tally-counts-requires : goal.tally-counts-requires
tally-counts-requires c =
    record { asks = asks_fit c.args.codes c.requires; room_for = fit_room c.args.codes _ _ [] }

pub returns : goal.returns
returns c =
    counted c.args.space.now c.tally-counts.ensures (ap length c.as_slice.ensures.value)
