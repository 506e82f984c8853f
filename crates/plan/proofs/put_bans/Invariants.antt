-- The entries are nogoods.
use Prim.Native.Nat.{◌≤◌}
use lib.ListN.{length}
use Rattle.nogoods.specs.Nogoods.{max_nogoods}
use Rattle.plan.specs.Plan.{NogoodsPut}
use Rattle.plan.proofs.put_bans.Given as goal

abbrev pub invariant-loop-ban : goal.invariant-loop-ban
invariant-loop-ban l = NogoodsPut l.bans.book.now l.bans.spans.now l.bits l.initial.nogoods l.nogoods × length l.nogoods ≤ max_nogoods
