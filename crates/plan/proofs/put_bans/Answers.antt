-- The entries are nogoods.
use Rattle.base.proofs.EntryLaws.{entry_in}
use Rattle.plan.proofs.PlanLaws.{nogoods_of_rows, bans_more}
use Rattle.plan.proofs.put_bans.Goals as goal

pub loop-ban-init : goal.loop-ban-init
loop-ban-init c = (λ rows rejectable w. nogoods_of_rows c.args.bans.spans.now w, c.requires)

pub loop-ban-preserved : goal.loop-ban-preserved
loop-ban-preserved c =
    (bans_more c.loop-ban.invariant.0 _ (entry_in c.args.bans.spans.now _ _ c.loop-ban-test.true) c.ban_nogood.result c.ban_nogood.ensures _ _ c.put.ensures.value, c.put.ensures.few)
