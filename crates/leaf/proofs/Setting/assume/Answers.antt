-- Of the facts passed those are marked that the setting denies and of which no rule is rejected.
use Rattle.std.proofs.Common.{refl, length, arith}
use Rattle.leaf.proofs.ModelLaws.{denied_is, undisputed-start, undisputed-more}
use Rattle.leaf.proofs.Setting.assume.Goals as goal
use Rattle.leaf.proofs.Setting.assume.Goals.{else-rejects-f-eq0, then-rejects-f-eq0}

pub loop-i-init : goal.loop-i-init
loop-i-init c = undisputed-start c.args.rejects.now _ (length c.args.negative.now) _ c.clear_marks.ensures

pub loop-i-preserved : goal.loop-i-preserved
loop-i-preserved c =
    elim c.if-rejects-f-eq0.branch [
      | then-rejects-f-eq0 w ↦ rw w.negative-is (undisputed-more c.loop-i.invariant _ (omega (arith, c.requires _ c.loop-i-test.true, c.loop-i.auto.negative)) w.if-rejects-f-eq0.true _ (denied_is c.args.self.choices c.args.self.standing c.loop-i-test.true _ refl w.stands.result w.stands.ensures))
      | else-rejects-f-eq0 w ↦ rw w.negative-is c.loop-i.invariant
    ]
