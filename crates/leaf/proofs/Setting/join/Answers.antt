-- Of the facts passed, those that the setting denies are marked.
use Rattle.std.proofs.Common.{refl, sym, ap, ◌∙◌, not, arith}
use Rattle.leaf.proofs.ModelLaws.{denied_is}
use Rattle.leaf.proofs.GoingOnLaws.{joined_skip, joined-more}
use Rattle.leaf.proofs.Setting.join.Goals as goal
use Rattle.leaf.proofs.Setting.join.Goals.{else-not-stands, then-not-stands}

pub loop-i-preserved : goal.loop-i-preserved
loop-i-preserved c =
    let k = denied_is c.args.self.choices c.args.self.standing c.loop-i-test.true _ refl c.stands.result c.stands.ensures in
    elim c.if-not-stands.branch [
      | then-not-stands w ↦ rw w.negative-is (joined-more c.args.self.atoms.now _ _ c.loop-i.invariant _ refl (omega (arith, c.requires _ c.loop-i-test.true, c.loop-i.auto.negative)) (sym k ∙ ap not w.if-not-stands.true))
      | else-not-stands w ↦ rw w.negative-is (joined_skip c.args.self.atoms.now _ _ c.loop-i.invariant _ refl (sym k ∙ ap not w.if-not-stands.false))
    ]
