-- The facts left decide, whatever the test computes.
use Rattle.std.proofs.Common.{refl, ap, not}
use Rattle.leaf.proofs.ModelLaws.{denied_is}
use Rattle.leaf.proofs.GoingOnLaws.{deny_met, deny_other, deny_not, deny_end}
use Rattle.leaf.proofs.Setting.denies_any.Goals as goal
use Rattle.leaf.proofs.Setting.denies_any.Goals.{else-not-stands-via-then-not-stands+else-test, else-not-stands-via-else-not-stands}

pub returns-then-test : goal.returns-then-test
returns-then-test g c =
    λ p k. deny_met c.args.self.atoms.now _ p c.loop-i-test.true (c.loop-i.invariant p k) (not c.stands.result) c.test.result (denied_is c.args.self.choices c.args.self.standing c.loop-i-test.true _ refl c.stands.result c.stands.ensures) (k _ _ c.test.ensures) (ap not c.if-not-stands.true) c.if-test.true

pub loop-i-preserved : goal.loop-i-preserved
loop-i-preserved g c =
    λ p k. elim c.else-not-stands.branch [
      | else-not-stands-via-then-not-stands+else-test w ↦ deny_not c.args.self.atoms.now _ p c.loop-i-test.true (c.loop-i.invariant p k) w.test.result (k _ _ w.test.ensures) w.if-test.false
      | else-not-stands-via-else-not-stands w ↦ deny_other c.args.self.atoms.now _ p c.loop-i-test.true (c.loop-i.invariant p k) (not c.stands.result) (denied_is c.args.self.choices c.args.self.standing c.loop-i-test.true _ refl c.stands.result c.stands.ensures) (ap not w.if-not-stands.false)
    ]

pub returns : goal.returns
returns g c = λ p k. deny_end c.args.self.atoms.now _ p c.loop-i.i c.loop-i-test.false (c.loop-i.invariant p k)
