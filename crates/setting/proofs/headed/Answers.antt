-- If the heads collected have every bit of `standing`, it says so.
use borrow.Author.Tests.{eq-eqb}
use Rattle.setting.proofs.RuleMaskLaws.{heads_end}
use Rattle.setting.proofs.headed.Goals as goal

pub returns : goal.returns
returns c = λ h. eq-eqb _ _ (heads_end c.args.rules.now c.loop-rule.rule-index c.loop-rule-test.false _ c.loop-rule.invariant.1 _ c.loop-rule.invariant.0 h)
