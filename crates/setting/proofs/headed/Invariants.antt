-- The heads of the open rules passed are collected; if they have every bit of `standing`, it says so.
use Rattle.std.proofs.Common.{◌≡◌, take}
use Rattle.setting.proofs.RuleMaskLaws.{HeadsTo}
use Rattle.setting.proofs.headed.Given as goal

abbrev pub invariant-loop-rule : goal.invariant-loop-rule
invariant-loop-rule l = (l.wanted ≡ l.standing) × HeadsTo (take l.rule-index l.rules) l.standing l.denied l.heads
