-- The atoms left decide.
use Rattle.setting.specs.Setting.{setting_of}
use Rattle.leaf.proofs.ModelLaws.{AgreeFrom}
use Rattle.leaf.proofs.Setting.agrees.Given as goal

abbrev pub invariant-loop-i : goal.invariant-loop-i
invariant-loop-i l = AgreeFrom l.self.atoms.now l.state (setting_of l.self.atoms.now l.self.standing) l.i
