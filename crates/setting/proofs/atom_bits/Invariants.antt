-- Each atom passed has its bit, and no other bit is set.
use Rattle.setting.specs.RuleMasks.{AtomBits}
use Rattle.setting.proofs.atom_bits.Given as goal

abbrev pub invariant-loop-i : goal.invariant-loop-i
invariant-loop-i l = AtomBits l.atoms l.bits l.i
