-- Each atom passed has its bit, and no other bit is set.
use mathlib.Core.Path.{refl}
use native.Mathlib.Omega.{arith}
use Rattle.setting.proofs.RuleMaskLaws.{bits-start, bits-more}
use Rattle.setting.proofs.atom_bits.Goals as goal

pub loop-i-init : goal.loop-i-init
loop-i-init c = bits-start c.args.atoms.now

pub loop-i-preserved : goal.loop-i-preserved
loop-i-preserved c =
    bits-more c.args.atoms.now c.loop-i.bits c.loop-i.i _ c.loop-i.invariant refl (c.requires.low c.loop-i.i c.loop-i-test.true) (omega (arith, c.requires.atoms_len_bound, c.loop-i-test.true))
