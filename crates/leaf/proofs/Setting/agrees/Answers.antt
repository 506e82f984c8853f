-- The atoms left decide.
use Rattle.std.proofs.Common.{refl}
use Rattle.leaf.proofs.ModelLaws.{stands_is, agree_fails, agree_more, agree_end}
use Rattle.leaf.proofs.Setting.agrees.Goals as goal

pub returns-then-atom_holds-stands : goal.returns-then-atom_holds-stands
returns-then-atom_holds-stands c =
    let k = stands_is c.args.self.choices c.args.self.standing c.loop-i-test.true _ refl c.stands.result c.stands.ensures in
    agree_fails c.args.self.atoms.now c.args.state.now _ c.loop-i.i c.loop-i-test.true _ refl c.atom_holds.result c.stands.result c.atom_holds.ensures k c.loop-i.invariant c.if-atom_holds-stands.true

pub loop-i-preserved : goal.loop-i-preserved
loop-i-preserved c =
    let k = stands_is c.args.self.choices c.args.self.standing c.loop-i-test.true _ refl c.stands.result c.stands.ensures in
    agree_more c.args.self.atoms.now c.args.state.now _ c.loop-i.i c.loop-i-test.true _ refl c.atom_holds.result c.stands.result c.atom_holds.ensures k c.loop-i.invariant c.if-atom_holds-stands.false

pub returns : goal.returns
returns c = agree_end c.args.self.atoms.now c.args.state.now _ c.loop-i.i c.loop-i-test.false c.loop-i.invariant
