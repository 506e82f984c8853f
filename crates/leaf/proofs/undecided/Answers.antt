-- A negated name is no fact; else one of the two tests decides.
use Rattle.std.proofs.Common.{sym, ◌∙◌}
use mathlib.Core.Bool.{true≢false}
use borrow.Author.Tests.{le-ltb}
use Rattle.leaf.proofs.ContestedLaws.{answered_negated, answered_holds, answered_marked}
use Rattle.leaf.proofs.undecided.Goals as goal
use Rattle.leaf.proofs.undecided.Goals.{then-h-lt-MAX_ATOMS, else-h-lt-MAX_ATOMS}

pub returns-then-not-atom_holds : goal.returns-then-not-atom_holds
returns-then-not-atom_holds c =
    λ y. elim c.if-h-lt-MAX_ATOMS.branch [
      | then-h-lt-MAX_ATOMS w ↦ answered_marked c.args.m.now c.args.negative.now c.args.h w.if-h-lt-MAX_ATOMS.true c.atom_holds-then-not-atom_holds.result c.atom_holds-then-not-atom_holds.ensures y
      | else-h-lt-MAX_ATOMS w ↦ absurd (true≢false (sym c.if-not-atom_holds.true ∙ w.value-is ∙ le-ltb _ _ w.if-h-lt-MAX_ATOMS.false))
    ]

pub returns-else-not-atom_holds : goal.returns-else-not-atom_holds
returns-else-not-atom_holds c =
    λ y. elim c.if-h-lt-MAX_ATOMS.branch [
      | then-h-lt-MAX_ATOMS w ↦ answered_holds c.args.m.now c.args.negative.now c.args.h w.if-h-lt-MAX_ATOMS.true w.atom_holds.result w.atom_holds.ensures (sym w.value-is ∙ y)
      | else-h-lt-MAX_ATOMS w ↦ answered_negated c.args.m.now c.args.negative.now c.args.h w.if-h-lt-MAX_ATOMS.false
    ]
