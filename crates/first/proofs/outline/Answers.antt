-- Of the facts passed, those that branch are ahead, and every one that stands is known (`OutlinedTo`).
use Rattle.std.proofs.Common.{refl, sym, subst, arith, ℕ}
use Rattle.first.specs.InHand.{StandingHas}
use Rattle.first.proofs.OutlineLaws.{outlined_branching, outlined_other, outlined_whole}
use Rattle.first.proofs.outline.Goals as goal
use Rattle.first.proofs.outline.Goals.{else-branches_next+else-unsure, then-branches_next}

pub loop-f-preserved : goal.loop-f-preserved
loop-f-preserved c =
    elim c.if-branches_next.branch [
      | then-branches_next w ↦ rw (w.held-is, w.i-is) (record { passed = outlined_branching _ _ _ _ _ _ c.loop-f.invariant.passed (c.branches_next.ensures w.if-branches_next.true).0 c.args.met.atoms_few (c.branches_next.ensures w.if-branches_next.true).1; distance_is = c.loop-f.invariant.distance_is; standing_is = c.loop-f.invariant.standing_is; unsaid = c.loop-f.invariant.unsaid })
      | else-branches_next+else-unsure w ↦ rw (w.held-is, w.i-is) (record { passed = outlined_other _ _ _ _ _ _ c.loop-f.invariant.passed (w.unsure.ensures w.if-unsure.false); distance_is = c.loop-f.invariant.distance_is; standing_is = c.loop-f.invariant.standing_is; unsaid = c.loop-f.invariant.unsaid })
    ]

pub returns : goal.returns
returns c =
    (c.loop-f.invariant.distance_is, outlined_whole _ _ _ _ _ _ c.loop-f.invariant.passed _ (subst (λ (x : ℕ). StandingHas c.args.met.atoms.now c.args.met.state.now x) (sym c.loop-f.invariant.standing_is) c.args.met.standing_has) refl (omega (arith, c.loop-f-test.false)))
