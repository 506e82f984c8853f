-- The masks have exactly what the entries passed reject at the setting.
use mathlib.Core.Path.{sym, subst, ◌∙◌}
use mathlib.Core.Bool.{false≢true}
use mathlib.Core.List.{List, []}
use Prim.Native.Nat.{ℕ}
use Rattle.rejecting.specs.Rejecting.{RejectsAt}
use Rattle.rejecting.proofs.RejectingLaws.{rejects_start, skipped_at, rejected_more}
use Rattle.rejecting.proofs.reject_at.Goals as goal
use Rattle.rejecting.proofs.reject_at.Goals.{then-fits, else-fits}

pub loop-row-init : goal.loop-row-init
loop-row-init c =
    subst (λ (x : List ℕ). RejectsAt [] c.args.standing x) (sym c.requires.rejects_value) rejects_start

pub loop-row-preserved : goal.loop-row-preserved
loop-row-preserved c =
    elim c.if-fits.branch [
      | then-fits w ↦ rw w.rejects-is (rejected_more c.args.rejecting.now _ c.loop-row-test.true _ c.loop-row.invariant (c.fits.ensures.0 w.if-fits.true) c.requires.named _ w.from.ensures)
      | else-fits w ↦ rw w.rejects-is (skipped_at c.args.rejecting.now _ c.loop-row-test.true _ c.loop-row.invariant (λ f. false≢true (sym w.if-fits.false ∙ c.fits.ensures.1 f)))
    ]
