-- Of the facts passed, those that branch are ahead, and every one that stands is known (`OutlinedTo`).
use Rattle.std.proofs.Common.{◌≡◌, false}
use Rattle.first.proofs.OutlineLaws.{OutlinedTo}
use Rattle.first.proofs.outline.Given as goal

abbrev pub invariant-loop-f : goal.invariant-loop-f
invariant-loop-f l = record {
  passed : OutlinedTo l.met.atoms.now l.sure l.met.state.now l.held.ahead l.i l.f;
  distance_is : l.held.distance ≡ l.distance;
  standing_is : l.held.standing ≡ l.met.standing;
  unsaid : l.held.alone ≡ false;
}
