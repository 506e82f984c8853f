-- The record in front of lo comes before the one sought, and the one at hi does not. What lies between falls. Assumes nothing.
use Prim.Native.Nat.{◌-◌}
use Rattle.merging.proofs.PlaceLaws.{Placing}
use Rattle.merging.proofs.place.Given as goal

abbrev pub invariant-loop-lo : goal.invariant-loop-lo
invariant-loop-lo l = Placing l.w l.from l.count l.at l.part l.lo l.hi

abbrev pub decreases-loop-lo : goal.decreases-loop-lo
decreases-loop-lo l = l.hi - l.lo
