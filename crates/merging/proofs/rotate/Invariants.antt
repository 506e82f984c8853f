-- Between lo and hi the first bytes have still to change places with the others. What lies between falls. Assumes nothing.
use Rattle.std.proofs.Common.{◌++◌, ◌-◌, take, drop}
use Rattle.merging.proofs.RotateLaws.{Turning}
use Rattle.merging.proofs.rotate.Given as goal

abbrev pub invariant-loop-left : goal.invariant-loop-left
invariant-loop-left l = Turning (drop l.k l.initial.part ++ take l.k l.initial.part) l.part l.lo l.hi l.left

abbrev pub decreases-loop-left : goal.decreases-loop-left
decreases-loop-left l = l.hi - l.lo
