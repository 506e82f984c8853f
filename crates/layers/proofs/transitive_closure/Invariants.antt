-- After turn k the masks are closed under ways through the layers up to k. A turn passes over the masks below `count`, and the others
-- are empty.
use Rattle.layers.proofs.WarshallLaws.{Row, Turns}
use Rattle.layers.proofs.transitive_closure.Given as goal

abbrev pub invariant-loop-i : goal.invariant-loop-i
invariant-loop-i l = Row l.initial.m l.m l.k l.i

abbrev pub invariant-loop-k : goal.invariant-loop-k
invariant-loop-k l = Turns l.fn.start l.m l.k
