-- The answer is that of the bytes from j on.
use Rattle.std.proofs.Common.{length}
use Rattle.first.proofs.PrecedesLaws.{From}
use Rattle.first.proofs.precedes.Given as goal

abbrev pub invariant-loop-j : goal.invariant-loop-j
invariant-loop-j l = From (length l.m) l.m l.part l.j
