-- The distance over the facts passed so far is counted.
use Rattle.std.proofs.Common.{◌≡◌}
use Rattle.first.specs.Nearest.{distance}
use Rattle.first.proofs.distance.Given as goal

abbrev pub invariant-loop-f : goal.invariant-loop-f
invariant-loop-f l = l.d ≡ distance l.f l.wanted l.m
