-- The first f places are the first f facts. Assumes nothing.
use Rattle.std.proofs.Common.{◌≡◌, take}
use Rattle.models.specs.Listing.{interpretation_of}
use Rattle.candidate.proofs.read_candidate.Given as goal

abbrev pub invariant-loop-f : goal.invariant-loop-f
invariant-loop-f l = take l.f l.holds-items ≡ interpretation_of l.f l.candidate
