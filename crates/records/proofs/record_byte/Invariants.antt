-- After i turns v is the number that the first i facts make. Assumes nothing.
use Rattle.std.proofs.Common.{◌≡◌, drop}
use Rattle.models.specs.Listing.{bits_value}
use Rattle.records.proofs.record_byte.Given as goal

abbrev pub invariant-loop-i : goal.invariant-loop-i
invariant-loop-i l = l.v ≡ bits_value l.i (drop l.at l.m)
