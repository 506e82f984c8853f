-- After j turns the first j bytes are those of the record. Assumes nothing.
use Rattle.std.proofs.Common.{◌≡◌, take}
use Rattle.models.specs.Listing.{packed}
use Rattle.records.proofs.record_of.Given as goal

abbrev pub invariant-loop-j : goal.invariant-loop-j
invariant-loop-j l = take l.j l.byte-items ≡ packed l.j l.m
