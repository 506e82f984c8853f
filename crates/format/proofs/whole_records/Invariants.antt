-- The records passed fit and were counted, and the rest decides. Assumes nothing.
use Rattle.std.proofs.Common.{◌≡◌, ◌+◌, ◌≤◌, length}
use Rattle.format.specs.Book.{records, meets_end}
use Rattle.format.proofs.whole_records.Given as goal

abbrev pub invariant-loop-len : goal.invariant-loop-len
invariant-loop-len l = (l.n + length l.rest ≤ length l.part) × (meets_end l.part ≡ meets_end l.rest) × (length (records l.part) ≡ l.n + length (records l.rest))

abbrev pub decreases-loop-len : goal.decreases-loop-len
decreases-loop-len l = length l.rest
