-- Document 01, cause 10: when bytes are no candidate of n facts. `candidate_is_record` of proofs/CandidateLaws.antt: the others are
-- exactly the records of the states of n facts; `record_read`: each gives its state back. Assumes nothing.
use Rattle.std.specs.Prelude.{Bool, not, ◌&&◌, ◌||◌, List, ℕ, ◌*◌, eqb, leb, length}
use Rattle.base.specs.Lists.{any, up_to}
use Rattle.models.specs.Listing.{record_size, bit_at}

-- a bit of the record past its n facts is set
unfoldable pub has_spare_bit : ℕ → List ℕ → Bool
has_spare_bit n s = any (λ f. leb n f && bit_at s f) (up_to (8 * record_size n))

-- 10: candidate of another length, or a spare bit set
unfoldable pub is_bad_candidate : ℕ → List ℕ → Bool
is_bad_candidate n s = not (eqb (length s) (record_size n)) || has_spare_bit n s
