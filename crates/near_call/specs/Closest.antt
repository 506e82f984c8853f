-- Document 02, (j), of the call, by the inductive definition of a stable state: no stable state of the book at that layer is closer to the
-- candidate than the one that is written, every other one at the same distance comes later, and the distance is 0 exactly where the candidate
-- is stable. proofs/ClosestLaws.antt proves it for all bytes. Assumes nothing.
use Rattle.std.specs.Prelude.{◌≡◌, ◌⊎◌, ◌↔◌, true, List, ◌++◌, ℕ, ◌<◌, ◌≤◌, length, get_or, drop, Ok}
use Rattle.format.specs.Book.{book_of}
use Rattle.models.specs.Program.{Program}
use Rattle.models.specs.StableModels.{Interpretation, StableModel}
use Rattle.models.specs.Listing.{record_size, record_of, interpretation_of}
use Rattle.table.specs.Table.{program_of}
use Rattle.records.specs.Written.{before}
use Rattle.first.specs.Nearest.{distance}
use Rattle.near_call.specs.Reply.{near_reply, near_buffer}

module _ (book : List ℕ) (layer off : ℕ) (candidate old : List ℕ) where
  -- the driven layer's program, the facts of the book, and the state that the candidate gives
  abbrev pub driven : Program
  driven = program_of book layer off

  abbrev pub facts : ℕ
  facts = (book_of book).atoms

  abbrev pub given : Interpretation
  given = interpretation_of facts candidate

  -- the call is granted, and tells that so many facts differ
  abbrev pub Granted : ℕ → ℕ → Type 0
  Granted d g = near_reply book layer off candidate old ≡ Ok (record { distance = d; branching = g })

  -- the buffer holds this state's record, and the state is closest to the candidate
  pub record ClosestState (d : ℕ) (m : Interpretation) : Type 0 where
    pub is_stable : StableModel driven m
    pub written : near_buffer book layer off candidate old ≡ record_of facts m ++ drop (record_size facts) old
    pub distance_is : d ≡ distance facts given m
    pub no_closer : (o : Interpretation) → StableModel driven o → distance facts given m ≤ distance facts given o
    pub first_of_equals : (o : Interpretation) → StableModel driven o → distance facts given o ≡ distance facts given m → (o ≡ m) ⊎ (before facts m o ≡ true)

  pub record Closest : Type 0 where
    pub closest_written : (d g : ℕ) → Granted d g → (m : Interpretation) × ClosestState d m
    pub zero_exactly : (d g : ℕ) → Granted d g → (d ≡ 0) ↔ StableModel driven given
    -- the candidate's own bytes are handed back
    pub itself : (d g : ℕ) → Granted d g → StableModel driven given → ((i : ℕ) → get_or candidate i 0 < 256)
        → near_buffer book layer off candidate old ≡ candidate ++ drop (length candidate) old
