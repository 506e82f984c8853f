-- The statements about stable models and listings that a buyer's reader looks for. Proved in proofs/BranchingLaws.antt and proofs/ListingLaws.antt.
-- Assumes nothing.
use Rattle.std.specs.Prelude.{◌≡◌, ◌↔◌, ℕ, T}
use Rattle.models.specs.Program.{Program}
use Rattle.models.specs.StableModels.{Interpretation, atom_holds, StableModel}
use Rattle.models.specs.Branching.{branching}
use Rattle.models.specs.Listing.{listing}

-- Document 01: "Two stable states that agree on the branching facts are equal."
abbrev pub BranchingDecides : Program → Type 0
BranchingDecides P =
    (m o : Interpretation) → StableModel P m → StableModel P o
    → ((f : ℕ) → T (branching P f) → atom_holds m f ≡ atom_holds o f) → m ≡ o

-- Condition 3: two listings "are equal byte for byte exactly when both books have the same number of facts and the
-- same set of stable models at those layers".
abbrev pub ListingsDecide : Program → Program → Type 0
ListingsDecide P Q =
    (listing P ≡ listing Q) ↔ ((P.atoms ≡ Q.atoms) × ((m : Interpretation) → StableModel P m ↔ StableModel Q m))
