-- Document 02, (d): which rules could displace which, worked out once, before the search starts. The search is given the rows, and no
-- arrows. proofs/NamedLaws.antt proves the statement. Assumes nothing.
use Rattle.std.specs.Prelude.{◌≡◌, Bool, ◌&&◌, List, ℕ, ◌<◌, eqb}
use Rattle.layers.specs.Masks.{bit_of}
use Rattle.models.specs.Program.{Program}
use Rattle.models.specs.StableModels.{complement, same_literal, overrides}
use Rattle.table.specs.declared.Row.{Row}
use Rattle.table.specs.Rows.{row_count, overridden, row_at}

-- the table names rows j and k: k's layer is in j's mask, and their heads are opposite
unfoldable pub named : List ℕ → List Row → ℕ → ℕ → Bool
named book rows j k =
    eqb (bit_of (overridden rows j) (row_at book rows k).layer) 1 && same_literal (row_at book rows j).head (complement (row_at book rows k).head)

-- "two rules are named there exactly when they meet all that the definition of displacement asks, except that the displacing body holds"
abbrev pub NamedExactly : Program → List ℕ → List Row → Type 0
NamedExactly P book rows =
    (j k : ℕ) → j < row_count rows → k < row_count rows → named book rows j k ≡ overrides P (row_at book rows j) (row_at book rows k)
