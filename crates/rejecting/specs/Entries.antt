-- Document 02, (d), of what the search is given: the entries of the rejecting masks. proofs/EntriesLaws.antt proves the statement from
-- that of the rows (`NamedExactly` in crates/table/specs/Named.antt). Assumes nothing.
use Rattle.std.specs.Prelude.{◌≡◌, ◌↔◌, ℕ, ◌<◌, T}
use mathlib.Core.List.{List, Memᴰ}
use Rattle.layers.specs.Masks.{bit_of}
use Rattle.models.specs.Program.{Program}
use Rattle.models.specs.StableModels.{overrides}
use Rattle.table.specs.declared.Row.{Row}
use Rattle.table.specs.Names.{literal_named}
use Rattle.table.specs.Rows.{row_count, row_at}
use Rattle.rejecting.specs.Rejecting.{EntryOf}
use Rattle.rejecting.specs.declared.RejectingMasks.{RejectingMasks}

-- the entries name rows j and i: one entry is that of row j, has i's layer among its layers, and names i's head
pub record EntryNames (book : List ℕ) (rows : List Row) (atoms : List ℕ) (rejecting : List RejectingMasks) (j i : ℕ) : Type 0 where
  pub entry : RejectingMasks
  pub listed : Memᴰ entry rejecting
  pub entry_is : EntryOf book rows atoms j entry
  pub layer : bit_of entry.layers (row_at book rows i).layer ≡ 1
  pub head : literal_named entry.name ≡ (row_at book rows i).head

-- "two rules are named there exactly when they meet all that the definition of displacement asks, except that the displacing body holds"
abbrev pub EntriesExactly : Program → List ℕ → List Row → List ℕ → List RejectingMasks → Type 0
EntriesExactly P book rows atoms rejecting =
    (j i : ℕ) → j < row_count rows → i < row_count rows → EntryNames book rows atoms rejecting j i ↔ T (overrides P (row_at book rows j) (row_at book rows i))
