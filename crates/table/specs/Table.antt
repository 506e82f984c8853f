-- What the table of a program says, and what it is made from. Assumes nothing.
use Rattle.std.specs.Prelude.{◌≡◌, Bool, true, false, not, ◌&&◌, ◌||◌, ℕ, ◌<◌, ◌≤◌, T, eqb, length, get_or, drop}
use mathlib.Core.List.{List, Memᴰ}
use Rattle.base.specs.Bounds.{max_atoms, max_layers, max_rules}
use Rattle.base.specs.Lists.{filter}
use Rattle.layers.specs.Layers.{below}
use Rattle.layers.specs.Masks.{bit_of}
use Rattle.format.specs.Book.{Rule, records, meets_end, rule_of, is_constraint, book_of}
use Rattle.models.specs.Program.{Program, in_set, program_at}
use Rattle.models.specs.StableModels.{overrides}
use Rattle.table.specs.declared.Row.{Row}
use Rattle.table.specs.Records.{rules_from}
use Rattle.table.specs.Rows.{row_count, overridden, row_at, rows_of, takes_rule, RowsFit}

-- the program that a book's bytes give at a layer, with the layers of a set switched off
abbrev pub program_of : List ℕ → ℕ → ℕ → Program
program_of book layer off = program_at (book_of book) layer off

-- a record that has a layer within the bounds and, unless it is a constraint, a head within them
pub record RuleRecord (r : List ℕ) : Type 0 where
  pub long : 3 ≤ length r
  pub layer_low : (rule_of r).layer < max_layers
  pub atom_low : is_constraint (rule_of r) ≡ false → (rule_of r).head.atom < max_atoms

-- the records of these bytes meet their end, are at most 1,024, and each is within the bounds
pub record RuleRecords (s : List ℕ) : Type 0 where
  pub whole : meets_end s ≡ true
  pub few : length (records s) ≤ max_rules
  pub each : (r : List ℕ) → Memᴰ r (records s) → RuleRecord r

-- What the check of the book and the closure of its arrows have made sure of: the bytes from `first` on are the rules' records,
-- and bit i of mask j in `lower` is set exactly where layer i is below j.
pub record Prepared (book : List ℕ) (first : ℕ) (lower : List ℕ) : Type 0 where
  pub rule_records_lem : RuleRecords (drop first book)
  pub starts : first ≤ length book
  pub short : length book < 65536
  pub rules_are : (book_of book).rules ≡ rules_from book first
  pub lower_sound : (i j : ℕ) → j < max_layers → bit_of (get_or lower j 0) i ≡ 1 → T (below (book_of book).arrows i j)
  pub lower_full : (i j : ℕ) → i < max_layers → j < max_layers → T (below (book_of book).arrows i j) → bit_of (get_or lower j 0) i ≡ 1

-- a layer whose rules count at the driven layer: that layer or one below it, and not switched off
unfoldable pub layer_counts : List ℕ → ℕ → ℕ → ℕ → Bool
layer_counts lower layer off i = (eqb i layer || eqb (bit_of (get_or lower layer 0) i) 1) && not (in_set off i)

-- a mask of exactly these layers
abbrev pub RelevantLayers : List ℕ → ℕ → ℕ → ℕ → Type 0
RelevantLayers lower layer off mask = (i : ℕ) → eqb (bit_of mask i) 1 ≡ layer_counts lower layer off i

-- the rows are those of the rules that pass the mask, in order
pub record RowsMade (book : List ℕ) (first mask : ℕ) (rows : List Row) : Type 0 where
  pub room : length rows ≤ max_rules
  pub fits : RowsFit book rows
  pub rules : rows_of book rows ≡ filter (takes_rule mask) (rules_from book first)

-- The table of a program: its rules as rows, each with the mask of the layers in which it overrides a rule.
pub record Tabulates (P : Program) (book : List ℕ) (rows : List Row) : Type 0 where
  pub fits : RowsFit book rows
  pub rules : rows_of book rows ≡ P.rules
  pub sound : (j : ℕ) → j < row_count rows → (i : ℕ) → bit_of (overridden rows j) i ≡ 1 → T (P.below i (row_at book rows j).layer)
  pub full : (j : ℕ) → j < row_count rows → (r : Rule) → Memᴰ r (rows_of book rows) → T (overrides P (row_at book rows j) r)
      → bit_of (overridden rows j) r.layer ≡ 1
  pub exact : (j : ℕ) → j < row_count rows → (i : ℕ) → bit_of (overridden rows j) i ≡ 1
      → (r : Rule) × Memᴰ r (rows_of book rows) × (r.layer ≡ i) × T (overrides P (row_at book rows j) r)

-- the table, in the rows that there is room for
pub record TableMade (P : Program) (book : List ℕ) (rows : List Row) : Type 0 where
  pub room : length rows ≤ max_rules
  pub table : Tabulates P book rows
