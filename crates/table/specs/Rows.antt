-- The rows of the table, one rule after the other. Assumes nothing.
use Rattle.std.specs.Prelude.{◌≡◌, Bool, not, ◌&&◌, List, map, ℕ, ◌+◌, ◌<◌, ◌≤◌, eqb, length, get_or, take, drop}
use Rattle.base.specs.Bounds.{max_names, max_layers}
use Rattle.layers.specs.Masks.{bit_of}
use Rattle.format.specs.Book.{Rule, literals_of, is_constraint}
use Rattle.table.specs.declared.Row.{Row}
use Rattle.table.specs.declared.Span.{Span}
use Rattle.table.specs.declared.TheConstants.{NO_ROW}
use Rattle.table.specs.Names.{literal_named, name_of}

-- a body lies in the book, and its bytes
abbrev pub SpanFits : List ℕ → Span → Type 0
SpanFits book span = span.start + span.size ≤ length book

abbrev pub span_bytes : List ℕ → Span → List ℕ
span_bytes book span = take span.size (drop span.start book)

abbrev pub row_count : List Row → ℕ
row_count rows = length rows

-- row j, or an empty one past the end
abbrev pub nth : List Row → ℕ → Row
nth rows j = get_or rows j NO_ROW

-- the head's name, the layer
abbrev pub head_name : List Row → ℕ → ℕ
head_name rows j = (nth rows j).head

abbrev pub row_layer : List Row → ℕ → ℕ
row_layer rows j = (nth rows j).layer

-- the layers in which it can displace rules, a mask
abbrev pub overridden : List Row → ℕ → ℕ
overridden rows j = (nth rows j).overridden

-- its body's bytes
abbrev pub row_body : List ℕ → List Row → ℕ → List ℕ
row_body book rows j = span_bytes book (nth rows j).body

-- the rule that a row stands for
abbrev pub row_rule : List ℕ → Row → Rule
row_rule book row = record { layer = row.layer; head = literal_named row.head; body = literals_of (span_bytes book row.body) }

unfoldable pub row_at : List ℕ → List Row → ℕ → Rule
row_at book rows j = row_rule book (nth rows j)

unfoldable pub rows_of : List ℕ → List Row → List Rule
rows_of book rows = map (row_rule book) rows

-- a row has the name of a literal, a layer, and a body in the book
abbrev pub RowFits : List ℕ → Row → Type 0
RowFits book r = (r.head < max_names) × (r.layer < max_layers) × SpanFits book r.body

-- every row has the name of a literal and a layer
pub record RowsBounded (rows : List Row) : Type 0 where
  pub name : (j : ℕ) → j < row_count rows → head_name rows j < max_names
  pub layer_low : (j : ℕ) → j < row_count rows → row_layer rows j < max_layers

-- and every row's body lies in the book
pub record RowsFit (book : List ℕ) (rows : List Row) : Type 0 where
  pub bounded : RowsBounded rows
  pub part : (j : ℕ) → j < row_count rows → SpanFits book (nth rows j).body

-- the rows are the same, but for what they displace
pub record SameRules (rows other : List Row) : Type 0 where
  pub size : length other ≡ length rows
  pub same : (j : ℕ) → nth other j ≡ record (nth rows j) { overridden = overridden other j }

-- a rule whose layer is in the mask
unfoldable pub in_mask : ℕ → Rule → Bool
in_mask mask r = eqb (bit_of mask r.layer) 1

-- of these the rules proper, and the constraints
unfoldable pub takes_rule : ℕ → Rule → Bool
takes_rule mask r = in_mask mask r && not (is_constraint r)

unfoldable pub takes_constraint : ℕ → Rule → Bool
takes_constraint mask r = in_mask mask r && is_constraint r

-- a rule is alive unless its layer's bit is set in the mask at its head's name
unfoldable pub alive : List ℕ → Rule → Bool
alive rejects r = not (eqb (bit_of (get_or rejects (name_of r.head) 0) r.layer) 1)
