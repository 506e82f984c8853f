-- The program that a table stands for, from the table alone: no arrow and no driven layer is read. Assumes nothing.
use Rattle.std.specs.Prelude.{◌&&◌, List, [], ℕ, eqb}
use Rattle.base.specs.Lists.{any, up_to}
use Rattle.layers.specs.Masks.{bit_of}
use Rattle.models.specs.Program.{Program}
use Rattle.table.specs.declared.Row.{Row}
use Rattle.table.specs.Rows.{row_count, row_layer, overridden, rows_of}

-- its rules are the rows; layer i is below j where a row of layer j has bit i in its mask; rows are no constraints
unfoldable pub tabled : List ℕ → List Row → ℕ → Program
tabled book rows n = record {
  atoms = n;
  rules = rows_of book rows;
  constraints = [];
  below = λ i j. any (λ k. eqb (row_layer rows k) j && eqb (bit_of (overridden rows k) i) 1) (up_to (row_count rows));
}
