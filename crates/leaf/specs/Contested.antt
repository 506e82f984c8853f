-- When the only state of a setting needs no second filling: no rejected row that speaks for a fact is left without an answer.
-- Assumes nothing.
use Rattle.std.specs.Prelude.{◌≡◌, Bool, false, List, ℕ, ◌<◌, T}
use Rattle.format.specs.Book.{Literal}
use Rattle.models.specs.StableModels.{Interpretation, atom_holds, positive, body_holds}
use Rattle.table.specs.Rows.{row_at, alive}
use Rattle.table.specs.declared.Row.{Row}

-- a plain literal holds, or its negation is marked
abbrev pub Answered : Interpretation → List Bool → Literal → Type 0
Answered m q l = (f : ℕ) → l ≡ positive f → atom_holds q f ≡ false → T (atom_holds m f)

-- of the rows before n, none is contested: where a rejected row's body holds and its head is plain, the head holds too, or its
-- negation is marked
pub record Uncontested (book : List ℕ) (rows : List Row) (rejects : List ℕ) (m : Interpretation) (q : List Bool) (n : ℕ) : Type 0 where
  pub each : (j : ℕ) → j < n → alive rejects (row_at book rows j) ≡ false
      → T (body_holds m (row_at book rows j)) → Answered m q (row_at book rows j).head
