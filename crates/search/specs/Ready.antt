-- That a table can be searched by a plan of it and of these constraints. Assumes nothing.
use Rattle.std.specs.Prelude.{List, ℕ}
use Rattle.table.specs.declared.Row.{Row}
use Rattle.table.specs.declared.Span.{Span}
use Rattle.plan.specs.declared.Plan.{Plan}
use Rattle.plan.specs.Plan.{Planned}
use Rattle.leaf.specs.Searchable.{Searchable}

pub record Ready (book : List ℕ) (rows : List Row) (bans : List Span) (plan : Plan) : Type 0 where
  pub table : Searchable book rows plan.atoms plan.n
  pub planned : Planned book rows bans plan.atoms plan
