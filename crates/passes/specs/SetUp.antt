-- What a call works out before it searches: the table of the rules that count at the layer, its branching facts and the plan of the
-- search. Assumes nothing.
use Rattle.std.specs.Prelude.{◌≡◌, ◌≤◌, true, false, List, ℕ, Result, Ok, Err, length, take}
use Rattle.models.specs.Program.{Program}
use Rattle.models.specs.Alike.{Alike}
use Rattle.book.specs.declared.Cause.{Cause}
use Rattle.book.specs.declared.Cause.TheVariants.{TooManyBranching}
use Rattle.table.specs.declared.Row.{Row}
use Rattle.table.specs.declared.Span.{Span}
use Rattle.bans.specs.Bans.{barred}
use Rattle.plan.specs.declared.Plan.{Plan}
use Rattle.search.specs.Ready.{Ready}
use Rattle.search.specs.Space.{space_program}
use Rattle.search.specs.declared.space.Space.{Space}
use Rattle.passes.specs.declared.Made.{Made}
use Rattle.passes.specs.Limit.{has_too_many_branching}

-- No more facts branch than a search goes through: the space is of this book, and its program is alike to the driven layer's. That it can
-- be searched each space knows.
pub record Spans (P : Program) (book : List ℕ) (s : Space) : Type 0 where
  pub of_book : s.table.book.now ≡ book
  pub alike : Alike P (space_program s)
  pub few : has_too_many_branching P ≡ false

-- The same of what a call writes: with the plan, the fronts of the rows and of the constraints can be searched.
pub record SpansIn (P : Program) (book : List ℕ) (rows : List Row) (bans : List Span) (plan : Plan) (made : Made) : Type 0 where
  pub rows_room : made.rows ≤ length rows
  pub bans_room : made.bans ≤ length bans
  pub ready : Ready book (take made.rows rows) (take made.bans bans) plan
  pub alike : Alike P (barred book (take made.rows rows) (take made.bans bans) plan.n)
  pub few : has_too_many_branching P ≡ false

-- Where more branch, that is cause 12.
abbrev pub SetUp : Program → List ℕ → Result Space Cause → Type 0
SetUp P book (Ok s) = Spans P book s
SetUp P book (Err c) = (c ≡ TooManyBranching) × (has_too_many_branching P ≡ true)

abbrev pub SetUpIn : Program → List ℕ → List Row → List Span → Plan → Result Made Cause → Type 0
SetUpIn P book rows bans plan (Ok made) = SpansIn P book rows bans plan made
SetUpIn P book rows bans plan (Err c) = (c ≡ TooManyBranching) × (has_too_many_branching P ≡ true)
