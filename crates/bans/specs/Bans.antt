-- The constraints that count at a driven layer: where the body of each stands in the book. Assumes nothing.
use Rattle.std.specs.Prelude.{◌≡◌, List, map, ℕ, ◌<◌, ◌≤◌, length, get_or}
use Rattle.base.specs.Bounds.{max_rules}
use Rattle.format.specs.Book.{Literal, literals_of}
use Rattle.models.specs.Program.{Program, constrained}
use Rattle.table.specs.declared.Row.{Row}
use Rattle.table.specs.declared.Span.{Span}
use Rattle.table.specs.declared.TheConstants.{NO_SPAN}
use Rattle.table.specs.Rows.{SpanFits, span_bytes}
use Rattle.table.specs.Tabled.{tabled}

-- where body k stands, or an empty one past the end
abbrev pub nth_ban : List Span → ℕ → Span
nth_ban bans k = get_or bans k NO_SPAN

-- the body that must never hold
unfoldable pub body_of : List ℕ → Span → List Literal
body_of book ban = literals_of (span_bytes book ban)

unfoldable pub bodies_of : List ℕ → List Span → List (List Literal)
bodies_of book bans = map (body_of book) bans

-- the program that a table and these bodies stand for
abbrev pub barred : List ℕ → List Row → List Span → ℕ → Program
barred book rows bans n = constrained (tabled book rows n) (bodies_of book bans)

-- every body lies in the book
abbrev pub BansFit : List ℕ → List Span → Type 0
BansFit book bans = (k : ℕ) → k < length bans → SpanFits book (nth_ban bans k)

-- the places are those of these bodies, in order
pub record BansMade (bodies : List (List Literal)) (book : List ℕ) (bans : List Span) : Type 0 where
  pub room : length bans ≤ max_rules
  pub fits : BansFit book bans
  pub bodies_are : bodies_of book bans ≡ bodies
