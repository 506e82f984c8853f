-- When the sections of a book are whole (document 01, cause 4). Assumes nothing.
use Rattle.std.specs.Prelude.{Bool, not, ◌&&◌, ◌||◌, List, ℕ, eqb, leb, length}
use Rattle.format.specs.Book.{records, meets_end, section_count, section_end, section_records, arrow_section, rule_section}

-- a section lies inside the book, its records meet its end, and their number is its count
unfoldable pub whole_section : List ℕ → ℕ → Bool
whole_section s at =
    leb (section_end s at) (length s) && meets_end (section_records s at) && eqb (length (records (section_records s at))) (section_count s at)

-- Cause 4: a section passes the book's end, its records miss its end, their number is not the count,
-- or the rule section misses the book's end.
unfoldable pub has_broken_section : List ℕ → Bool
has_broken_section s =
    not (whole_section s (arrow_section s)) || not (whole_section s (rule_section s)) || not (eqb (section_end s (rule_section s)) (length s))
