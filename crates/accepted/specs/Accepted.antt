-- What the calls above ask of a book. Assumes nothing.
use Rattle.std.specs.Prelude.{◌≡◌, Ok, List, ℕ}
use Rattle.book.specs.Causes.{verdict}

-- none of causes 1 to 8 applies
abbrev pub IsAccepted : List ℕ → Type 0
IsAccepted s = verdict s ≡ Ok tt
