-- The order of records as byte strings, and records of one width one behind the other. Assumes nothing.
use Rattle.std.specs.Prelude.{◌≡◌, Bool, ℕ, length}
use Rattle.std.specs.Ordering.{nat_cmp, is_lt}
use Rattle.std.specs.Cmp.Lexicographic.{slice_cmp}
use mathlib.Core.List.{List, Memᴰ}

-- the order of byte strings: the first byte where they differ decides
unfoldable pub bytes_before : List ℕ → List ℕ → Bool
bytes_before x y = is_lt (slice_cmp nat_cmp x y)

-- each record is w bytes wide
abbrev pub Wide : ℕ → List (List ℕ) → Type 0
Wide w rs = (r : List ℕ) → Memᴰ r rs → length r ≡ w
