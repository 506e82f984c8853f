-- Document 01, "The book": its fields, its two sections, their records, and the facts, layers, arrows and rules that they give.
-- Each definition is total: a byte past the end reads as 0, and what that means is left to the causes. Assumes nothing.
use Rattle.std.specs.Prelude.{Bool, true, not, ◌&&◌, List, [], ◌∷◌, map, ℕ, zero, suc, ◌+◌, ◌*◌, ◌%◌, min, eqb, leb, length, get_or, take, drop}
use Rattle.layers.specs.Layers.{Arrow}
use Rattle.format.specs.declared.Literal.{Literal as LiteralRecord}

-- fields are big-endian
unfoldable pub u16_at : List ℕ → ℕ → ℕ
u16_at s i = get_or s i 0 * 256 + get_or s (i + 1) 0

unfoldable pub u32_at : List ℕ → ℕ → ℕ
u32_at s i = ((get_or s i 0 * 256 + get_or s (i + 1) 0) * 256 + get_or s (i + 2) 0) * 256 + get_or s (i + 3) 0

-- the records of a section's bytes: one length byte, then that many bytes (fewer, where the bytes end)
unfoldable pub records_in : ℕ → List ℕ → List (List ℕ)
records_in zero s = []
records_in (suc k) [] = []
records_in (suc k) (len ∷ s) = take len s ∷ records_in k (drop len s)

unfoldable pub records : List ℕ → List (List ℕ)
records s = records_in (length s) s

-- the records, taken by length byte, meet the end: none asks for more bytes than are left
unfoldable pub meets_end_in : ℕ → List ℕ → Bool
meets_end_in zero s = true
meets_end_in (suc k) [] = true
meets_end_in (suc k) (len ∷ s) = let rest : Bool = meets_end_in k (drop len s) in leb len (length s) && rest

unfoldable pub meets_end : List ℕ → Bool
meets_end s = meets_end_in (length s) s

-- the end of the record at an offset: where its length byte says, or the end of the bytes
unfoldable pub record_end : List ℕ → ℕ → ℕ
record_end s at = min (at + 1 + get_or s at 0) (length s)

-- A section that starts at an offset: bytes of its records (4), their count (2), then the records.
module _ (s : List ℕ) (at : ℕ) where
  unfoldable pub section_bytes : ℕ
  section_bytes = u32_at s at

  unfoldable pub section_count : ℕ
  section_count = u16_at s (at + 4)

  unfoldable pub section_end : ℕ
  section_end = at + 6 + section_bytes

  unfoldable pub section_records : List ℕ
  section_records = take section_bytes (drop (at + 6) s)

-- a literal: a fact `atom`, or its negation, "not f", where `negated` is true
abbrev pub Literal : Type 0
Literal = LiteralRecord

pub record Rule : Type 0 where
  pub layer : ℕ
  pub head : Literal
  pub body : List Literal

pub record Book : Type 0 where
  -- document 01: facts n, layers L
  pub atoms : ℕ
  pub layers : ℕ
  pub arrows : List Arrow
  pub rules : List Rule

-- two bytes: the fact number, plus 32,768 where it is negated
unfoldable pub literal_of : ℕ → ℕ → Literal
literal_of a b = record { atom = (a * 256 + b) % 32768; negated = leb 32768 (a * 256 + b) }

unfoldable pub literals_of : List ℕ → List Literal
literals_of [] = []
literals_of (a ∷ []) = []
literals_of (a ∷ (b ∷ s)) = literal_of a b ∷ literals_of s

-- an arrow record: the earlier layer, the later layer
unfoldable pub arrow_of : List ℕ → Arrow
arrow_of r = record { earlier = get_or r 0 0; later = get_or r 1 0 }

-- a rule record: its layer, its head literal, then its body literals
unfoldable pub rule_of : List ℕ → Rule
rule_of r = record { layer = get_or r 0 0; head = literal_of (get_or r 1 0) (get_or r 2 0); body = literals_of (drop 3 r) }

-- Document 02, (c): the plain literal 32,767, which names no fact. As a head it is the "false" of 003.
unfoldable pub is_falsity : Literal → Bool
is_falsity l = eqb l.atom 32767 && not l.negated

-- a rule record with that head: its body must never hold
unfoldable pub is_constraint : Rule → Bool
is_constraint r = is_falsity r.head

-- The fields of the book, at their offsets.
module _ (s : List ℕ) where
  unfoldable pub version : ℕ
  version = get_or s 0 0

  unfoldable pub length_field : ℕ
  length_field = u32_at s 1

  unfoldable pub atom_count : ℕ
  atom_count = u16_at s 5

  unfoldable pub layer_count : ℕ
  layer_count = get_or s 7 0

  -- the offsets of the two sections
  abbrev pub arrow_section : ℕ
  arrow_section = 8

  unfoldable pub rule_section : ℕ
  rule_section = section_end s arrow_section

  unfoldable pub arrow_records : List (List ℕ)
  arrow_records = records (section_records s arrow_section)

  unfoldable pub rule_records : List (List ℕ)
  rule_records = records (section_records s rule_section)

  unfoldable pub arrows_of : List Arrow
  arrows_of = map arrow_of arrow_records

  unfoldable pub rules_of : List Rule
  rules_of = map rule_of rule_records

  -- what the bytes say; believed only where no cause applies
  unfoldable pub book_of : Book
  book_of = record { atoms = atom_count; layers = layer_count; arrows = arrows_of; rules = rules_of }
