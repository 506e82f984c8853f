-- Document 01, "Causes, in order of test": causes 1 to 8, one predicate each, and the first that applies. Assumes nothing.
use Rattle.std.specs.Prelude.{Result, Ok, Err, Bool, true, false, not, ◌&&◌, ◌||◌, List, [], ◌∷◌, ℕ, ◌+◌, ◌*◌, eqb, leb, ltb, length}
use Rattle.base.specs.Bounds.{max_atoms, max_layers, max_arrows, max_rules, max_body}
use Rattle.base.specs.Lists.{all, any, up_to}
use Rattle.layers.specs.Layers.{repeats, below}
use Rattle.format.specs.Book.{Literal, version, length_field, atom_count, layer_count, section_count, arrow_section, rule_section, arrow_records, rule_records, arrow_of, rule_of, is_falsity, arrows_of}
use Rattle.format.specs.Sections.{has_broken_section}
use Rattle.book.specs.declared.Cause.{Cause}
use Rattle.book.specs.declared.Cause.TheVariants.{TooShort, WrongVersion, WrongLength, BrokenSection, OutOfRange, BadRecord, RepeatedArrow, Cycle}

unfoldable pub within : ℕ → ℕ → ℕ → Bool
within low high x = leb low x && leb x high

-- an arrow has length 2, and its layers are below L
unfoldable pub arrow_ok : ℕ → List ℕ → Bool
arrow_ok layers r = eqb (length r) 2 && ltb (arrow_of r).earlier layers && ltb (arrow_of r).later layers

-- a rule's length is 3 + 2b, with b from 0 to `max_body`
unfoldable pub rule_length : ℕ → Bool
rule_length k = any (λ b. eqb k (3 + 2 * b)) (up_to (max_body + 1))

unfoldable pub atom_below : ℕ → Literal → Bool
atom_below n l = ltb l.atom n

-- a head's fact is below n; document 02, (c): or the head is the plain 32,767, whatever n is
unfoldable pub head_ok : ℕ → Literal → Bool
head_ok n l = atom_below n l || is_falsity l

-- a rule has such a length, its layer is below L, its head is lawful, and the facts of its body are below n
unfoldable pub rule_ok : ℕ → ℕ → List ℕ → Bool
rule_ok layers n r =
    rule_length (length r) && ltb (rule_of r).layer layers && head_ok n (rule_of r).head && all (atom_below n) (rule_of r).body

-- The causes but for 4, which is `has_broken_section` of the crate below.
module _ (s : List ℕ) where
  -- 1: fewer than 20 bytes
  unfoldable pub is_too_short : Bool
  is_too_short = ltb (length s) 20

  -- 2: version not 1
  unfoldable pub has_wrong_version : Bool
  has_wrong_version = not (eqb (version s) 1)

  -- 3: length field differs from the bytes lent
  unfoldable pub has_wrong_length : Bool
  has_wrong_length = not (eqb (length_field s) (length s))

  -- 5: n, L or a count outside its range
  unfoldable pub is_out_of_range : Bool
  is_out_of_range =
      not (within 1 max_atoms (atom_count s)) || not (within 1 max_layers (layer_count s))
      || not (within 0 max_arrows (section_count s (arrow_section s))) || not (within 0 max_rules (section_count s (rule_section s)))

  -- 6: a record's length not of its kind, a layer not below L, or a literal's fact not below n, but for the head of a constraint
  unfoldable pub has_bad_record : Bool
  has_bad_record =
      not (all (arrow_ok (layer_count s)) (arrow_records s)) || not (all (rule_ok (layer_count s) (atom_count s)) (rule_records s))

  -- 7: two equal arrows
  unfoldable pub repeats_arrow : Bool
  repeats_arrow = repeats (arrows_of s)

  -- 8: a layer below itself
  unfoldable pub has_cycle : Bool
  has_cycle = any (λ i. below (arrows_of s) i i) (up_to (layer_count s))

-- a cause, and whether it applies
pub record Test : Type 0 where
  pub cause : Cause
  pub applies : Bool

-- the causes of a book, in order of test
unfoldable pub tests : List ℕ → List Test
tests s =
    record { cause = TooShort; applies = is_too_short s }
    ∷ record { cause = WrongVersion; applies = has_wrong_version s }
    ∷ record { cause = WrongLength; applies = has_wrong_length s }
    ∷ record { cause = BrokenSection; applies = has_broken_section s }
    ∷ record { cause = OutOfRange; applies = is_out_of_range s }
    ∷ record { cause = BadRecord; applies = has_bad_record s }
    ∷ record { cause = RepeatedArrow; applies = repeats_arrow s }
    ∷ record { cause = Cycle; applies = has_cycle s }
    ∷ []

-- accepted, or refused for a cause
abbrev pub Verdict : Type 0
Verdict = Result (Unit {0}) Cause

-- the verdict of an answer that says more where it accepts
abbrev pub verdict_of : {A : Type 0} → Result A Cause → Verdict
verdict_of (Ok a) = Ok tt
verdict_of (Err c) = Err c

unfoldable pub verdict_if : Bool → Verdict → Verdict → Verdict
verdict_if true a b = a
verdict_if false a b = b

-- the first cause that applies; where none does, accepted
unfoldable pub first_of : List Test → Verdict
first_of [] = Ok tt
first_of (t ∷ ts) = verdict_if t.applies (Err t.cause) (first_of ts)

unfoldable pub verdict : List ℕ → Verdict
verdict s = first_of (tests s)
