-- What acceptance says of the book's numbers and of its two sections. `atom_count` and `prepare` cite it, and RecordFacts
-- builds on it. Assumes nothing.
use mathlib.Core.Path.{◌≡◌, refl}
use mathlib.Core.Bool.{Bool, true, false, not, ◌&&◌, ◌||◌}
use mathlib.Core.List.{List}
use Prim.Native.Nat.{ℕ, ◌+◌, ◌<◌, ◌≤◌}
use native.Mathlib.Omega.{arith}
use borrow.Author.Tests.{leb-true, eqb-true, not-false}
use lib.Dec.{leb, eqb}
use lib.ListN.{length, drop, length-drop, length-take}
use lib.Seq.{take_all}
use Rattle.base.specs.Bounds.{max_atoms, max_layers}
use Rattle.format.specs.Book.{records, meets_end, section_bytes, section_count, section_end, section_records, atom_count, rule_section, book_of}
use Rattle.format.specs.Sections.{whole_section, has_broken_section}
use Rattle.format.proofs.SectionLaws.{or_first, or_second}
use Rattle.layers.proofs.BitLaws.{and_left, and_right}
use Rattle.book.proofs.Accepted.{accepted_lawful}
use Rattle.book.proofs.RangeLaws.{Ranges, ranges}
use Rattle.accepted.specs.Accepted.{IsAccepted}

-- a whole section: it lies inside the book, its records meet its end, and they are as many as it says
pub record Whole (s : List ℕ) (at : ℕ) : Type 0 where
  pub inside : at + 6 + section_bytes s at ≤ length s
  pub meets : meets_end (section_records s at) ≡ true
  pub count : length (records (section_records s at)) ≡ section_count s at

whole : (s : List ℕ) (at : ℕ) → whole_section s at ≡ true → Whole s at
unfolding whole_section section_end
whole s at e =
    let a : Bool = leb (at + 6 + section_bytes s at) (length s) in
    let b : Bool = meets_end (section_records s at) in
    let c : Bool = eqb (length (records (section_records s at))) (section_count s at) in
    let ab : (a && b) ≡ true = and_left (a && b) c e in
    record {
      inside = leb-true (at + 6 + section_bytes s at) (length s) (and_left a b ab);
      meets = and_right a b ab;
      count = eqb-true (length (records (section_records s at))) (section_count s at) (and_right (a && b) c e);
    }

-- so the header of an accepted book can be read
pub whole_book : (s : List ℕ) → IsAccepted s → has_broken_section s ≡ false
whole_book s e = (accepted_lawful s e).not4

-- both sections are whole, and the second ends the book
pub record Sections (s : List ℕ) : Type 0 where
  pub arrows : Whole s 8
  pub rules : Whole s (rule_section s)
  pub second : rule_section s ≡ 14 + section_bytes s 8
  pub ends : rule_section s + 6 + section_bytes s (rule_section s) ≡ length s

pub sections : (s : List ℕ) → has_broken_section s ≡ false → Sections s
unfolding has_broken_section section_end rule_section
sections s e =
    let a : Bool = not (whole_section s 8) in
    let b : Bool = not (whole_section s (rule_section s)) in
    let c : Bool = not (eqb (section_end s (rule_section s)) (length s)) in
    let ab : (a || b) ≡ false = or_first (a || b) c e in
    record {
      arrows = whole s 8 (not-false (whole_section s 8) (or_first a b ab));
      rules = whole s (rule_section s) (not-false (whole_section s (rule_section s)) (or_second a b ab));
      second = refl;
      ends = eqb-true (section_end s (rule_section s)) (length s) (not-false (eqb (section_end s (rule_section s)) (length s)) (or_second (a || b) c e));
    }

-- the records of a whole section take as many bytes as it says
pub section-length : (s : List ℕ) (at : ℕ) → Whole s at → length (section_records s at) ≡ section_bytes s at
unfolding section_records
section-length s at w = simp (length-take, length-drop) (omega (arith, w.inside))

-- the second section's bytes are the rest of the book
pub rest_is : (s : List ℕ) → Sections s → section_records s (rule_section s) ≡ drop (rule_section s + 6) s
unfolding section_records
rest_is s w = take_all (section_bytes s (rule_section s)) (drop (rule_section s + 6) s) (simp length-drop (omega (arith, w.ends)))

module _ (s : List ℕ) (e : IsAccepted s) where
  -- the number of facts, as the code reads it
  pub atoms_are : (n : ℕ) → n ≡ atom_count s → (n ≡ (book_of s).atoms) × (0 < n) × (n ≤ max_atoms)
  unfolding book_of
  atoms_are n q = let r : Ranges s = ranges s (accepted_lawful s e).not5 in (q, omega (arith, r.some_atom), omega (arith, r.atoms_few))

  pub layer_low : (layer : ℕ) → layer < (book_of s).layers → layer < max_layers
  unfolding book_of
  layer_low layer h = let r : Ranges s = ranges s (accepted_lawful s e).not5 in omega (arith, r.layers_few)
