-- Where cause 4 does not apply: a section that is whole has room for its fields, and which bytes of the book are which records. Used by
-- broken_section; the crate `book` reads the sections by `arrow_part` and `rule_part`. Assumes nothing.
use mathlib.Core.Path.{◌≡◌, refl, sym, ap}
use mathlib.Core.Bool.{Bool, true, false, not, ◌||◌, false≢true}
use mathlib.Core.List.{List}
use Prim.Native.Nat.{ℕ, ◌+◌, ◌-◌, ◌≤◌}
use native.Mathlib.Omega.{arith}
use borrow.Author.Tests.{leb-true, eqb-true, not-false}
use lib.Dec.{eqb}
use lib.ListN.{length, take, drop}
use Rattle.format.specs.Book.{u32_at, records, section_bytes, section_end, section_records, rule_section, arrow_records, rule_records}
use Rattle.format.specs.Sections.{whole_section, has_broken_section}
use Rattle.layers.proofs.BitLaws.{and_left}

-- neither of two tests that fail together passes
pub or_first : (a b : Bool) → (a || b) ≡ false → a ≡ false
or_first true b e = e
or_first false b e = refl

pub or_second : (a b : Bool) → (a || b) ≡ false → b ≡ false
or_second true b e = absurd (false≢true (sym e))
or_second false b e = e

pub section_inside : (s : List ℕ) (at : ℕ) → whole_section s at ≡ true → at + 6 + u32_at s at ≤ length s
unfolding whole_section section_end section_bytes
section_inside s at e = leb-true (at + 6 + u32_at s at) (length s) (and_left _ _ (and_left _ _ e))

-- what follows where cause 4 does not apply: the fields are there, and the rule section ends the book
pub record Laid (s : List ℕ) : Type 0 where
  pub first_in : 14 ≤ rule_section s
  pub second_in : rule_section s + 6 + section_bytes s (rule_section s) ≡ length s

pub laid : (s : List ℕ) → has_broken_section s ≡ false → Laid s
unfolding has_broken_section rule_section section_end
laid s e = record {
  first_in = omega arith;
  second_in = eqb-true (section_end s (rule_section s)) (length s) (not-false (eqb (section_end s (rule_section s)) (length s)) (or_second (not (whole_section s 8) || not (whole_section s (rule_section s))) (not (eqb (section_end s (rule_section s)) (length s))) e));
}

-- the two parts, as the code cuts them
module _ (s : List ℕ) (k : ℕ) (ek : k ≡ rule_section s) where
  pub arrow_part : records (take (k - 14) (drop 14 s)) ≡ arrow_records s
  unfolding arrow_records section_records rule_section section_end
  arrow_part = ap (λ (i : ℕ). records (take i (drop 14 s))) {x = k - 14} {y = section_bytes s 8} (omega arith)

  pub rule_part : Laid s → records (take (length s - (k + 6)) (drop (k + 6) s)) ≡ rule_records s
  unfolding rule_records section_records
  rule_part w =
      rw ek (ap (λ (i : ℕ). records (take i (drop (rule_section s + 6) s))) {x = length s - (rule_section s + 6)} {y = section_bytes s (rule_section s)} (omega (arith, w.second_in)))
