-- An accepted book is what the table is made from: its rules' records follow one another to the book's end. Used by `prepare`.
-- Assumes nothing.
use mathlib.Core.Path.{◌≡◌, ap, subst}
use mathlib.Core.List.{List, map}
use Prim.Native.Nat.{ℕ, ◌+◌, ◌≤◌}
use native.Mathlib.Omega.{arith}
use lib.ListN.{length, drop}
use Rattle.layers.specs.Masks.{LowerMasks}
use Rattle.format.specs.Book.{records, section_records, rule_of, rule_section, rule_records, arrows_of, rules_of, book_of}
use Rattle.table.specs.Table.{RuleRecords, Prepared}
use Rattle.book.proofs.RangeLaws.{Ranges, ranges}
use Rattle.book.proofs.Accepted.{accepted_lawful}
use Rattle.accepted.specs.Accepted.{IsAccepted}
use Rattle.accepted.proofs.RangeFacts.{Sections, sections, rest_is}
use Rattle.accepted.proofs.RecordFacts.{RuleGood, good_rule, book-short}

module _ (s : List ℕ) (e : IsAccepted s) where
  whole_sections : Sections s
  whole_sections = sections s (accepted_lawful s e).not4

  in_ranges : Ranges s
  in_ranges = ranges s (accepted_lawful s e).not5

  section-rules : RuleRecords (section_records s (rule_section s))
  unfolding rule_records
  section-rules = record {
    whole = whole_sections.rules.meets;
    few = omega (arith, whole_sections.rules.count, in_ranges.rules_few);
    each = λ r k.
        let g : RuleGood _ _ r = good_rule s e r k in
        record { long = g.long; layer_low = omega (arith, g.layer_low, in_ranges.layers_few); atom_low = λ c. omega (arith, g.head_low c, in_ranges.atoms_few) };
  }

  starts_inside : rule_section s + 6 ≤ length s
  starts_inside = omega (arith, whole_sections.ends)

  rules_are : (book_of s).rules ≡ map rule_of (records (drop (rule_section s + 6) s))
  unfolding book_of rules_of rule_records
  rules_are = ap (λ (t : List ℕ). map rule_of (records t)) (rest_is s whole_sections)

  -- the rule section's records start at k
  pub prepared : (k : ℕ) → k ≡ rule_section s + 6 → (lower : List ℕ) → LowerMasks (arrows_of s) lower → Prepared s k lower
  unfolding book_of
  prepared k ek lower w = rw ek (record {
    rule_records_lem = subst RuleRecords (rest_is s whole_sections) section-rules;
    starts = starts_inside;
    short = book-short s e;
    rules_are = rules_are;
    lower_sound = λ i j h z. w.sound i j z;
    lower_full = λ i j g h z. w.full i j z;
  })
