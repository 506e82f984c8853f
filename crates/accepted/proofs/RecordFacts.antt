-- What acceptance says of the records: each rule's record has a layer, a head, unless it is a constraint, and a body within the bounds, so the program at any
-- layer is well formed, and the book is short. PreparedLaws and the calls above cite it. Assumes nothing.
use mathlib.Core.Path.{◌≡◌, sym, ap, subst, ◌∙◌}
use mathlib.Core.Logic.{⊎_elim}
use mathlib.Core.Bool.{Bool, false, not, ◌&&◌, ◌||◌}
use mathlib.Core.List.Memᴰ
use mathlib.Core.List.{List}
use Prim.Native.Nat.{ℕ, ◌+◌, ◌*◌, ◌<◌, ◌≤◌}
use native.Mathlib.Omega.{arith}
use borrow.Author.Tests.{ltb-true, eqb-true, not-false}
use lib.Dec.{T, T_not, eqb, ltb, eqb→eq}
use lib.ListN.{length}
use Rattle.base.specs.Lists.{all, up_to}
use Rattle.base.proofs.Members.{◌∈◌, or_cases, and_left, and_right, filter-from, all_at, any_at}
use Rattle.base.proofs.UpTo.{passed, failed, true_of, up_to_lt}
use Rattle.format.specs.Book.{Literal, Rule, records, section_records, arrow_of, rule_of, is_falsity, is_constraint, atom_count, layer_count, rule_section, arrow_records, rule_records, rules_of, book_of}
use Rattle.format.proofs.SectionLaws.{or_first, or_second}
use Rattle.models.specs.Program.{relevant, program_at}
use Rattle.models.specs.StableModels.{WellFormed}
use Rattle.table.specs.Table.{program_of}
use Rattle.book.specs.Causes.{arrow_ok, rule_length, atom_below, head_ok, rule_ok, has_bad_record}
use Rattle.book.proofs.RangeLaws.{Ranges, ranges}
use Rattle.book.proofs.Accepted.{accepted_lawful, meets_short}
use Rattle.accepted.specs.Accepted.{IsAccepted}
use Rattle.accepted.proofs.RangeFacts.{Sections, sections, section-length}

pub record RuleGood (l n : ℕ) (r : List ℕ) : Type 0 where
  pub long : 3 ≤ length r
  pub short : length r ≤ 35
  pub layer_low : (rule_of r).layer < l
  pub head_low : is_constraint (rule_of r) ≡ false → (rule_of r).head.atom < n
  pub body_low : (x : Literal) → x ∈ (rule_of r).body → x.atom < n

length_in : (k : ℕ) → T (rule_length k) → (3 ≤ k) × (k ≤ 35)
unfolding rule_length
length_in k t =
    let w : (b : ℕ) × b ∈ up_to 17 × T (eqb k (3 + 2 * b)) = any_at (λ b. eqb k (3 + 2 * b)) (up_to 17) t in
    let h : w.0 < 17 = up_to_lt 17 w.0 w.1 in
    let q : k ≡ 3 + 2 * w.0 = eqb→eq k (3 + 2 * w.0) w.2 in
    (omega arith, omega arith)

atom_low : (n : ℕ) (x : Literal) → T (atom_below n x) → x.atom < n
unfolding atom_below
atom_low n x t = ltb-true x.atom n (passed (ltb x.atom n) t)

head_low : (n : ℕ) (r : List ℕ) → T (head_ok n (rule_of r).head) → is_constraint (rule_of r) ≡ false → (rule_of r).head.atom < n
unfolding head_ok is_constraint
head_low n r t e =
    ⊎_elim (λ u. atom_low n (rule_of r).head u) (λ u. absurd (subst T e u)) (or_cases (atom_below n (rule_of r).head) (is_falsity (rule_of r).head) t)

rule_good : (l n : ℕ) (r : List ℕ) → T (rule_ok l n r) → RuleGood l n r
unfolding rule_ok
rule_good l n r t =
    let a : Bool = rule_length (length r) in
    let b : Bool = ltb (rule_of r).layer l in
    let c : Bool = head_ok n (rule_of r).head in
    let d : Bool = all (atom_below n) (rule_of r).body in
    let abc : T (a && b && c) = and_left (a && b && c) d t in
    let ab : T (a && b) = and_left (a && b) c abc in
    record {
      long = (length_in (length r) (and_left a b ab)).0;
      short = (length_in (length r) (and_left a b ab)).1;
      layer_low = ltb-true (rule_of r).layer l (passed b (and_right a b ab));
      head_low = head_low n r (and_right (a && b) c abc);
      body_low = λ x k. atom_low n x (all_at (atom_below n) (and_right (a && b && c) d t) k);
    }

arrow-size : (l : ℕ) (r : List ℕ) → T (arrow_ok l r) → length r ≤ 2
unfolding arrow_ok
arrow-size l r t =
    let a : Bool = eqb (length r) 2 in
    let b : Bool = ltb (arrow_of r).earlier l in
    omega (arith, eqb-true (length r) 2 (passed a (and_left a b (and_left (a && b) (ltb (arrow_of r).later l) t))))

module _ (s : List ℕ) (e : IsAccepted s) where
  records_good : (T (all (arrow_ok (layer_count s)) (arrow_records s))) × (T (all (rule_ok (layer_count s) (atom_count s)) (rule_records s)))
  unfolding has_bad_record
  records_good =
      let a : Bool = all (arrow_ok (layer_count s)) (arrow_records s) in
      let b : Bool = all (rule_ok (layer_count s) (atom_count s)) (rule_records s) in
      let z : (not a || not b) ≡ false = (accepted_lawful s e).not6 in
      (true_of a (not-false a (or_first (not a) (not b) z)), true_of b (not-false b (or_second (not a) (not b) z)))

  pub good_rule : (r : List ℕ) → r ∈ rule_records s → RuleGood (layer_count s) (atom_count s) r
  good_rule r k = rule_good (layer_count s) (atom_count s) r (all_at (rule_ok (layer_count s) (atom_count s)) records_good.1 k)

  -- at most 496 arrow records of 3 bytes and 1,024 rule records of at most 36
  pub book-short : length s < 65536
  unfolding arrow_records rule_records
  book-short =
      let w : Sections s = sections s (accepted_lawful s e).not4 in
      let g : Ranges s = ranges s (accepted_lawful s e).not5 in
      let a : length (section_records s 8) ≤ length (records (section_records s 8)) * 3 =
      meets_short (section_records s 8) 2 w.arrows.meets (λ r k. arrow-size (layer_count s) r (all_at (arrow_ok (layer_count s)) records_good.0 k)) in
      let b : length (section_records s (rule_section s)) ≤ length (records (section_records s (rule_section s))) * 36 =
      meets_short (section_records s (rule_section s)) 35 w.rules.meets (λ r k. (good_rule r k).short) in
      omega (arith, section-length s 8 w.arrows, section-length s (rule_section s) w.rules, w.arrows.count, w.rules.count, g.arrows_few, g.rules_few, w.second, w.ends)

  -- a rule of the program at a layer stands for a record of the book, which is no constraint
  rule_from : (layer off : ℕ) (r : Rule) → r ∈ (program_of s layer off).rules → (x : List ℕ) × x ∈ rule_records s × (rule_of x ≡ r) × (is_constraint r ≡ false)
  unfolding program_at book_of rules_of
  rule_from layer off r k =
      let v : r ∈ rules_of s × T (relevant (book_of s) layer off r && not (is_constraint r)) = filter-from (λ r. relevant (book_of s) layer off r && not (is_constraint r)) (rules_of s) k in
      let u : (x : List ℕ) × x ∈ rule_records s × (rule_of x ≡ r) = Memᴰ.of_map rule_of (rule_records s) v.0 in
      (u.0, u.1, u.2, failed (is_constraint r) (T_not (is_constraint r) (and_right (relevant (book_of s) layer off r) (not (is_constraint r)) v.1)))

  -- every literal of the program at a layer names a fact of the book
  pub accepted-formed : (layer off : ℕ) → WellFormed (program_of s layer off)
  unfolding program_at book_of
  accepted-formed layer off = record {
    heads = λ r k.
        let v = rule_from layer off r k in
        subst (λ (t : Rule). t.head.atom < atom_count s) v.2 ((good_rule v.0 v.1).head_low (ap is_constraint v.2 ∙ v.3));
    bodies = λ r k l i.
        let v = rule_from layer off r k in
        (good_rule v.0 v.1).body_low l (subst (λ (t : Rule). l ∈ t.body) (sym v.2) i);
  }

-- the book's facts are those of its program at any layer
pub program_atoms : (book : List ℕ) (layer off n : ℕ) → n ≡ (book_of book).atoms → n ≡ (program_of book layer off).atoms
unfolding program_at
program_atoms book layer off n e = e
