-- The hypotheses of `SameLesson` can be tested: the layers at or below the driven one are a list, and so are a book's rules. Each test is
-- sound, and for the two books of specs/TwoBooks.antt each passes by computation. Assumes nothing.
use mathlib.Core.Path.{◌≡◌, refl, ap, sym, subst}
use mathlib.Core.Logic.{◌⊎◌, inl, inr}
use mathlib.Core.Bool.{Bool, not, ◌&&◌, ◌||◌, beq}
use mathlib.Core.List.Memᴰ
use mathlib.Core.List.{List, ◌∷◌}
use Prim.Native.Nat.{ℕ}
use native.Mathlib.Omega.{arith}
use lib.Dec.{T, T_not, eqb, eqb_refl, eqb→eq}
use lib.ListN.{get_or}
use Rattle.base.specs.Lists.{cons_if, all, any, filter, flat, up_to}
use Rattle.base.specs.Closure.{member, fires, extend, saturate, closure}
use Rattle.base.proofs.Members.{◌∈◌, and_left, and_right, or_cases, all_at, any_at, same_test}
use Rattle.base.proofs.ClosureLaws.{member-sound, member_complete}
use Rattle.layers.specs.Layers.{same_arrow, repeats, backwards, layers_below, below}
use Rattle.format.specs.Book.{Literal, Rule, Book, u16_at, u32_at, records_in, records, meets_end_in, meets_end, section_bytes, section_count, section_end, section_records, literal_of, literals_of, arrow_of, rule_of, is_falsity, version, length_field, atom_count, layer_count, rule_section, arrow_records, rule_records, arrows_of, rules_of, book_of}
use Rattle.format.specs.Sections.{whole_section, has_broken_section}
use Rattle.models.specs.Program.{in_set, AtOrBelow}
use Rattle.models.specs.StableModels.{same_literal}
use Rattle.models.specs.Alike.{SameRule, HasRule}
use Rattle.models.specs.Examples.{framed, section, bytes_of, p, not_p, q, not_q, never, rule_in, arrow}
use Rattle.models.proofs.LeastLaws.{beq_same, literal_same}
use Rattle.book.specs.Causes.{within, arrow_ok, rule_length, atom_below, head_ok, rule_ok, is_too_short, has_wrong_version, has_wrong_length, is_out_of_range, has_bad_record, repeats_arrow, has_cycle, tests, verdict_if, first_of, verdict}
use Rattle.accepted.specs.Driven.{is_no_such_layer, has_absent_layer, driven_tests}
use Rattle.other_layers.specs.TwoBooks.{before, after, Edited}

-- ---- the same rule
has_all : List Literal → List Literal → Bool
has_all xs ys = all (λ l. any (same_literal l) ys) xs

writes : Rule → Rule → Bool
writes r t = (eqb r.layer t.layer && same_literal r.head t.head) && (has_all r.body t.body && has_all t.body r.body)

has_all_lem : (xs ys : List Literal) → T (has_all xs ys) → (l : Literal) → l ∈ xs → l ∈ ys
unfolding has_all
has_all_lem xs ys t l k =
    let v : (x : Literal) × x ∈ ys × T (same_literal l x) = any_at (same_literal l) ys (all_at (λ l. any (same_literal l) ys) t k) in
    subst (λ (x : Literal). x ∈ ys) (sym (literal_same l v.0 v.2)) v.1

same_rule : (r t : Rule) → T (writes r t) → SameRule r t
unfolding writes
same_rule r t w =
    let heads : Bool = eqb r.layer t.layer && same_literal r.head t.head in
    let bodies : Bool = has_all r.body t.body && has_all t.body r.body in
    let h : T heads = and_left heads bodies w in
    let b : T bodies = and_right heads bodies w in
    record {
      layer_same = eqb→eq r.layer t.layer (and_left (eqb r.layer t.layer) (same_literal r.head t.head) h);
      head_same = literal_same r.head t.head (and_right (eqb r.layer t.layer) (same_literal r.head t.head) h);
      body_same = λ l. (
        has_all_lem r.body t.body (and_left (has_all r.body t.body) (has_all t.body r.body) b) l,
        has_all_lem t.body r.body (and_right (has_all r.body t.body) (has_all t.body r.body) b) l,
      );
    }

-- ---- from the one book to the other
-- the layer, and those below it
lower : Book → ℕ → List ℕ
lower b layer = layer ∷ layers_below b.arrows layer

in_lower : (b : Book) (layer i : ℕ) → AtOrBelow b layer i → i ∈ lower b layer
unfolding lower below
in_lower b layer i (inl e) = Memᴰ.head e
in_lower b layer i (inr t) = Memᴰ.tail (member-sound eqb eqb→eq eqb_refl i (layers_below b.arrows layer) t)

module _ (b c : Book) (layer : ℕ) where
  below_too : Bool
  below_too = all (λ i. below c.arrows i layer) (layers_below b.arrows layer)

  below_too_lem : T below_too → (i : ℕ) → T (below b.arrows i layer) → T (below c.arrows i layer)
  unfolding below_too below
  below_too_lem t i u = all_at (λ i. below c.arrows i layer) t (member-sound eqb eqb→eq eqb_refl i (layers_below b.arrows layer) u)

  rules_too : Bool
  rules_too = all (λ r. not (member eqb r.layer (lower b layer)) || any (writes r) c.rules) b.rules

  rules_too_lem : T rules_too → (r : Rule) → r ∈ b.rules → AtOrBelow b layer r.layer → HasRule c.rules r
  unfolding rules_too
  rules_too_lem t r k h =
      let counts : Bool = member eqb r.layer (lower b layer) in
      let found : Bool = any (writes r) c.rules in
      go (or_cases (not counts) found (all_at (λ r. not (member eqb r.layer (lower b layer)) || any (writes r) c.rules) t k))
    where
      go : T (not (member eqb r.layer (lower b layer))) ⊎ T (any (writes r) c.rules) → HasRule c.rules r
      go (inl n) = absurd (T_not (member eqb r.layer (lower b layer)) n (member_complete eqb eqb→eq eqb_refl (in_lower b layer r.layer h)))
      go (inr u) = let v : (x : Rule) × x ∈ c.rules × T (writes r x) = any_at (writes r) c.rules u in (v.0, v.1, same_rule r v.0 v.2)

  same_order : Bool
  same_order = all (λ i. all (λ j. beq (below b.arrows i j) (below c.arrows i j)) (lower b layer)) (lower b layer)

  same_order_lem : T same_order → (i j : ℕ) → AtOrBelow b layer i → AtOrBelow b layer j → below b.arrows i j ≡ below c.arrows i j
  unfolding same_order
  same_order_lem t i j h k =
      beq_same (below b.arrows i j) (below c.arrows i j)
      (all_at (λ j. beq (below b.arrows i j) (below c.arrows i j)) (all_at (λ i. all (λ j. beq (below b.arrows i j) (below c.arrows i j)) (lower b layer)) t (in_lower b layer i h)) (in_lower b layer j k))

same_set : Book → ℕ → ℕ → ℕ → Bool
same_set b layer off off' = all (λ i. beq (in_set off i) (in_set off' i)) (lower b layer)

same_set_lem : (b : Book) (layer off off' : ℕ) → T (same_set b layer off off') → (i : ℕ) → AtOrBelow b layer i → in_set off i ≡ in_set off' i
unfolding same_set
same_set_lem b layer off off' t i h = beq_same (in_set off i) (in_set off' i) (all_at (λ i. beq (in_set off i) (in_set off' i)) t (in_lower b layer i h))

-- ---- the two books
pub edited : Edited
unfolding before after has_all writes lower below_too rules_too same_order same_set cons_if all any filter flat up_to member fires extend saturate closure same_arrow repeats backwards layers_below below u16_at u32_at records_in records meets_end_in meets_end section_bytes section_count section_end section_records literal_of literals_of arrow_of rule_of is_falsity version length_field atom_count layer_count rule_section arrow_records rule_records arrows_of rules_of book_of whole_section has_broken_section in_set same_literal framed section bytes_of p not_p q not_q never rule_in arrow within arrow_ok rule_length atom_below head_ok rule_ok is_too_short has_wrong_version has_wrong_length is_out_of_range has_bad_record repeats_arrow has_cycle tests verdict_if first_of verdict is_no_such_layer has_absent_layer driven_tests
edited = (
  record {
    accepted = refl;
    other_accepted = refl;
    facts_same = refl;
    driven = refl;
    other_driven = refl;
    below_same = λ i.
        same_test (below (book_of before).arrows i 2) (below (book_of after).arrows i 2) (below_too_lem (book_of before) (book_of after) 2 tt i) (below_too_lem (book_of after) (book_of before) 2 tt i);
    off_same = same_set_lem (book_of before) 2 8 48 tt;
    rules_kept = rules_too_lem (book_of before) (book_of after) 2 tt;
    no_more_rules = rules_too_lem (book_of after) (book_of before) 2 tt;
    order_same = same_order_lem (book_of before) (book_of after) 2 tt;
  },
  λ e. let z : ◌≡◌ {A = ℕ} 4 6 = ap (λ (s : List ℕ). get_or s 7 0) e in omega (arith, z),
)
