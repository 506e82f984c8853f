-- The starred examples hold of the call: that causes 1 to 9, 19 and 12 do not apply is one computed test over the table, the listing's
-- bytes and g are those of `examples_say`, and k is read from the bytes by condition 3. Assumes nothing.
use mathlib.Core.Path.{◌≡◌, refl, sym, ap, subst, ◌∙◌}
use mathlib.Core.Bool.{Bool, true, false, ◌&&◌}
use mathlib.Core.List.{List, ◌++◌, append-nil}
use Prim.Native.Nat.{ℕ, ◌≤◌}
use native.Mathlib.Omega.{arith}
use borrow.Author.Tests.{le-ltb}
use lib.Dec.{T, leb, leb→le}
use lib.ListN.{length, drop}
use lib.Seq.{drop-length}
use Rattle.base.specs.Bounds.{max_branching}
use Rattle.base.specs.Lists.{cons_if, all, any, filter, flat, up_to}
use Rattle.base.specs.Closure.{member, fires, extend, saturate, closure}
use Rattle.base.proofs.Members.{◌∈◌, and_left, and_right, all_at}
use Rattle.layers.specs.Layers.{same_arrow, repeats, backwards, layers_below, below}
use Rattle.format.specs.Book.{u16_at, u32_at, records_in, records, meets_end_in, meets_end, section_bytes, section_count, section_end, section_records, literal_of, literals_of, arrow_of, rule_of, is_falsity, version, length_field, atom_count, layer_count, rule_section, arrow_records, rule_records, arrows_of}
use Rattle.format.specs.Sections.{whole_section, has_broken_section}
use Rattle.models.specs.Program.{Program, in_set}
use Rattle.models.specs.Branching.{branching_count}
use Rattle.models.specs.Listing.{stable_models, listing}
use Rattle.models.specs.Examples.{Example, framed, section, bytes_of, p, not_p, q, not_q, never, rule_in, arrow, book_b, table, seen}
use Rattle.models.proofs.ExampleLaws.{examples_say}
use Rattle.table.specs.Table.{program_of}
use Rattle.book.specs.Causes.{within, arrow_ok, rule_length, atom_below, head_ok, rule_ok, is_too_short, has_wrong_version, has_wrong_length, is_out_of_range, has_bad_record, repeats_arrow, has_cycle, tests, verdict_if, first_of, Verdict}
use Rattle.accepted.specs.Driven.{is_no_such_layer, has_absent_layer, driven_tests, layer_tests}
use Rattle.accepted.proofs.DrivenLaws.{driven}
use Rattle.accepted.proofs.FirstLaws.{first_append}
use Rattle.passes.specs.Limit.{has_too_many_branching}
use Rattle.std.proofs.Common.{Ok, Err}
use Rattle.list_call.specs.Reply.{room_tests, search_tests, list_tests, reply_of, buffer_of, list_reply, list_buffer}
use Rattle.list_call.specs.Examples.{state_count, ExampleAnswered, ExamplesAnswered}
use Rattle.list_call.proofs.Condition3Laws.{lists-exactly}

accepts : Verdict → Bool
accepts (Ok tt) = true
accepts (Err c) = false

-- none of causes 1 to 9 and 19 applies, and g is at most 20
lawful : Example → Bool
lawful e = accepts (first_of (layer_tests e.book e.layer 0)) && leb e.branches max_branching

all_lawful : T (all lawful table)
unfolding accepts lawful cons_if all any filter flat up_to member fires extend saturate closure same_arrow repeats backwards layers_below below u16_at u32_at records_in records meets_end_in meets_end section_bytes section_count section_end section_records literal_of literals_of arrow_of rule_of is_falsity version length_field atom_count layer_count rule_section arrow_records rule_records arrows_of whole_section has_broken_section framed section bytes_of p not_p q not_q never rule_in arrow book_b table within arrow_ok rule_length atom_below head_ok rule_ok is_too_short has_wrong_version has_wrong_length is_out_of_range has_bad_record repeats_arrow has_cycle tests verdict_if first_of is_no_such_layer has_absent_layer driven_tests layer_tests in_set
all_lawful = tt

accepts_says : (v : Verdict) → T (accepts v) → v ≡ Ok tt
unfolding accepts
accepts_says (Ok x) t = refl
accepts_says (Err c) t = absurd t

module _ (e : Example) (i : e ∈ table) where
  abbrev P : Program
  P = program_of e.book e.layer 0

  listing_is : listing P ≡ e.written
  unfolding seen
  listing_is = (examples_say e i).0

  branches_are : branching_count P ≡ e.branches
  unfolding seen
  branches_are = (examples_say e i).1

  layer-accepted : first_of (layer_tests e.book e.layer 0) ≡ Ok tt
  unfolding lawful
  layer-accepted = accepts_says (first_of (layer_tests e.book e.layer 0)) (and_left (accepts (first_of (layer_tests e.book e.layer 0))) (leb e.branches max_branching) (all_at lawful all_lawful i))

  few : branching_count P ≤ max_branching
  unfolding lawful
  few = subst (λ (g : ℕ). g ≤ max_branching) (sym branches_are) (leb→le e.branches max_branching (and_right (accepts (first_of (layer_tests e.book e.layer 0))) (leb e.branches max_branching) (all_at lawful all_lawful i)))

  module _ (buffer : List ℕ) (room : length e.written ≤ length buffer) where
    granted : first_of (list_tests e.book e.layer 0 (length buffer)) ≡ Ok tt
    unfolding list_tests search_tests room_tests first_of verdict_if has_too_many_branching
    granted =
        first_append (layer_tests e.book e.layer 0) (search_tests P (length buffer)) layer-accepted
        ∙ rw (le-ltb max_branching (branching_count P) few, le-ltb (length buffer) (length (listing P)) (omega (arith, ap length listing_is))) refl

    counts : list_reply e.book e.layer 0 buffer ≡ Ok (record { states = length (stable_models P); branching = branching_count P })
    unfolding list_reply reply_of
    counts = rw granted refl

    writes : list_buffer e.book e.layer 0 buffer ≡ e.written ++ drop (length e.written) buffer
    unfolding list_buffer buffer_of
    writes = rw granted (ap (λ (s : List ℕ). s ++ drop (length s) buffer) listing_is)

  -- the listing of a buffer that has just the room is the example's bytes, and condition 3 reads k from its head
  states_are : length (stable_models P) ≡ state_count e
  states_are =
      let own : length e.written ≤ length e.written = omega arith in
      sym (lists-exactly (record { book = e.book; layer = e.layer; off = 0; buffer = e.written }) (length (stable_models P)) (branching_count P) (counts e.written own)).head_count
      ∙ ap (λ (s : List ℕ). u32_at s 7) (writes e.written own ∙ ap (λ (s : List ℕ). e.written ++ s) (drop-length e.written) ∙ append-nil e.written)

  answered : ExampleAnswered e
  answered = record {
    accepted = (driven e.book e.layer 0 layer-accepted).0;
    answer = λ buffer room. counts buffer room ∙ (λ i. Ok (record { states = states_are i; branching = branches_are i }));
    bytes = writes;
  }

-- The starred examples, of the call: the bytes, k and g of the table, in every buffer that has room.
pub examples_answered : ExamplesAnswered
examples_answered = answered
