-- With the set 0 cause 19 never applies, and the program is document 01's; a rule of an accepted book is in one of its layers. Used by
-- nothing that is proved of the code: these are for the reader. Assumes nothing.
use mathlib.Core.Path.{◌≡◌, refl, subst, ap, ◌∙◌}
use mathlib.Core.Bool.{false}
use mathlib.Core.List.Memᴰ
use mathlib.Core.List.{List, [], ◌∷◌, ◌++◌}
use Prim.Native.Nat.{ℕ, ◌<◌}
use lib.Dec.{T}
use Rattle.base.proofs.Members.{◌∈◌}
use Rattle.base.proofs.UpTo.{failed}
use Rattle.layers.proofs.BitLaws.{no_bit}
use Rattle.format.specs.Book.{Rule, rule_of, layer_count, rule_records, rules_of, book_of}
use Rattle.models.specs.Program.{Program, in_set}
use Rattle.models.specs.SwitchedOff.{EveryRuleOff}
use Rattle.models.proofs.SwitchedOffLaws.{nothing-off, all-off}
use Rattle.table.specs.Table.{program_of}
use Rattle.book.specs.Causes.{Test, tests, verdict_if, first_of, Verdict}
use Rattle.book.specs.declared.Cause.TheVariants.{NoSuchLayer}
use Rattle.std.specs.Prelude.{Err}
use Rattle.accepted.specs.Accepted.{IsAccepted}
use Rattle.accepted.specs.Driven.{is_no_such_layer, has_absent_layer, driven_tests, layer_tests}
use Rattle.accepted.specs.SwitchedOff.{whole_tests, NothingOff, AllOff}
use Rattle.accepted.proofs.DrivenLaws.{absent_from}
use Rattle.accepted.proofs.RecordFacts.{good_rule}

none_absent : (layers : ℕ) → has_absent_layer layers 0 ≡ false
none_absent layers = failed (has_absent_layer layers 0) (λ t. let v = absent_from layers 0 t in no_bit v.0 v.3)

-- tests that decide alike do so behind any others
first_behind : (xs ys zs rest : List Test) → first_of (ys ++ rest) ≡ first_of (zs ++ rest) → first_of (xs ++ ys ++ rest) ≡ first_of (xs ++ zs ++ rest)
unfolding first_of
first_behind [] ys zs rest e = e
first_behind (t ∷ xs) ys zs rest e = ap (verdict_if t.applies (Err t.cause)) (first_behind xs ys zs rest e)

same-verdict : (s : List ℕ) (layer : ℕ) (rest : List Test) → first_of (layer_tests s layer 0 ++ rest) ≡ first_of (whole_tests s layer ++ rest)
unfolding layer_tests whole_tests driven_tests first_of verdict_if
same-verdict s layer rest =
    first_behind (tests s) (driven_tests (layer_count s) layer 0) (record { cause = NoSuchLayer; applies = is_no_such_layer (layer_count s) layer } ∷ []) rest
    (rw (none_absent (layer_count s)) refl)

pub answers_none : NothingOff
answers_none A rest answer s layer =
    ap (λ (v : Verdict). answer v (program_of s layer 0)) (same-verdict s layer (rest (program_of s layer 0)))
    ∙ ap (λ (P : Program). answer (first_of (whole_tests s layer ++ rest P)) P) (nothing-off.same_program (book_of s) layer)

module _ (s : List ℕ) (e : IsAccepted s) (off : ℕ) (h : (i : ℕ) → i < layer_count s → T (in_set off i)) where
  rules-off : EveryRuleOff (book_of s) off
  unfolding book_of rules_of
  rules-off r k =
      let v : (x : List ℕ) × x ∈ rule_records s × (rule_of x ≡ r) = Memᴰ.of_map rule_of (rule_records s) k in
      h r.layer (subst (λ (t : Rule). t.layer < layer_count s) v.2 (good_rule s e v.0 v.1).layer_low)

pub every-layer-off : AllOff
every-layer-off s e layer off h =
    (all-off.one_state (book_of s) layer off (rules-off s e off h), all-off.none_branch (book_of s) layer off (rules-off s e off h))
