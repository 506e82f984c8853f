-- Causes 16, 17 and 11 from what was read, and what the code of a condition is good for where none applies. Used by `read_condition`.
-- Assumes nothing.
use mathlib.Core.Path.{◌≡◌, refl, sym, ap, ◌∙◌}
use mathlib.Core.Bool.{Bool, true, false, not}
use mathlib.Core.List.{List}
use Prim.Native.Nat.{ℕ, ◌≤◌, ◌<◌}
use native.Mathlib.Decide.{dec_lt}
use native.Mathlib.Omega.{arith}
use borrow.Author.Tests.{lt-ltb, le-ltb}
use lib.Dec.{ltb}
use lib.ListN.{length}
use Rattle.grammar.specs.Conditions.{depth}
use Rattle.grammar.specs.Parse.{reading_of}
use Rattle.grammar.proofs.ParseLaws.{read_exactly, none_unread}
use Rattle.book.specs.Causes.{verdict_if, first_of}
use Rattle.book.specs.declared.Cause.TheVariants.{BadCondition, TooDeep, NoSuchFact}
use Rattle.std.specs.Prelude.{Err, Some}
use Rattle.std.proofs.Math.Bool.{or-true}
use Rattle.condition.specs.declared.Code.{Code}
use Rattle.condition.specs.Code.{odd, run, code_holds, StackFits, deepest, codes_below, peak}
use Rattle.condition.specs.Causes.{max_condition, max_depth, is_unread, is_deep, names_other, fits_in, is_bad_condition, is_too_deep, names_no_fact, condition_tests, fits_text}
use Rattle.condition.specs.Outcome.{NoReading, CompiledTo, CodedTo}
use Rattle.condition.proofs.DepthLaws.{deepest-depth}
use Rattle.condition.proofs.BelowLaws.{codes_names}
use Rattle.condition.proofs.StackLaws.{stack-low}
use Rattle.condition.proofs.RunLaws.{code_value}

pub bad_condition : (n : ℕ) (s : List ℕ) → NoReading s → first_of (condition_tests n s) ≡ Err BadCondition
unfolding condition_tests first_of verdict_if is_bad_condition is_unread
bad_condition n s h = go (dec_lt max_condition (length s))
  where
    go : Dec (max_condition < length s) → first_of (condition_tests n s) ≡ Err BadCondition
    go (yes k) = rw (lt-ltb max_condition (length s) k) refl
    go (no k) = rw (none_unread s (h (omega (arith, k))), or-true (ltb max_condition (length s))) refl

module _ {s : List ℕ} {codes : List Code} (h : CompiledTo s codes) (n : ℕ) where
  read : reading_of s ≡ Some h.tree
  read = (read_exactly s h.tree).1 h.reads

  good : is_bad_condition s ≡ false
  unfolding is_bad_condition is_unread
  good = rw (le-ltb max_condition (length s) h.short, read) refl

  deep_is : is_too_deep s ≡ ltb max_depth (depth h.tree)
  unfolding is_too_deep is_deep
  deep_is = ap is_deep read

  names_are : names_no_fact n s ≡ not (codes_below n codes)
  unfolding names_no_fact names_other
  names_are = ap (names_other n) read ∙ ap not (sym (codes_names n h.tree) ∙ ap (codes_below n) (sym h.wrote))

  module _ (d : ℕ) (e : d ≡ deepest 0 0 s) where
    pub too_deep : max_depth < d → first_of (condition_tests n s) ≡ Err TooDeep
    unfolding condition_tests first_of verdict_if
    too_deep k = rw (good, deep_is ∙ lt-ltb max_depth (depth h.tree) (omega (arith, e, deepest-depth h.reads))) refl

    module _ (k : d ≤ max_depth) (b : Bool) (f : b ≡ codes_below n codes) where
      shallow : is_too_deep s ≡ false
      shallow = deep_is ∙ le-ltb max_depth (depth h.tree) (omega (arith, e, deepest-depth h.reads))

      pub unknown_name : b ≡ false → first_of (condition_tests n s) ≡ Err NoSuchFact
      unfolding condition_tests first_of verdict_if
      unknown_name g = rw (good, shallow, names_are ∙ ap not (sym f ∙ g)) refl

      pub none_applies : b ≡ true → CodedTo s n codes
      unfolding condition_tests first_of verdict_if StackFits code_holds fits_text fits_in
      none_applies g = record {
        none = rw (good, shallow, names_are ∙ ap not (sym f ∙ g)) refl;
        stack = omega (arith, ap (peak 1) (h.wrote), stack-low h.reads (omega (arith, e, deepest-depth h.reads)));
        value = λ m. ap (λ (l : List Code). odd (run m l 0)) (h.wrote) ∙ code_value m h.tree ∙ sym (ap (fits_in m) read);
      }
