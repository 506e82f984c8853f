-- The readers' answer for a whole text: a reading and its code, or none. Used by `compile`. Assumes nothing.
use mathlib.Core.Path.{◌≡◌, refl, ap, subst, ◌∙◌}
use mathlib.Core.Bool.{Bool, true, false}
use mathlib.Core.List.{List, [], ◌++◌}
use Prim.Native.Nat.{ℕ, ◌≤◌, ◌<◌}
use native.Mathlib.Omega.{arith}
use borrow.Author.Tests.{eqb-true, eqb-false}
use lib.Dec.{eqb}
use lib.ListN.{length}
use Rattle.std.specs.Bool.{then_some}
use Rattle.std.proofs.lemmas.List.{nil_from_length}
use Rattle.grammar.specs.Conditions.{Condition}
use Rattle.grammar.specs.Reader.{disjunction, nothing, from, Took}
use Rattle.grammar.proofs.OneReadingLaws.{once, whole}
use Rattle.grammar.proofs.SoundLaws.{read_whole}
use Rattle.condition.specs.declared.Reader.{Reader}
use Rattle.condition.specs.declared.Code.{Code}
use Rattle.condition.specs.Code.{postfix, deepest}
use Rattle.condition.specs.Causes.{max_condition}
use Rattle.condition.specs.Outcome.{NoReading, CompiledTo, Compiles}
use Rattle.condition.specs.Readers.{Written}
use Rattle.condition.proofs.DepthLaws.{deepest-depth, depth-short}

pub long_text : (s : List ℕ) → max_condition < length s → NoReading s
long_text s h k a r = omega (arith, h, k)

pub deep_text : (s : List ℕ) (d : ℕ) → d ≡ deepest 0 0 s → 127 < d → NoReading s
deep_text s d e h k a r = omega (arith, e, h, k, deepest-depth r, depth-short r)

whole_text : {old new : Reader} → Written (from disjunction nothing) old new → old.code ≡ [] → length new.rest.now ≡ 0 → length old.rest.now ≤ max_condition → CompiledTo old.rest.now new.code
whole_text {old} {new} x b e k = record {
  tree = x.tree;
  short = k;
  reads = read_whole (subst (λ (l : List ℕ). Took (from disjunction nothing) old.rest.now x.tree l) (nil_from_length new.rest.now e) x.took);
  wrote = x.wrote ∙ ap (λ (l : List Code). l ++ postfix x.tree) b;
}

part_text : {old new : Reader} → Written (from disjunction nothing) old new → (length new.rest.now ≡ 0 → ⊥) → NoReading old.rest.now
part_text x n k a d = n (ap length (once x.took (whole d)).left)

pub no_text : (s : List ℕ) → ((w : Condition) (u : List ℕ) → Took (from disjunction nothing) s w u → ⊥) → NoReading s
no_text s h k a d = h a [] (whole d)

pub whole_or_none : (old new : Reader) → Written (from disjunction nothing) old new → old.code ≡ [] → length old.rest.now ≤ max_condition → Compiles old.rest.now (then_some (eqb (length new.rest.now) 0) new.code)
whole_or_none old new x b k = go (eqb (length new.rest.now) 0) refl
  where
    go : (t : Bool) → eqb (length new.rest.now) 0 ≡ t → Compiles old.rest.now (then_some t new.code)
    go true e = whole_text x b (eqb-true (length new.rest.now) 0 e) k
    go false e = part_text x (eqb-false (length new.rest.now) 0 e)
