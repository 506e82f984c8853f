-- Every code of a condition is below n exactly if every name is. Used by `read_condition`. Assumes nothing.
use mathlib.Core.Path.{◌≡◌, refl, ap, ◌∙◌}
use mathlib.Core.Bool.{Bool, true, ◌&&◌}
use mathlib.Core.List.{List, [], ◌∷◌, ◌++◌}
use Prim.Native.Nat.{ℕ}
use Rattle.std.proofs.Math.Bool.{and-true}
use Rattle.std.proofs.lemmas.List.Folds.{list_all-append}
use Rattle.grammar.specs.Conditions.{Condition, Atom, Not, And, Or, Bracket, names_below}
use Rattle.condition.specs.declared.Code.{Code}
use Rattle.condition.specs.declared.Code.TheVariants as code
use Rattle.condition.specs.Code.{postfix, code_below, codes_below}

operator_last : (n : ℕ) (c : Code) (s : List Code) → code_below n c ≡ true → codes_below n (s ++ (c ∷ [])) ≡ codes_below n s
operator_last n c s h = list_all-append (code_below n) s (c ∷ []) ∙ ap (λ (x : Bool). codes_below n s && (x && true)) h ∙ and-true (codes_below n s)

pub codes_names : (n : ℕ) (w : Condition) → codes_below n (postfix w) ≡ names_below n w
unfolding postfix names_below
codes_names n (Atom f) = and-true (code_below n (code.Name f))
codes_names n (Not a) = operator_last n code.Not (postfix a) refl ∙ codes_names n a
codes_names n (And a b) =
    list_all-append (code_below n) (postfix a) (postfix b ++ (code.And ∷ [])) ∙ ap (λ (x : Bool). codes_below n (postfix a) && x) (operator_last n code.And (postfix b) refl ∙ codes_names n b)
    ∙ ap (λ (x : Bool). x && names_below n b) (codes_names n a)
codes_names n (Or a b) =
    list_all-append (code_below n) (postfix a) (postfix b ++ (code.Or ∷ [])) ∙ ap (λ (x : Bool). codes_below n (postfix a) && x) (operator_last n code.Or (postfix b) refl ∙ codes_names n b)
    ∙ ap (λ (x : Bool). x && names_below n b) (codes_names n a)
codes_names n (Bracket a) = codes_names n a
