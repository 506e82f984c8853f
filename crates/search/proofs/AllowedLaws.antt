-- The program with constraints beside the one without, which the leaf of the search is stated over: the same facts branch, and what is
-- found at a setting is what is found there without constraints, unless a constraint's body holds in it. Assumes nothing.
use mathlib.Core.Path.{◌≡◌, refl, sym, ap, ◌∙◌}
use mathlib.Core.Bool.{Bool, true, false, not, ◌&&◌}
use mathlib.Core.List.{List, [], ◌∷◌}
use Prim.Native.Nat.{ℕ}
use Rattle.base.specs.Lists.{cons_if, all, any, filter}
use Rattle.format.specs.Book.{Literal}
use Rattle.models.specs.Program.{Program, constrained}
use Rattle.models.specs.StableModels.{Interpretation, holds, stable, StableModel, WellFormed}
use Rattle.models.specs.Branching.{branching_atoms}
use Rattle.models.specs.Listing.{interpretations}
use Rattle.models.proofs.AlikeLaws.{filter_same}
use Rattle.models.proofs.ConstraintLaws.{constrained-atoms, constrained-formed, constrained-filter, constrained_model}
use Rattle.table.specs.Tabled.{tabled}
use Rattle.table.proofs.TabledLaws.{tabled-free}
use Rattle.bans.specs.Bans.{bodies_of, barred}
use Rattle.leaf.specs.Found.{agree_on, fits, at_setting}
use Rattle.leaf.specs.Searchable.{Searchable}
use Rattle.table.specs.declared.Row.{Row}
use Rattle.table.specs.declared.Span.{Span}

filter_twice : {A : Type 0} (p q : A → Bool) (xs : List A) → filter (λ x. p x && q x) xs ≡ filter q (filter p xs)
unfolding filter cons_if
filter_twice p q [] = refl
filter_twice {A} p q (x ∷ xs) = go (p x) (filter_twice p q xs)
  where
    go : (c : Bool) → filter (λ y. p y && q y) xs ≡ filter q (filter p xs) → cons_if (c && q x) x (filter (λ y. p y && q y) xs) ≡ filter q (cons_if c x (filter p xs))
    go true e = ap (cons_if (q x) x) e
    go false e = e

and_last : (a b c : Bool) → (a && b && c) ≡ (a && c && b)
and_last true true true = refl
and_last true true false = refl
and_last true false true = refl
and_last true false false = refl
and_last false b c = refl

module _ (P : Program) (bodies : List (List Literal)) (free : P.constraints ≡ []) (atoms : List ℕ) (o : Interpretation) where
  setting_filtered : at_setting (constrained P bodies) atoms o ≡ filter (λ m. not (any (all (holds m)) bodies)) (at_setting P atoms o)
  unfolding at_setting fits constrained
  setting_filtered =
      filter_same (λ m. stable (constrained P bodies) m && agree_on atoms m o) (λ m. (stable P m && agree_on atoms m o) && not (any (all (holds m)) bodies))
      (λ m. ap (λ (c : Bool). c && agree_on atoms m o) (constrained-filter P bodies free m) ∙ and_last (stable P m) (not (any (all (holds m)) bodies)) (agree_on atoms m o))
      (interpretations P.atoms)
      ∙ filter_twice (λ m. stable P m && agree_on atoms m o) (λ m. not (any (all (holds m)) bodies)) (interpretations P.atoms)

  -- a setting's model counts unless it is forbidden
  pub setting_allowed : (m : Interpretation) → at_setting P atoms o ≡ m ∷ [] → (r : Bool) → r ≡ any (all (holds m)) bodies → at_setting (constrained P bodies) atoms o ≡ cons_if (not r) m []
  unfolding filter
  setting_allowed m is r e = setting_filtered ∙ ap (filter (λ m. not (any (all (holds m)) bodies))) is ∙ ap (λ (c : Bool). cons_if (not c) m []) (sym e)

  pub setting_without : at_setting P atoms o ≡ [] → at_setting (constrained P bodies) atoms o ≡ []
  unfolding filter
  setting_without is = setting_filtered ∙ ap (filter (λ m. not (any (all (holds m)) bodies))) is

-- what a search asks of the table holds with constraints too
module _ {book : List ℕ} {rows : List Row} {atoms : List ℕ} {n : ℕ} (w : Searchable book rows atoms n) (bans : List Span) where
  pub barred-formed : WellFormed (barred book rows bans n)
  barred-formed = constrained-formed (tabled book rows n) (bodies_of book bans) w.formed

  pub barred-listed : atoms ≡ branching_atoms (barred book rows bans n)
  barred-listed = w.listed ∙ sym (constrained-atoms (tabled book rows n) (bodies_of book bans))

  pub barred-size : n ≡ (barred book rows bans n).atoms
  unfolding constrained
  barred-size = w.size

  -- a stable model is one of the rules alone
  pub barred_model : (m : Interpretation) → StableModel (barred book rows bans n) m → StableModel (tabled book rows n) m
  barred_model m = constrained_model (tabled book rows n) (bodies_of book bans) (tabled-free book rows n) m
