-- A rule that leans on itself overrides nothing, and every other rule overrides as published: by the last test of `overrides`. What
-- overriding asks is said here test by test, and proofs about tables cite that. Assumes nothing.
use mathlib.Core.Path.{◌≡◌, sym, ap, subst}
use mathlib.Core.Bool.{Bool, false, not, ◌&&◌, ◌||◌}
use Prim.Native.Nat.{ℕ}
use lib.Dec.{T, T_not, eqb, eqb_refl}
use Rattle.base.specs.Lists.{any}
use Rattle.base.proofs.Members.{◌∈◌, and_left, and_right, and_both, or_left, any_at, any_of, same_test}
use Rattle.base.proofs.UpTo.{passed, failed}
use Rattle.format.specs.Book.{Literal, Rule}
use Rattle.models.specs.Program.{Program}
use Rattle.models.specs.StableModels.{Interpretation, positive, complement, same_literal, body_holds, leans_on_itself, overrides, default}
use Rattle.models.specs.Branching.{can_reject, branching}
use Rattle.models.specs.SelfLeaning.{SelfLeaning}
use Rattle.models.proofs.LeastLaws.{literal_same, literal_refl}

leans_in : (r : Rule) → T (leans_on_itself r) → r.head ∈ r.body
unfolding leans_on_itself
leans_in r t =
    let v : (l : Literal) × l ∈ r.body × T (same_literal r.head l) = any_at (same_literal r.head) r.body t in
    subst (λ (l : Literal). l ∈ r.body) (sym (literal_same r.head v.0 v.2)) v.1

in_leans : (r : Rule) → r.head ∈ r.body → T (leans_on_itself r)
unfolding leans_on_itself
in_leans r k = any_of (same_literal r.head) k (literal_refl r.head)

-- what overriding asks, test by test
module _ (P : Program) (t r : Rule) where
  abbrev earlier : Bool
  earlier = P.below r.layer t.layer

  abbrev opposed : Bool
  opposed = same_literal t.head (complement r.head)

  pub overrides-asks : T (overrides P t r) → T earlier × T opposed × T (not (leans_on_itself t))
  unfolding overrides
  overrides-asks o =
      let u : T (earlier && opposed) = and_left (earlier && opposed) (not (leans_on_itself t)) o in
      (and_left earlier opposed u, and_right earlier opposed u, and_right (earlier && opposed) (not (leans_on_itself t)) o)

  pub overrides_of : T earlier → T opposed → T (not (leans_on_itself t)) → T (overrides P t r)
  unfolding overrides
  overrides_of b h n = and_both (earlier && opposed) (not (leans_on_itself t)) (and_both earlier opposed b h) n

  displaces_none : T (leans_on_itself t) → overrides P t r ≡ false
  displaces_none l = failed (overrides P t r) (λ o. T_not (leans_on_itself t) (overrides-asks o).2 l)

  else_published : leans_on_itself t ≡ false → overrides P t r ≡ (earlier && opposed)
  else_published e =
      same_test (overrides P t r) (earlier && opposed)
      (λ o. and_both earlier opposed (overrides-asks o).0 (overrides-asks o).1)
      (λ u. overrides_of (and_left earlier opposed u) (and_right earlier opposed u) (subst (λ (c : Bool). T (not c)) (sym e) tt))

no_second_ground : (P : Program) (t : Rule) → T (leans_on_itself t) → can_reject P t ≡ false
unfolding can_reject
no_second_ground P t l =
    failed (any (overrides P t) P.rules)
    (λ a. let v : (r : Rule) × r ∈ P.rules × T (overrides P t r) = any_at (overrides P t) P.rules a in T_not (leans_on_itself t) (overrides-asks P t v.0 v.2).2 l)

against_defaults : (P : Program) (m : Interpretation) (r : Rule) → r ∈ P.rules → (f : ℕ) → r.head ≡ positive f → T (body_holds m r) → default P m f ≡ false
unfolding default
against_defaults P m r k f e b =
    ap not
    (passed (any (λ r. same_literal r.head (positive f) && body_holds m r) P.rules)
    (any_of (λ r. same_literal r.head (positive f) && body_holds m r) k
    (and_both (same_literal r.head (positive f)) (body_holds m r) (subst (λ (l : Literal). T (same_literal r.head l)) e (literal_refl r.head)) b)))

first_ground : (P : Program) (r : Rule) → r ∈ P.rules → (l : Literal) → l ∈ r.body → T l.negated → T (branching P l.atom)
unfolding branching
first_ground P r k l i n =
    any_of (λ r. any (λ x. eqb x.atom l.atom && (x.negated || can_reject P r)) r.body) k
    (any_of (λ x. eqb x.atom l.atom && (x.negated || can_reject P r)) i
    (and_both (eqb l.atom l.atom) (l.negated || can_reject P r) (eqb_refl l.atom) (or_left l.negated (can_reject P r) n)))

pub self_leaning : SelfLeaning
self_leaning = record {
  head_in_body = λ r. (leans_in r, in_leans r);
  displaces_none = displaces_none;
  no_second_ground = no_second_ground;
  else_published = else_published;
  against_defaults = against_defaults;
  first_ground = first_ground;
}
