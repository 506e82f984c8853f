-- Two stable states that agree on the branching facts are equal: they reject the same rules, so what one reaches plainly the other
-- reaches too, by induction. Used by the search. Assumes nothing.
use mathlib.Core.Path.{◌≡◌, refl, sym, subst, ◌∙◌}
use mathlib.Core.Bool.{Bool, true, false, ◌&&◌, ◌||◌, false≢true}
use Prim.Native.Nat.{ℕ, ◌<◌}
use lib.Dec.{T, T_not, not_T, eqb, eqb_refl}
use lib.Seq.{ext_get_or}
use Rattle.base.specs.Lists.{any}
use Rattle.models.specs.Program.{Program}
use Rattle.format.specs.Book.{Literal, Rule}
use Rattle.models.specs.StableModels.{Interpretation, atom_holds, positive, signed, holds, body_holds, overrides, rejected, Derived, by_default, by_rule, StableModel, WellFormed}
use Rattle.models.specs.Branching.{can_reject, branching}
use Rattle.models.specs.Condition3.{BranchingDecides}
use Rattle.base.proofs.Members.{◌∈◌, and_left, and_right, and_both, or_right, all_at, all_of, any_at, any_of, same_test}

module _ (P : Program) (w : WellFormed P) where
  -- a literal of a relevant rule's body that is negated, or whose rule can displace, names a branching fact
  pub branch : (r : Rule) → r ∈ P.rules → (l : Literal) → l ∈ r.body → T (l.negated || can_reject P r) → T (branching P l.atom)
  unfolding branching
  branch r k l j t =
      any_of (λ r. any (λ o. eqb o.atom l.atom && (o.negated || can_reject P r)) r.body) k
      (any_of (λ o. eqb o.atom l.atom && (o.negated || can_reject P r)) j
      (and_both (eqb l.atom l.atom) (l.negated || can_reject P r) (eqb_refl l.atom) t))

  module _ (m o : Interpretation) (same : (f : ℕ) → T (branching P f) → atom_holds m f ≡ atom_holds o f) where
    -- a literal of a branching fact holds in both or in neither
    holds_same : (l : Literal) → T (branching P l.atom) → T (holds m l) → T (holds o l)
    unfolding holds
    holds_same l t h = subst (λ (c : Bool). T (signed l.negated c)) (same l.atom t) h

    -- the body of a rule that overrides another holds in both
    body_same : (t r : Rule) → t ∈ P.rules → r ∈ P.rules → T (overrides P t r) → T (body_holds m t) → T (body_holds o t)
    unfolding body_holds can_reject
    body_same t r k j v h =
        all_of (holds o) t.body
        (λ l i. holds_same l (branch t k l i (or_right l.negated (can_reject P t) (any_of (overrides P t) j v))) (all_at (holds m) h i))

    pub rejected-same : (r : Rule) → r ∈ P.rules → T (rejected P m r) → T (rejected P o r)
    unfolding rejected
    rejected-same r k d =
        let v : (t : Rule) × t ∈ P.rules × T (overrides P t r && body_holds m t) =
        any_at (λ t. overrides P t r && body_holds m t) P.rules d in
        let t : Rule = v.0 in
        let y : T (overrides P t r) = and_left (overrides P t r) (body_holds m t) v.2 in
        any_of (λ t. overrides P t r && body_holds o t) v.1
        (and_both (overrides P t r) (body_holds o t) y (body_same t r v.1 k y (and_right (overrides P t r) (body_holds m t) v.2)))

  module _ (m o : Interpretation) (sm : StableModel P m) (so : StableModel P o) (same : (f : ℕ) → T (branching P f) → atom_holds m f ≡ atom_holds o f) where
    flipped : (f : ℕ) → T (branching P f) → atom_holds o f ≡ atom_holds m f
    flipped f t = sym (same f t)

    -- what m reaches plainly, o reaches
    carry : (l : Literal) → Derived P m l → l.negated ≡ false → Derived P o l
    carry l (by_default f h d) e = absurd (false≢true (sym e))
    carry l (by_rule r k u below) e =
        by_rule r k (not_T (rejected P o r) (λ d. T_not (rejected P m r) u (rejected-same o m flipped r k d)))
        (λ p i. each p i p.negated refl (λ q. carry p (below p i) q))
      where
        each : (p : Literal) → p ∈ r.body → (c : Bool) → p.negated ≡ c → (p.negated ≡ false → Derived P o p) → Derived P o p
        each p i false q f = f q
        each p i true q f =
            let y : p.atom < P.atoms = w.bodies r k p i in
            (so.exact p y).1 (holds_same m o same p (branch r k p i (subst (λ (c : Bool). T (c || can_reject P r)) (sym q) tt)) ((sm.exact p y).0 (below p i)))

    into : (f : ℕ) → f < P.atoms → T (atom_holds m f) → T (atom_holds o f)
    unfolding holds signed
    into f h t =
        (so.exact (positive f) h).0 (carry (positive f) ((sm.exact (positive f) h).1 t) refl)

  pub branching_decides : BranchingDecides P
  unfolding atom_holds
  branching_decides m o sm so same =
      ext_get_or false m o (sm.size ∙ sym so.size)
      (λ f h.
      let y : f < P.atoms = subst (λ (n : ℕ). f < n) sm.size h in
      same_test (atom_holds m f) (atom_holds o f) (into m o sm so same f y) (into o m so sm (λ f t. sym (same f t)) f y))
