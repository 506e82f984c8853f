-- Two programs with as many facts, the same rules, the same displacements among them and the same constraints are alike: they have the
-- same stable models, in the same order, and the same branching facts. Neither order nor repetition counts, of rules, of constraints or of
-- the literals of a body: a body holds, and its rule leans on itself, by which literals it has. Assumes nothing.
use mathlib.Core.Path.{◌≡◌, refl, sym, subst, ap, ap₂, ◌∙◌}
use mathlib.Core.Bool.{Bool, not, ◌&&◌, ◌||◌}
use mathlib.Core.List.Memᴰ
use mathlib.Core.List.{List, [], ◌∷◌}
use Prim.Native.Nat.{ℕ, ◌<◌}
use lib.Dec.{T, T_not, not_T, eqb}
use lib.ListN.{length}
use Rattle.base.specs.Lists.{cons_if, all, any, filter, up_to}
use Rattle.format.specs.Book.{Literal, Rule}
use Rattle.models.specs.Program.{Program}
use Rattle.models.specs.Alike.{SameBody, SameRule, HasRule, HasBody, Alike}
use Rattle.models.specs.StableModels.{Interpretation, positive, complement, same_literal, holds, body_holds, leans_on_itself, overrides, rejected, default, stable, Derived, by_default, by_rule, StableModel, WellFormed}
use Rattle.models.specs.Branching.{can_reject, branching, branching_atoms, branching_count}
use Rattle.models.specs.Listing.{interpretations, stable_models, listing_of, listing}
use Rattle.models.proofs.LeastLaws.{stable_sound, stable_complete}
use Rattle.models.proofs.InterpretationLaws.{agree_same}
use Rattle.base.proofs.Members.{◌∈◌, all_at, all_of, any_at, any_of, same_test}
use Rattle.base.proofs.UpTo.{failed}

pub filter_same : {A : Type 0} (p q : A → Bool) → ((x : A) → p x ≡ q x) → (xs : List A) → filter p xs ≡ filter q xs
unfolding filter
filter_same p q h [] = refl
filter_same {A} p q h (x ∷ xs) = ap₂ (λ (c : Bool) (ys : List A). cons_if c x ys) (h x) (filter_same p q h xs)

-- the same, where the tests agree on the list's members
pub filter-within : {A : Type 0} (p q : A → Bool) (xs : List A) → ((x : A) → x ∈ xs → p x ≡ q x) → filter p xs ≡ filter q xs
unfolding filter
filter-within p q [] h = refl
filter-within {A} p q (x ∷ xs) h = ap₂ (λ (c : Bool) (ys : List A). cons_if c x ys) (h x (Memᴰ.head refl)) (filter-within p q xs (λ y k. h y (Memᴰ.tail k)))

pub filter_none : {A : Type 0} (p : A → Bool) (xs : List A) → ((x : A) → x ∈ xs → T (p x) → ⊥) → filter p xs ≡ []
unfolding filter cons_if
filter_none p [] h = refl
filter_none p (x ∷ xs) h = rw (failed (p x) (h x (Memᴰ.head refl))) (filter_none p xs (λ y k. h y (Memᴰ.tail k)))

-- ---- a rule and the same rule, written otherwise
-- a member is there as it is
pub has_rule : {rules : List Rule} (r : Rule) → r ∈ rules → HasRule rules r
has_rule r k = (r, k, record { layer_same = refl; head_same = refl; body_same = λ l. (λ i. i, λ i. i) })

pub has_body : {bodies : List (List Literal)} (body : List Literal) → body ∈ bodies → HasBody bodies body
has_body body k = (body, k, λ l. (λ i. i, λ i. i))

back : {r t : Rule} → SameRule r t → SameRule t r
back s = record { layer_same = sym s.layer_same; head_same = sym s.head_same; body_same = λ l. ((s.body_same l).1, (s.body_same l).0) }

module _ {one other : List Literal} (s : SameBody one other) where
  any_same : (p : Literal → Bool) → any p one ≡ any p other
  any_same p =
      same_test (any p one) (any p other)
      (λ t. let v = any_at p one t in any_of p ((s v.0).0 v.1) v.2)
      (λ t. let v = any_at p other t in any_of p ((s v.0).1 v.1) v.2)

module _ {r t : Rule} (s : SameRule r t) where
  holds_same : (m : Interpretation) → body_holds m r ≡ body_holds m t
  unfolding body_holds
  holds_same m =
      same_test (all (holds m) r.body) (all (holds m) t.body)
      (λ h. all_of (holds m) t.body (λ l k. all_at (holds m) h ((s.body_same l).1 k)))
      (λ h. all_of (holds m) r.body (λ l k. all_at (holds m) h ((s.body_same l).0 k)))

  leans_same : leans_on_itself r ≡ leans_on_itself t
  unfolding leans_on_itself
  leans_same = any_same s.body_same (same_literal r.head) ∙ ap (λ (l : Literal). any (same_literal l) t.body) s.head_same

overrides-written : (P : Program) {t u r o : Rule} → SameRule t u → SameRule r o → overrides P t r ≡ overrides P u o
unfolding overrides
overrides-written P s e = λ i. P.below (e.layer_same i) (s.layer_same i) && same_literal (s.head_same i) (complement (e.head_same i)) && not (leans_same s i)

-- ---- programs that are alike
pub flip : {P Q : Program} → Alike P Q → Alike Q P
flip {P} {Q} a = record {
  atoms_same = sym a.atoms_same;
  to = a.from;
  from = a.to;
  constraints_to = a.constraints_from;
  constraints_from = a.constraints_to;
  overrides_same = λ t r k j.
      let u : HasRule P.rules t = a.from t k in
      let o : HasRule P.rules r = a.from r j in
      overrides-written Q u.2 o.2 ∙ sym (a.overrides_same u.0 o.0 u.1 o.1) ∙ sym (overrides-written P u.2 o.2);
}

module _ {P Q : Program} (a : Alike P Q) where
  overrides_over : (t r : Rule) → t ∈ P.rules → r ∈ P.rules → (u o : Rule) → SameRule t u → SameRule r o → overrides P t r ≡ overrides Q u o
  overrides_over t r k j u o s e = a.overrides_same t r k j ∙ overrides-written Q s e

  module _ (m : Interpretation) where
    rejected-to : (r : Rule) → r ∈ P.rules → (o : Rule) → SameRule r o → T (rejected P m r) → T (rejected Q m o)
    unfolding rejected
    rejected-to r k o s d =
        let v : (t : Rule) × t ∈ P.rules × T (overrides P t r && body_holds m t) = any_at (λ t. overrides P t r && body_holds m t) P.rules d in
        let u : HasRule Q.rules v.0 = a.to v.0 v.1 in
        any_of (λ t. overrides Q t o && body_holds m t) u.1
        (subst T (ap₂ ◌&&◌ (overrides_over v.0 r v.1 k u.0 o u.2 s) (holds_same u.2 m)) v.2)

    default-from : (f : ℕ) → T (default Q m f) → T (default P m f)
    unfolding default
    default-from f d =
        not_T (any (λ r. same_literal r.head (positive f) && body_holds m r) P.rules)
        (λ t.
        let v : (r : Rule) × r ∈ P.rules × T (same_literal r.head (positive f) && body_holds m r) = any_at (λ r. same_literal r.head (positive f) && body_holds m r) P.rules t in
        let u : HasRule Q.rules v.0 = a.to v.0 v.1 in
        T_not (any (λ r. same_literal r.head (positive f) && body_holds m r) Q.rules) d
        (any_of (λ r. same_literal r.head (positive f) && body_holds m r) u.1
        (subst T (ap₂ (λ (l : Literal) (c : Bool). same_literal l (positive f) && c) u.2.head_same (holds_same u.2 m)) v.2)))

module _ {P Q : Program} (a : Alike P Q) (m : Interpretation) where
  derived_to : (l : Literal) → Derived P m l → Derived Q m l
  derived_to l (by_default f h d) = by_default f (subst (λ (n : ℕ). f < n) a.atoms_same h) (default-from (flip a) m f d)
  derived_to l (by_rule r k u below) =
      let o : HasRule Q.rules r = a.to r k in
      subst (Derived Q m) (sym o.2.head_same)
      (by_rule o.0 o.1 (not_T (rejected Q m o.0) (λ d. T_not (rejected P m r) u (rejected-to (flip a) m o.0 o.1 r (back o.2) d)))
      (λ p i. derived_to p (below p ((o.2.body_same p).1 i))))

module _ {P Q : Program} (a : Alike P Q) (m : Interpretation) where
  pub alike_model : StableModel P m → StableModel Q m
  alike_model s = record {
    size = s.size ∙ a.atoms_same;
    allowed = λ body k h. let o : HasBody P.constraints body = a.constraints_from body k in s.allowed o.0 o.1 (λ l i. h l ((o.2 l).1 i));
    exact = λ l h.
        let y : l.atom < P.atoms = subst (λ (n : ℕ). l.atom < n) (sym a.atoms_same) h in
        (λ d. (s.exact l y).0 (derived_to (flip a) m l d), λ t. derived_to a m l ((s.exact l y).1 t));
  }

module _ {P Q : Program} (a : Alike P Q) where
  pub alike-stable : (m : Interpretation) → length m ≡ P.atoms → stable P m ≡ stable Q m
  alike-stable m e =
      same_test (stable P m) (stable Q m) (λ t. stable_complete Q m (alike_model a m (stable_sound P m e t)))
      (λ t. stable_complete P m (alike_model (flip a) m (stable_sound Q m (e ∙ a.atoms_same) t)))

  pub alike_models : stable_models P ≡ stable_models Q
  unfolding stable_models
  alike_models =
      agree_same P.atoms (stable P) (stable Q) alike-stable ∙ ap (λ (n : ℕ). filter (stable Q) (interpretations n)) a.atoms_same

module _ {P Q : Program} (a : Alike P Q) where
  rejecting_to : (r : Rule) → r ∈ P.rules → (o : Rule) → SameRule r o → T (can_reject P r) → T (can_reject Q o)
  unfolding can_reject
  rejecting_to r k o s t =
      let v : (x : Rule) × x ∈ P.rules × T (overrides P r x) = any_at (overrides P r) P.rules t in
      let u : HasRule Q.rules v.0 = a.to v.0 v.1 in
      any_of (overrides Q o) u.1 (subst T (overrides_over a r v.0 k v.1 o u.0 s u.2) v.2)

module _ {P Q : Program} (a : Alike P Q) where
  rejecting_same : (r : Rule) → r ∈ P.rules → (o : Rule) → o ∈ Q.rules → SameRule r o → can_reject P r ≡ can_reject Q o
  rejecting_same r k o j s = same_test (can_reject P r) (can_reject Q o) (rejecting_to a r k o s) (rejecting_to (flip a) o j r (back s))

module _ {P Q : Program} (a : Alike P Q) where
  branching-to : (f : ℕ) → T (branching P f) → T (branching Q f)
  unfolding branching
  branching-to f t =
      let v : (r : Rule) × r ∈ P.rules × T (any (λ l. eqb l.atom f && (l.negated || can_reject P r)) r.body) =
      any_at (λ r. any (λ l. eqb l.atom f && (l.negated || can_reject P r)) r.body) P.rules t in
      let o : HasRule Q.rules v.0 = a.to v.0 v.1 in
      any_of (λ r. any (λ l. eqb l.atom f && (l.negated || can_reject Q r)) r.body) o.1
      (subst (λ (c : Bool). T (any (λ l. eqb l.atom f && (l.negated || c)) o.0.body)) (rejecting_same a v.0 v.1 o.0 o.1 o.2)
      (subst T (any_same o.2.body_same (λ l. eqb l.atom f && (l.negated || can_reject P v.0))) v.2))

module _ {P Q : Program} (a : Alike P Q) where
  pub alike-branching : (f : ℕ) → branching P f ≡ branching Q f
  alike-branching f = same_test (branching P f) (branching Q f) (branching-to a f) (branching-to (flip a) f)

  pub alike-atoms : branching_atoms P ≡ branching_atoms Q
  unfolding branching_atoms
  alike-atoms = filter_same (branching P) (branching Q) alike-branching (up_to P.atoms) ∙ ap (λ (n : ℕ). filter (branching Q) (up_to n)) a.atoms_same

  pub alike-count : branching_count P ≡ branching_count Q
  unfolding branching_count
  alike-count = ap length alike-atoms

  pub alike-listing : listing P ≡ listing Q
  unfolding listing
  alike-listing = ap₂ listing_of a.atoms_same (alike_models a)

  pub alike-formed : WellFormed P → WellFormed Q
  alike-formed w = record {
    heads = λ r k. let o : HasRule P.rules r = a.from r k in subst (λ (n : ℕ). r.head.atom < n) a.atoms_same (subst (λ (l : Literal). l.atom < P.atoms) (sym o.2.head_same) (w.heads o.0 o.1));
    bodies = λ r k l j. let o : HasRule P.rules r = a.from r k in subst (λ (n : ℕ). l.atom < n) a.atoms_same (w.bodies o.0 o.1 l ((o.2.body_same l).0 j));
  }
