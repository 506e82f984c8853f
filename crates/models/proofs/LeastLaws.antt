-- The computed tests and the statements agree: `least` has exactly what is `Derived`, and `stable` is `StableModel`.
-- Assumes nothing.
use mathlib.Core.Path.{◌≡◌, refl, sym, subst}
use mathlib.Core.Logic.{◌↔◌}
use mathlib.Core.Bool.{Bool, true, false, not, beq}
use mathlib.Core.List.Memᴰ
use mathlib.Core.List.{List, [], map}
use Prim.Native.Nat.{ℕ, ◌<◌}
use lib.Dec.{T, T_not, not_T, eqb, eqb_refl, eqb→eq}
use lib.ListN.{length}
use Rattle.base.specs.Lists.{all, filter, up_to}
use Rattle.base.specs.Closure.{Clause, Consequence, given, by_clause, member}
use Rattle.models.specs.Program.{Program}
use Rattle.format.specs.Book.{Literal, Rule}
use Rattle.models.specs.StableModels.{Interpretation, atom_holds, positive, negative, signed, holds, same_literal, rejected, default, defaults, active_rules, clause_of, least, agrees_at, settled, forbidden, stable, Derived, by_default, by_rule, StableModel}
use Rattle.base.proofs.Members.{◌∈◌, and_left, and_right, and_both, filter-from, filter_into, all_at, all_of, any_at, any_of, same_test}
use Rattle.base.proofs.UpTo.{up_to_lt, up_to_has}
use Rattle.base.proofs.ClosureLaws.{member-sound, member_complete, closure-sound, closure_complete}

pub beq_same : (a b : Bool) → T (beq a b) → a ≡ b
beq_same true true t = refl
beq_same true false t = absurd t
beq_same false true t = absurd t
beq_same false false t = refl

pub beq_refl : (a : Bool) → T (beq a a)
beq_refl true = tt
beq_refl false = tt

pub literal_same : (a b : Literal) → T (same_literal a b) → a ≡ b
unfolding same_literal
literal_same a b t =
    let p : a.atom ≡ b.atom = eqb→eq a.atom b.atom (and_left (eqb a.atom b.atom) (beq a.negated b.negated) t) in
    let q : a.negated ≡ b.negated = beq_same a.negated b.negated (and_right (eqb a.atom b.atom) (beq a.negated b.negated) t) in
    λ i. record { atom = p i; negated = q i }

pub literal_refl : (a : Literal) → T (same_literal a a)
unfolding same_literal
literal_refl a = and_both (eqb a.atom a.atom) (beq a.negated a.negated) (eqb_refl a.atom) (beq_refl a.negated)

literal_in : (l : Literal) (ls : List Literal) → T (member same_literal l ls) → l ∈ ls
literal_in l ls t = member-sound same_literal literal_same literal_refl l ls t

in_literal : {l : Literal} {ls : List Literal} → l ∈ ls → T (member same_literal l ls)
in_literal k = member_complete same_literal literal_same literal_refl k

module _ (P : Program) (m : Interpretation) where
  of_derived : (l : Literal) → Consequence (map clause_of (active_rules P m)) (defaults P m) l → Derived P m l
  unfolding defaults active_rules clause_of
  of_derived l (given k) =
      let w : (f : ℕ) × f ∈ filter (default P m) (up_to P.atoms) × (negative f ≡ l) = Memᴰ.of_map negative (filter (default P m) (up_to P.atoms)) k in
      let v : w.0 ∈ up_to P.atoms × T (default P m w.0) = filter-from (default P m) (up_to P.atoms) w.1 in
      subst (Derived P m) w.2 (by_default w.0 (up_to_lt P.atoms w.0 v.0) v.1)
  of_derived l (by_clause c k h) = go (Memᴰ.of_map clause_of (active_rules P m) k) (λ x n. of_derived x (h x n))
    where
      go : (r : Rule) × r ∈ active_rules P m × (clause_of r ≡ c) → ((x : Literal) → x ∈ c.premises → Derived P m x) → Derived P m c.conclusion
      go w f =
          let v : w.0 ∈ P.rules × T (not (rejected P m w.0)) = filter-from (λ r. not (rejected P m r)) P.rules w.1 in
          subst (λ (d : Clause Literal). Derived P m d.conclusion) w.2
          (by_rule w.0 v.0 v.1 (λ x n. f x (subst (λ (d : Clause Literal). x ∈ d.premises) w.2 n)))

  to_derived : (l : Literal) → Derived P m l → Consequence (map clause_of (active_rules P m)) (defaults P m) l
  unfolding defaults active_rules clause_of
  to_derived l (by_default f h d) = given (Memᴰ.map negative (filter_into (default P m) (up_to_has P.atoms f h) d))
  to_derived l (by_rule r k u below) =
      by_clause (clause_of r) (Memᴰ.map clause_of (filter_into (λ r. not (rejected P m r)) k u)) (λ x n. to_derived x (below x n))

  pub least-sound : (l : Literal) → l ∈ least P m → Derived P m l
  unfolding least
  least-sound l k = of_derived l (closure-sound same_literal literal_same literal_refl (map clause_of (active_rules P m)) (defaults P m) l k)

  pub least_complete : (l : Literal) → Derived P m l → l ∈ least P m
  unfolding least
  least_complete l d = closure_complete same_literal literal_same literal_refl (map clause_of (active_rules P m)) (defaults P m) l (to_derived l d)

  -- what agreement says of either sign
  told : (f : ℕ) → T (agrees_at (least P m) m f) → (c : Bool) → member same_literal (record { atom = f; negated = c }) (least P m) ≡ signed c (atom_holds m f)
  unfolding agrees_at signed
  told f t true = beq_same (member same_literal (negative f) (least P m)) (not (atom_holds m f)) (and_right (beq (member same_literal (positive f) (least P m)) (atom_holds m f)) (beq (member same_literal (negative f) (least P m)) (not (atom_holds m f))) t)
  told f t false = beq_same (member same_literal (positive f) (least P m)) (atom_holds m f) (and_left (beq (member same_literal (positive f) (least P m)) (atom_holds m f)) (beq (member same_literal (negative f) (least P m)) (not (atom_holds m f))) t)

  -- what the reached names say of each literal
  abbrev pub Exact : Type 0
  Exact = (l : Literal) → l.atom < P.atoms → Derived P m l ↔ T (holds m l)

  -- no constraint's body holds
  abbrev pub Allowed : Type 0
  Allowed = (body : List Literal) → body ∈ P.constraints → ((l : Literal) → l ∈ body → T (holds m l)) → ⊥

  settled-sound : T (settled P m) → Exact
  unfolding settled holds
  settled-sound t l h =
      let q : member same_literal l (least P m) ≡ signed l.negated (atom_holds m l.atom) = told l.atom (all_at (agrees_at (least P m) m) t (up_to_has P.atoms l.atom h)) l.negated in
      (λ r. subst T q (in_literal (least_complete l r)), λ u. least-sound l (literal_in l (least P m) (subst T (sym q) u)))

  pub forbidden-sound : T (forbidden P m) → Allowed → ⊥
  unfolding forbidden
  forbidden-sound t a =
      let v : (b : List Literal) × b ∈ P.constraints × T (all (holds m) b) = any_at (all (holds m)) P.constraints t in
      a v.0 v.1 (λ l i. all_at (holds m) v.2 i)

  pub forbidden_complete : (body : List Literal) → body ∈ P.constraints → ((l : Literal) → l ∈ body → T (holds m l)) → T (forbidden P m)
  unfolding forbidden
  forbidden_complete body k h = any_of (all (holds m)) k (all_of (holds m) body h)

  pub stable_sound : length m ≡ P.atoms → T (stable P m) → StableModel P m
  unfolding stable
  stable_sound e t = record {
    size = e;
    exact = settled-sound (and_left (settled P m) (not (forbidden P m)) t);
    allowed = λ body k h. T_not (forbidden P m) (and_right (settled P m) (not (forbidden P m)) t) (forbidden_complete body k h);
  }

  same_beq : (a c : Bool) → (T a → T c) → (T c → T a) → T (beq a c)
  same_beq a c f g = subst (λ (x : Bool). T (beq a x)) (same_test a c f g) (beq_refl a)

  settled_complete : Exact → T (settled P m)
  unfolding settled agrees_at holds signed
  settled_complete exact =
      all_of (agrees_at (least P m) m) (up_to P.atoms)
      (λ f k.
      let h : f < P.atoms = up_to_lt P.atoms f k in
      and_both (beq (member same_literal (positive f) (least P m)) (atom_holds m f)) (beq (member same_literal (negative f) (least P m)) (not (atom_holds m f)))
      (same_beq (member same_literal (positive f) (least P m)) (atom_holds m f)
      (λ t. (exact (positive f) h).0 (least-sound (positive f) (literal_in (positive f) (least P m) t)))
      (λ t. in_literal (least_complete (positive f) ((exact (positive f) h).1 t))))
      (same_beq (member same_literal (negative f) (least P m)) (not (atom_holds m f))
      (λ t. (exact (negative f) h).0 (least-sound (negative f) (literal_in (negative f) (least P m) t)))
      (λ t. in_literal (least_complete (negative f) ((exact (negative f) h).1 t)))))

  pub stable_complete : StableModel P m → T (stable P m)
  unfolding stable
  stable_complete w =
      and_both (settled P m) (not (forbidden P m)) (settled_complete w.exact) (not_T (forbidden P m) (λ t. forbidden-sound t w.allowed))

  -- where there is no constraint, nothing is forbidden
  pub free-allowed : P.constraints ≡ [] → Allowed
  free-allowed e body k h = Memᴰ.not-nil (subst (λ (bs : List (List Literal)). body ∈ bs) e k)
