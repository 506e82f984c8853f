-- The same two arrays serve the search: filled from a setting of the branching atoms they hold the one interpretation that can be
-- stable there; where a fact is reached both ways there is none. Assumes nothing.
use mathlib.Core.Path.{◌≡◌, refl, sym, subst}
use mathlib.Core.Bool.{Bool, true, false, not, ◌||◌, false≢true}
use mathlib.Core.List.{List}
use Prim.Native.Nat.{ℕ, ◌<◌}
use lib.Dec.{T, T_not, not_T}
use Rattle.format.specs.Book.{Literal}
use Rattle.models.specs.Program.{Program}
use Rattle.models.specs.StableModels.{Interpretation, atom_holds, positive, negative, signed, holds, rejected, Derived, by_default, by_rule, StableModel, WellFormed}
use Rattle.models.specs.Branching.{can_reject, branching}
use Rattle.base.proofs.Members.{◌∈◌, same_test}
use Rattle.models.proofs.BranchingLaws.{branch, rejected-same}
use Rattle.table.specs.Rows.{row_count}
use Rattle.table.specs.Table.{Tabulates}
use Rattle.filling.specs.Marks.{literal_marked, FollowsFrom, from_start, by_row, Conflict, Fills}
use Rattle.tester.specs.Masks.{RejectedMasks}
use Rattle.tester.proofs.TestLaws.{holds_one, derived_lt, rule_in_lem, in_rule, unrejected_alive, alive_unrejected}
use Rattle.table.specs.declared.Row.{Row}

-- the negations to start from: the branching atoms that the setting denies
pub record SettingStart (P : Program) (o : Interpretation) (start : List Bool) : Type 0 where
  pub sound : (f : ℕ) → T (atom_holds start f) → (f < P.atoms) × T (branching P f) × T (not (atom_holds o f))
  pub full : (f : ℕ) → f < P.atoms → T (branching P f) → T (not (atom_holds o f)) → T (atom_holds start f)

module _ {P : Program} {book : List ℕ} {rows : List Row} {rejects : List ℕ} {o : Interpretation} {start : List Bool} (lw : WellFormed P) (w : Tabulates P book rows)
    (g : RejectedMasks book rows o rejects (row_count rows)) (s : SettingStart P o start)
    {m : Interpretation} (sm : StableModel P m) (same : (f : ℕ) → T (branching P f) → atom_holds m f ≡ atom_holds o f) where
  flipped : (f : ℕ) → T (branching P f) → atom_holds o f ≡ atom_holds m f
  flipped f t = sym (same f t)

  negative-holds : (f : ℕ) → T (not (atom_holds m f)) → T (holds m (negative f))
  unfolding holds signed
  negative-holds f t = t

  holds_negated : (l : Literal) → l.negated ≡ true → T (holds m l) → T (not (atom_holds m l.atom))
  unfolding holds signed
  holds_negated l e t = subst (λ (c : Bool). T (signed c (atom_holds m l.atom))) e t

  -- whatever follows from the setting is derived in the stable model
  follows_in : (l : Literal) → FollowsFrom book rows rejects start l → Derived P m l
  follows_in l (from_start f t) =
      let v : (f < P.atoms) × T (branching P f) × T (not (atom_holds o f)) = s.sound f t in
      (sm.exact (negative f) v.0).1 (negative-holds f (subst (λ (c : Bool). T (not c)) (flipped f v.1) v.2))
  follows_in l (by_row r k a below) =
      by_rule r (in_rule w r k)
      (not_T (rejected P m r) (λ d. T_not (rejected P o r) (alive_unrejected w g r (in_rule w r k) a) (rejected-same P lw m o same r (in_rule w r k) d)))
      (λ x i. follows_in x (below x i))

  -- a plain name that is derived in the stable model follows from the setting
  plain_follows : (l : Literal) → Derived P m l → l.negated ≡ false → FollowsFrom book rows rejects start l
  plain_follows l (by_default f h d) e = absurd (false≢true (sym e))
  plain_follows l (by_rule r k u below) e =
      by_row r (rule_in_lem w r k)
      (unrejected_alive w g r k (not_T (rejected P o r) (λ d. T_not (rejected P m r) u (rejected-same P lw o m flipped r k d))))
      (λ p i. each p i p.negated refl (λ q. plain_follows p (below p i) q))
    where
      each : (p : Literal) → p ∈ r.body → (c : Bool) → p.negated ≡ c → (p.negated ≡ false → FollowsFrom book rows rejects start p) → FollowsFrom book rows rejects start p
      each p i false q f = f q
      each p i true q f =
          let y : p.atom < P.atoms = lw.bodies r k p i in
          let t : T (branching P p.atom) = branch P lw r k p i (subst (λ (c : Bool). T (c || can_reject P r)) (sym q) tt) in
          subst (FollowsFrom book rows rejects start) (λ j. record { atom = p.atom; negated = sym q j })
          (from_start p.atom (s.full p.atom y t (subst (λ (c : Bool). T (not c)) (same p.atom t) (holds_negated p q ((sm.exact p y).0 (below p i))))))

  -- where a stable model agrees with the setting, no fact is reached both ways
  pub no_conflict : Conflict book rows rejects start → ⊥
  no_conflict x =
      let f : ℕ = x.atom in
      let y : Derived P m (positive f) = follows_in (positive f) x.as_positive in
      let h : f < P.atoms = derived_lt P lw m (positive f) y in
      holds_one m f ((sm.exact (positive f) h).0 y) ((sm.exact (negative f) h).0 (follows_in (negative f) x.as_negative))

  -- and the array of facts is that model
  pub marks_found : {p q : List Bool} {c : Bool} → Fills book rows rejects start p q c → c ≡ false → (f : ℕ) → f < P.atoms → atom_holds p f ≡ atom_holds m f
  unfolding literal_marked holds signed
  marks_found {p} filled e f h =
      same_test (atom_holds p f) (atom_holds m f)
      (λ t. (sm.exact (positive f) h).0 (follows_in (positive f) (filled.sound (positive f) t)))
      (λ t. filled.full e (positive f) (plain_follows (positive f) ((sm.exact (positive f) h).1 t) refl))
