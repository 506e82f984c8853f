-- What is filled from all that a setting denies, beside marks that were filled from those alone of whose facts no rule is rejected:
-- where the facts agree with the setting and no rejected row is contested by the second marks, the facts are a stable model, as a
-- filling from the defaults would come to the same. Used by the search. Assumes nothing.
use mathlib.Core.Path.{◌≡◌, refl, sym, ap, subst, ◌∙◌}
use mathlib.Core.Bool.{Bool, true, false, not, ◌&&◌, ◌||◌, true≢false, false≢true}
use mathlib.Core.List.{List, []}
use Prim.Native.Nat.{ℕ, ◌<◌}
use lib.Dec.{T, T_not, not_T, eqb, eqb→eq}
use lib.ListN.{length, get_or}
use Rattle.base.specs.Lists.{any}
use Rattle.format.specs.Book.{Literal, Rule}
use Rattle.models.specs.Program.{Program}
use Rattle.models.specs.StableModels.{Interpretation, atom_holds, positive, negative, complement, same_literal, signed, holds, body_holds, rejected, default, stable, Derived, by_default, by_rule, WellFormed}
use Rattle.models.specs.Branching.{can_reject, branching}
use Rattle.base.proofs.Members.{◌∈◌, and_left, and_right, and_both, all_at, all_of, any_at, any_of}
use Rattle.base.proofs.UpTo.{passed}
use Rattle.models.proofs.BranchingLaws.{branch, rejected-same}
use Rattle.models.proofs.LeastLaws.{literal_same, literal_refl, stable_complete, free-allowed}
use Rattle.layers.specs.Masks.{bit_of}
use Rattle.layers.proofs.BitLaws.{zero_bit}
use Rattle.table.specs.Names.{name_of}
use Rattle.table.specs.Rows.{row_count, row_at, alive}
use Rattle.table.specs.Table.{Tabulates}
use Rattle.table.proofs.RowLaws.{row_of}
use Rattle.filling.specs.Marks.{literal_marked, FollowsFrom, from_start, by_row, Fills}
use Rattle.tester.specs.Masks.{RejectedMasks}
use Rattle.leaf.specs.Contested.{Uncontested}
use Rattle.tester.proofs.TestLaws.{rule_in_lem, in_rule, unrejected_alive, alive_unrejected}
use Rattle.leaf.proofs.SettingMarks.{SettingStart}
use Rattle.table.specs.declared.Row.{Row}

-- What follows from part of a start follows from the whole, and a filling from part of it that comes to mark the whole is a filling
-- from the whole.
module _ {book : List ℕ} {rows : List Row} {rejects : List ℕ} {assumed start : List Bool} (under : (f : ℕ) → T (atom_holds assumed f) → T (atom_holds start f)) where
  pub follows_wider : (l : Literal) → FollowsFrom book rows rejects assumed l → FollowsFrom book rows rejects start l
  follows_wider l (from_start f t) = from_start f (under f t)
  follows_wider l (by_row r k a below) = by_row r k a (λ x i. follows_wider x (below x i))

  pub fills_wider : {p q : List Bool} {c : Bool} → Fills book rows rejects assumed p q c → (c ≡ false → (f : ℕ) → T (atom_holds start f) → T (atom_holds q f)) → Fills book rows rejects start p q c
  unfolding literal_marked
  fills_wider {p} {q} {c} w over = record {
    sound = λ l t. follows_wider l (w.sound l t);
    full = λ e l x. marked e l x;
    apart = w.apart;
    clash = λ e. let x = w.clash e in record { atom = x.atom; bound = x.bound; as_positive = follows_wider (positive x.atom) x.as_positive; as_negative = follows_wider (negative x.atom) x.as_negative };
  }
    where
      marked : c ≡ false → (l : Literal) → FollowsFrom book rows rejects start l → T (literal_marked p q l)
      marked e l (from_start f t) = over e f t
      marked e l (by_row r k a below) = w.full e r.head (by_row r k a (λ x i. w.sound x (marked e x (below x i))))

module _ {P : Program} {book : List ℕ} {rows : List Row} {rejects : List ℕ} {o : Interpretation} {assumed start : List Bool} (lw : WellFormed P) (w : Tabulates P book rows)
    (g : RejectedMasks book rows o rejects (row_count rows)) (s : SettingStart P o start)
    (under : (f : ℕ) → T (atom_holds assumed f) → T (atom_holds start f)) (clear : (f : ℕ) → T (atom_holds assumed f) → get_or rejects f 0 ≡ 0)
    {q₁ : List Bool} (early : (f : ℕ) → T (atom_holds q₁ f) → FollowsFrom book rows rejects assumed (negative f))
    {p q : List Bool} {c : Bool} (filled : Fills book rows rejects start p q c) (quiet : c ≡ false)
    (m : Interpretation) (size : length m ≡ P.atoms) (kept : (f : ℕ) → f < P.atoms → atom_holds m f ≡ atom_holds p f)
    (same : (f : ℕ) → T (branching P f) → atom_holds m f ≡ atom_holds o f) (free : Uncontested book rows rejects m q₁ (row_count rows)) where
  flipped : (f : ℕ) → T (branching P f) → atom_holds o f ≡ atom_holds m f
  flipped f t = sym (same f t)

  -- what follows holds
  marked-holds : (f : ℕ) (b : Bool) → f < P.atoms → T (literal_marked p q (record { atom = f; negated = b })) → T (holds m (record { atom = f; negated = b }))
  unfolding literal_marked holds signed complement
  marked-holds f false h t = subst T (sym (kept f h)) t
  marked-holds f true h t = not_T (atom_holds m f) (λ u. filled.apart quiet (positive f) (subst T (kept f h) u) t)

  follows_lt : (l : Literal) → FollowsFrom book rows rejects start l → l.atom < P.atoms
  follows_lt l (from_start f t) = (s.sound f t).0
  follows_lt l (by_row r k a below) = lw.heads r (in_rule w r k)

  follows-holds : (l : Literal) → FollowsFrom book rows rejects start l → T (holds m l)
  follows-holds l x = marked-holds l.atom l.negated (follows_lt l x) (filled.full quiet l x)

  -- what a body asks follows where it holds: its negated atoms branch, so they are among those of the start
  holds-follows : (f : ℕ) (b : Bool) → f < P.atoms → (b ≡ true → T (branching P f)) → T (holds m (record { atom = f; negated = b })) → FollowsFrom book rows rejects start (record { atom = f; negated = b })
  unfolding literal_marked holds signed
  holds-follows f false h k t = filled.sound (positive f) (subst T (kept f h) t)
  holds-follows f true h k t = from_start f (s.full f h (k refl) (subst (λ (x : Bool). T (not x)) (same f (k refl)) t))

  body-follows : (r : Rule) → r ∈ P.rules → T (body_holds m r) → (l : Literal) → l ∈ r.body → FollowsFrom book rows rejects start l
  unfolding body_holds
  body-follows r k t l i =
      holds-follows l.atom l.negated (lw.bodies r k l i) (λ e. branch P lw r k l i (subst (λ (x : Bool). T (x || can_reject P r)) (sym e) tt)) (all_at (holds m) t i)

  alive-holds : (r : Rule) → r ∈ P.rules → T (alive rejects r) → T (body_holds m r) → T (holds m r.head)
  alive-holds r k a t = follows-holds r.head (by_row r (rule_in_lem w r k) a (body-follows r k t))

  -- An atom that m denies is a default if every rule that could support it is alive, for then the atom would hold, or rejected without
  -- being contested.
  module _ (f : ℕ) (n : T (not (atom_holds m f))) where
    alive-stands : (r : Rule) → r ∈ P.rules → r.head ≡ positive f → T (body_holds m r) → alive rejects r ≡ true → T (atom_holds m f)
    unfolding holds signed
    alive-stands r k e t y = subst (λ (l : Literal). T (holds m l)) e (alive-holds r k (subst T (sym y) tt) t)

    unsupported : ((r : Rule) → r ∈ P.rules → r.head ≡ positive f → T (body_holds m r) → alive rejects r ≡ false → T (atom_holds m f)) → T (default P m f)
    unfolding default
    unsupported dead =
        not_T (any (λ r. same_literal r.head (positive f) && body_holds m r) P.rules)
        (λ a.
        let v : (r : Rule) × r ∈ P.rules × T (same_literal r.head (positive f) && body_holds m r) = any_at (λ r. same_literal r.head (positive f) && body_holds m r) P.rules a in
        let r : Rule = v.0 in
        T_not (atom_holds m f) n
        (stands r v.1 (literal_same r.head (positive f) (and_left (same_literal r.head (positive f)) (body_holds m r) v.2))
        (and_right (same_literal r.head (positive f)) (body_holds m r) v.2) (alive rejects r) refl))
      where
        stands : (r : Rule) → r ∈ P.rules → r.head ≡ positive f → T (body_holds m r) → (a : Bool) → alive rejects r ≡ a → T (atom_holds m f)
        stands r k e t true y = alive-stands r k e t y
        stands r k e t false y = dead r k e t y

  -- of an atom that was assumed not to hold no rule is rejected
  assumed-default : (f : ℕ) → T (atom_holds assumed f) → T (not (atom_holds m f)) → T (default P m f)
  unfolding alive name_of
  assumed-default f a n =
      unsupported f n
      (λ r k e t y. absurd (true≢false (sym (lives r e) ∙ y)))
    where
      lives : (r : Rule) → r.head ≡ positive f → alive rejects r ≡ true
      lives r e =
          let x : ℕ = get_or rejects (name_of r.head) 0 in
          passed (alive rejects r)
          (not_T (eqb (bit_of x r.layer) 1) (λ t. zero_bit x r.layer (ap (λ (l : Literal). get_or rejects (name_of l) 0) e ∙ clear f a) (eqb→eq (bit_of x r.layer) 1 t)))

  -- of an atom whose negation is not marked early no rejected rule is contested
  unmarked_default : (f : ℕ) → T (not (atom_holds m f)) → atom_holds q₁ f ≡ false → T (default P m f)
  unmarked_default f n nq =
      unsupported f n
      (λ r k e t y.
      let x : (j : ℕ) × (j < row_count rows) × (row_at book rows j ≡ r) = row_of book rows r (rule_in_lem w r k) in
      free.each x.0 x.1 (ap (alive rejects) x.2 ∙ y) (subst (λ (z : Rule). T (body_holds m z)) (sym x.2) t) f (ap (λ (z : Rule). z.head) x.2 ∙ e) nq)

  -- what follows is derived, if the negations that it starts from are
  follows_derived : {st : List Bool} → ((f : ℕ) → T (atom_holds st f) → Derived P m (negative f)) → (l : Literal) → FollowsFrom book rows rejects st l → Derived P m l
  follows_derived x l (from_start f t) = x f t
  follows_derived x l (by_row r k a below) =
      by_rule r (in_rule w r k)
      (not_T (rejected P m r) (λ d. T_not (rejected P o r) (alive_unrejected w g r (in_rule w r k) a) (rejected-same P lw m o same r (in_rule w r k) d)))
      (λ y i. follows_derived x y (below y i))

  -- what the setting denies m denies
  start-denied : (f : ℕ) → T (atom_holds start f) → (f < P.atoms) × T (not (atom_holds m f))
  start-denied f t = let v : (f < P.atoms) × T (branching P f) × T (not (atom_holds o f)) = s.sound f t in (v.0, subst (λ (x : Bool). T (not x)) (flipped f v.1) v.2)

  assumed_derived : (f : ℕ) → T (atom_holds assumed f) → Derived P m (negative f)
  assumed_derived f t = let v : (f < P.atoms) × T (not (atom_holds m f)) = start-denied f (under f t) in by_default f v.0 (assumed-default f t v.1)

  -- what m denies is marked early, and then it follows, or it is a default
  denied_derived : (f : ℕ) → f < P.atoms → T (not (atom_holds m f)) → Derived P m (negative f)
  denied_derived f h t = go (atom_holds q₁ f) refl
    where
      go : (b : Bool) → atom_holds q₁ f ≡ b → Derived P m (negative f)
      go true e = follows_derived assumed_derived (negative f) (early f (subst T (sym e) tt))
      go false e = by_default f h (unmarked_default f t e)

  -- a fact that follows has a rule whose body holds
  supports : (l : Literal) → FollowsFrom book rows rejects start l → l.negated ≡ false → T (any (λ r. same_literal r.head l && body_holds m r) P.rules)
  unfolding body_holds
  supports l (from_start f t) e = absurd (false≢true (sym e))
  supports l (by_row r k a below) e =
      any_of (λ x. same_literal x.head r.head && body_holds m x) (in_rule w r k)
      (and_both (same_literal r.head r.head) (body_holds m r) (literal_refl r.head) (all_of (holds m) r.body (λ x i. follows-holds x (below x i))))

  -- what is derived holds
  derived_holds : (l : Literal) → Derived P m l → T (holds m l)
  unfolding holds signed default body_holds
  derived_holds l (by_default f h d) =
      not_T (atom_holds m f)
      (λ t. T_not (any (λ r. same_literal r.head (positive f) && body_holds m r) P.rules) d (supports (positive f) (holds-follows f false h (λ e. absurd (false≢true e)) t) refl))
  derived_holds l (by_rule r k u below) =
      alive-holds r k
      (unrejected_alive w g r k (not_T (rejected P o r) (λ d. T_not (rejected P m r) u (rejected-same P lw o m flipped r k d))))
      (all_of (holds m) r.body (λ x i. derived_holds x (below x i)))

  holds_derived : (f : ℕ) (b : Bool) → f < P.atoms → T (holds m (record { atom = f; negated = b })) → Derived P m (record { atom = f; negated = b })
  unfolding holds signed
  holds_derived f false h t = follows_derived (λ x u. let v : (x < P.atoms) × T (not (atom_holds m x)) = start-denied x u in denied_derived x v.0 v.1) (positive f) (holds-follows f false h (λ e. absurd (false≢true e)) t)
  holds_derived f true h t = denied_derived f h t

  pub uncontested_stable : P.constraints ≡ [] → T (stable P m)
  uncontested_stable none = stable_complete P m (record { size = size; exact = λ l h. (derived_holds l, holds_derived l.atom l.negated h); allowed = free-allowed P m none })
