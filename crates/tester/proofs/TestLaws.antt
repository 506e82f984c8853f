-- From the table to the definition: rows that are alive are the rules that are not rejected, the atoms that are not supported are
-- the defaults, so what follows is what is derived; then the comparison of the marks with the interpretation decides stability.
-- Used by is_stable; SettingMarks uses the first half. Assumes nothing.
use Rattle.table.specs.declared.Row.{Row}
use mathlib.Core.Path.{◌≡◌, sym, ap, subst, ◌∙◌}
use mathlib.Core.Bool.{Bool, true, false, not, ◌&&◌, beq}
use mathlib.Core.List.{List, []}
use Prim.Native.Nat.{ℕ, ◌<◌, ◌≤◌}
use native.Mathlib.Omega.{arith}
use lib.Dec.{T, T_not, not_T, eqb, eqb→eq}
use lib.ListN.{length, get_or}
use Rattle.base.specs.Bounds.{max_atoms, max_names}
use Rattle.base.specs.Lists.{all, any, up_to}
use Rattle.layers.specs.Masks.{bit_of}
use Rattle.format.specs.Book.{Literal, Rule}
use Rattle.models.specs.Program.{Program}
use Rattle.models.specs.StableModels.{Interpretation, atom_holds, positive, negative, complement, same_literal, signed, holds, body_holds, overrides, rejected, default, stable, Derived, by_default, by_rule, StableModel, WellFormed}
use Rattle.base.proofs.Members.{◌∈◌, and_left, and_right, and_both, all_at, all_of, any_at, any_of, same_test}
use Rattle.base.proofs.UpTo.{failed, up_to_lt, up_to_has}
use Rattle.models.proofs.LeastLaws.{beq_refl, literal_same, literal_refl, stable_sound, stable_complete, free-allowed, beq_same}
use Rattle.table.specs.Names.{literal_named, name_of}
use Rattle.table.specs.Rows.{row_count, head_name, row_at, rows_of, alive}
use Rattle.table.specs.Table.{Tabulates}
use Rattle.table.proofs.NameLaws.{name_back, complement_twice}
use Rattle.table.proofs.RowLaws.{row_in, row_of}
use Rattle.table.proofs.NamedLaws.{named-overrides, overrides-named}
use Rattle.filling.specs.Marks.{Room, literal_marked, FollowsFrom, from_start, by_row, Conflict, Fills}
use Rattle.tester.specs.Agreement.{marks_agree}
use Rattle.tester.specs.Masks.{Rejection, RejectedMasks, Support, Supported, Violation, Others}

pub holds_one : (m : Interpretation) (f : ℕ) → T (holds m (positive f)) → T (holds m (negative f)) → ⊥
unfolding holds signed
holds_one m f p q = T_not (atom_holds m f) q p

-- what is derived names an atom of the program
pub derived_lt : (P : Program) → WellFormed P → (m : Interpretation) (l : Literal) → Derived P m l → l.atom < P.atoms
derived_lt P w m l (by_default f h d) = h
derived_lt P w m l (by_rule r k u below) = w.heads r k

beq_of : (a b : Bool) → a ≡ b → T (beq a b)
beq_of a b e = subst (λ (x : Bool). T (beq a x)) e (beq_refl a)

module _ (p q : List Bool) (m : Interpretation) where
  agree_sign : (f : ℕ) (c : Bool) → T (marks_agree p q m f) → literal_marked p q (record { atom = f; negated = c }) ≡ holds m (record { atom = f; negated = c })
  unfolding marks_agree literal_marked holds signed
  agree_sign f true t = beq_same (atom_holds q f) (not (atom_holds m f)) (and_right (beq (atom_holds p f) (atom_holds m f)) (beq (atom_holds q f) (not (atom_holds m f))) t)
  agree_sign f false t = beq_same (atom_holds p f) (atom_holds m f) (and_left (beq (atom_holds p f) (atom_holds m f)) (beq (atom_holds q f) (not (atom_holds m f))) t)

  agree_literal : (l : Literal) → T (marks_agree p q m l.atom) → literal_marked p q l ≡ holds m l
  agree_literal l t = agree_sign l.atom l.negated t

  literal_agree : (f : ℕ) → literal_marked p q (positive f) ≡ holds m (positive f) → literal_marked p q (negative f) ≡ holds m (negative f) → T (marks_agree p q m f)
  unfolding marks_agree literal_marked holds signed
  literal_agree f a c = and_both (beq (atom_holds p f) (atom_holds m f)) (beq (atom_holds q f) (not (atom_holds m f))) (beq_of (atom_holds p f) (atom_holds m f) a) (beq_of (atom_holds q f) (not (atom_holds m f)) c)

module _ {P : Program} {book : List ℕ} {rows : List Row} (w : Tabulates P book rows) where
  row_rule : (j : ℕ) → j < row_count rows → row_at book rows j ∈ P.rules
  row_rule j h = subst (λ (rs : List Rule). row_at book rows j ∈ rs) w.rules (row_in book rows j h)

  pub rule_in_lem : (r : Rule) → r ∈ P.rules → r ∈ rows_of book rows
  rule_in_lem r k = subst (λ (rs : List Rule). r ∈ rs) (sym w.rules) k

  pub in_rule : (r : Rule) → r ∈ rows_of book rows → r ∈ P.rules
  in_rule r k = subst (λ (rs : List Rule). r ∈ rs) w.rules k

  rule_row : (r : Rule) → r ∈ P.rules → (j : ℕ) × (j < row_count rows) × (row_at book rows j ≡ r)
  rule_row r k = row_of book rows r (rule_in_lem r k)

  -- what marks of n facts have a place for
  pub row_within : WellFormed P → (j : ℕ) → j < row_count rows → (literal_named (head_name rows j)).atom < P.atoms
  unfolding row_at
  row_within lw j h = lw.heads (row_at book rows j) (row_rule j h)

  pub room_for : WellFormed P → {n : ℕ} → n ≡ P.atoms → n ≤ max_atoms → (p q : List Bool) → length p ≡ n → length q ≡ n → Room rows p q
  room_for lw e b p q x y = record { same = y ∙ sym x; few = omega (arith, x, b); heads = λ j h. omega (arith, x, e, row_within lw j h) }

  -- the name of a rule's head
  head-name : (r : Rule) → r ∈ P.rules → (literal_named (name_of r.head) ≡ r.head) × (name_of r.head < max_names)
  unfolding row_at
  head-name r k =
      let v : (j : ℕ) × (j < row_count rows) × (row_at book rows j ≡ r) = rule_row r k in
      subst (λ (x : Rule). (literal_named (name_of x.head) ≡ x.head) × (name_of x.head < max_names)) v.2
      (ap literal_named (name_back (head_name rows v.0)), subst (λ (x : ℕ). x < max_names) (sym (name_back (head_name rows v.0))) (w.fits.bounded.name v.0 v.1))

  module _ {rejects : List ℕ} {m : Interpretation} (g : RejectedMasks book rows m rejects (row_count rows)) where
    bit-rejected : (r : Rule) → r ∈ P.rules → bit_of (get_or rejects (name_of r.head) 0) r.layer ≡ 1 → T (rejected P m r)
    unfolding rejected
    bit-rejected r k e =
        let x : Rejection book rows m (row_count rows) (name_of r.head) r.layer = g.sound (name_of r.head) r.layer e in
        let t : Rule = row_at book rows x.row in
        let q : t.head ≡ complement r.head = sym (complement_twice t.head) ∙ ap complement (sym x.facing ∙ (head-name r k).0) in
        any_of (λ t. overrides P t r && body_holds m t) (row_rule x.row x.before)
        (and_both (overrides P t r) (body_holds m t) (named-overrides w x.before k x.bit q) x.holds_in)

    rejected-bit : (r : Rule) → r ∈ P.rules → T (rejected P m r) → bit_of (get_or rejects (name_of r.head) 0) r.layer ≡ 1
    unfolding rejected
    rejected-bit r k d =
        let v : (t : Rule) × t ∈ P.rules × T (overrides P t r && body_holds m t) = any_at (λ t. overrides P t r && body_holds m t) P.rules d in
        let u : (j : ℕ) × (j < row_count rows) × (row_at book rows j ≡ v.0) = rule_row v.0 v.1 in
        let t : Rule = row_at book rows u.0 in
        let o : T (overrides P t r && body_holds m t) = subst (λ (t : Rule). T (overrides P t r && body_holds m t)) (sym u.2) v.2 in
        let over = overrides-named w u.1 k (and_left (overrides P t r) (body_holds m t) o) in
        g.full (name_of r.head) r.layer
        (record {
          row = u.0;
          before = u.1;
          facing = (head-name r k).0 ∙ sym (complement_twice r.head) ∙ ap complement (sym over.1);
          holds_in = and_right (overrides P t r) (body_holds m t) o;
          bit = over.0;
        })
        (head-name r k).1

    pub unrejected_alive : (r : Rule) → r ∈ P.rules → T (not (rejected P m r)) → T (alive rejects r)
    unfolding alive
    unrejected_alive r k u =
        not_T (eqb (bit_of (get_or rejects (name_of r.head) 0) r.layer) 1)
        (λ t. T_not (rejected P m r) u (bit-rejected r k (eqb→eq (bit_of (get_or rejects (name_of r.head) 0) r.layer) 1 t)))

    pub alive_unrejected : (r : Rule) → r ∈ P.rules → T (alive rejects r) → T (not (rejected P m r))
    unfolding alive
    alive_unrejected r k u =
        not_T (rejected P m r)
        (λ t. T_not (eqb (bit_of (get_or rejects (name_of r.head) 0) r.layer) 1) u (subst (λ (x : ℕ). T (eqb x 1)) (sym (rejected-bit r k t)) tt))

    -- a row that is alive and violated: the interpretation is not stable
    pub violated_unstable : WellFormed P → length m ≡ P.atoms → Violation book rows rejects m (row_count rows) → false ≡ stable P m
    unfolding body_holds
    violated_unstable lw sz x =
        let r : Rule = row_at book rows x.row in
        let k : r ∈ P.rules = row_rule x.row x.before in
        sym (failed (stable P m) (λ t.
        let z : StableModel P m = stable_sound P m sz t in
        T_not (holds m r.head) x.fails_in
        ((z.exact r.head (lw.heads r k)).0
        (by_rule r k (alive_unrejected r k x.lives) (λ l i. (z.exact l (lw.bodies r k l i)).1 (all_at (holds m) x.holds_in i))))))

    module _ {atoms start : List Bool} {n : ℕ} (lw : WellFormed P) (en : n ≡ P.atoms) (size : length atoms ≡ n) (s : Supported book rows m atoms (row_count rows)) (d : Others atoms start n) where
      start-default : (f : ℕ) → T (atom_holds start f) → T (default P m f)
      unfolding default
      start-default f t =
          not_T (any (λ r. same_literal r.head (positive f) && body_holds m r) P.rules)
          (λ a.
          let v : (r : Rule) × r ∈ P.rules × T (same_literal r.head (positive f) && body_holds m r) = any_at (λ r. same_literal r.head (positive f) && body_holds m r) P.rules a in
          let u : (j : ℕ) × (j < row_count rows) × (row_at book rows j ≡ v.0) = rule_row v.0 v.1 in
          let r : Rule = row_at book rows u.0 in
          let o : T (same_literal r.head (positive f) && body_holds m r) = subst (λ (r : Rule). T (same_literal r.head (positive f) && body_holds m r)) (sym u.2) v.2 in
          T_not (atom_holds atoms f) (d.sound f t).1
          (s.full f
          (record {
            row = u.0;
            before = u.1;
            head_is = literal_same r.head (positive f) (and_left (same_literal r.head (positive f)) (body_holds m r) o);
            holds_in = and_right (same_literal r.head (positive f)) (body_holds m r) o;
          })
          (omega (arith, (d.sound f t).0))))

      default-start : (f : ℕ) → f < P.atoms → T (default P m f) → T (atom_holds start f)
      unfolding default
      default-start f h u =
          d.full f (omega arith)
          (not_T (atom_holds atoms f)
          (λ t.
          let x : Support book rows m (row_count rows) f = s.sound f t in
          let r : Rule = row_at book rows x.row in
          T_not (any (λ r. same_literal r.head (positive f) && body_holds m r) P.rules) u
          (any_of (λ r. same_literal r.head (positive f) && body_holds m r) (row_rule x.row x.before)
          (and_both (same_literal r.head (positive f)) (body_holds m r) (subst (λ (l : Literal). T (same_literal r.head l)) x.head_is (literal_refl r.head)) x.holds_in))))

      follows_derived : (l : Literal) → FollowsFrom book rows rejects start l → Derived P m l
      follows_derived l (from_start f t) = by_default f (let u : f < n = (d.sound f t).0 in omega arith) (start-default f t)
      follows_derived l (by_row r k a below) = by_rule r (in_rule r k) (alive_unrejected r (in_rule r k) a) (λ x i. follows_derived x (below x i))

      derived_follows : (l : Literal) → Derived P m l → FollowsFrom book rows rejects start l
      derived_follows l (by_default f h u) = from_start f (default-start f h u)
      derived_follows l (by_rule r k u below) = by_row r (rule_in_lem r k) (unrejected_alive r k u) (λ x i. derived_follows x (below x i))

      module _ {p q : List Bool} {c : Bool} (filled : Fills book rows rejects start p q c) (sz : length m ≡ n) where
        -- a fact reached both ways: the interpretation is not stable
        pub conflict_unstable : c ≡ true → false ≡ stable P m
        conflict_unstable e =
            sym (failed (stable P m) (λ t.
            let x : Conflict book rows rejects start = filled.clash e in
            let z : StableModel P m = stable_sound P m (sz ∙ en) t in
            let f : ℕ = x.atom in
            let y : Derived P m (positive f) = follows_derived (positive f) x.as_positive in
            let h : f < P.atoms = derived_lt P lw m (positive f) y in
            holds_one m f ((z.exact (positive f) h).0 y) ((z.exact (negative f) h).0 (follows_derived (negative f) x.as_negative))))

        -- the marks are exactly what is derived: the comparison decides
        module _ (quiet : c ≡ false) where
          derived_marked : (l : Literal) → Derived P m l → T (literal_marked p q l)
          derived_marked l r = filled.full quiet l (derived_follows l r)

          marked_derived : (l : Literal) → T (literal_marked p q l) → Derived P m l
          marked_derived l t = follows_derived l (filled.sound l t)

          marks_hold : T (stable P m) → (l : Literal) → l.atom < P.atoms → literal_marked p q l ≡ holds m l
          marks_hold t l h =
              let z : StableModel P m = stable_sound P m (sz ∙ en) t in
              same_test (literal_marked p q l) (holds m l) (λ u. (z.exact l h).0 (marked_derived l u)) (λ u. derived_marked l ((z.exact l h).1 u))

          hold_stable : P.constraints ≡ [] → ((l : Literal) → l.atom < P.atoms → literal_marked p q l ≡ holds m l) → T (stable P m)
          hold_stable free f =
              stable_complete P m
              (record { size = sz ∙ en; exact = λ l h. (λ r. subst T (f l h) (derived_marked l r), λ u. marked_derived l (subst T (sym (f l h)) u)); allowed = free-allowed P m free })

          pub agree_stable : P.constraints ≡ [] → (r : Bool) → r ≡ all (marks_agree p q m) (up_to n) → r ≡ stable P m
          agree_stable free r e =
              e ∙ same_test (all (marks_agree p q m) (up_to n)) (stable P m)
              (λ t. hold_stable free (λ l h. agree_literal p q m l (all_at (marks_agree p q m) t (up_to_has n l.atom (omega arith)))))
              (λ t. all_of (marks_agree p q m) (up_to n) (λ f k.
              let h : f < n = up_to_lt n f k in
              literal_agree p q m f (marks_hold t (positive f) (omega arith)) (marks_hold t (negative f) (omega arith))))
