-- Marks that grow by rows that add their heads, in whatever order the rows are tried: none is lost, all of them follow, no
-- fact comes to be marked both ways, and the unmarked names fall. Used by the passes of fill and by the waiting lists. Assumes nothing.
use Rattle.table.specs.declared.Row.{Row}
use mathlib.Core.Path.{◌≡◌, refl, sym, ap, subst, ◌∙◌}
use mathlib.Core.Logic.{◌⊎◌, inl, inr, ⊎_elim}
use mathlib.Core.Bool.{Bool, true, false, not, ◌&&◌, cond, true≢false, false≢true}
use mathlib.Core.List.{List, [], ◌∷◌}
use Prim.Native.Nat.{ℕ, zero, suc, ◌+◌, ◌-◌, ◌<◌, ◌≤◌}
use native.Mathlib.Omega.{arith}
use lib.Dec.{T}
use lib.ListN.{length, get_or, set, length-set}
use Rattle.base.specs.Bounds.{max_atoms}
use Rattle.base.specs.Lists.{all}
use Rattle.format.specs.Book.{Literal}
use Rattle.models.specs.StableModels.{atom_holds, positive, negative, complement}
use Rattle.base.proofs.Members.{and_left, and_right, all_at}
use Rattle.table.specs.Names.{literal_named}
use Rattle.table.specs.Rows.{row_count, head_name, row_at, alive}
use Rattle.table.proofs.NameLaws.{name_low, name-high, complement_twice}
use Rattle.table.proofs.RowLaws.{row_in}
use Rattle.filling.proofs.MarkLaws.{set_only, set_keeps}
use Rattle.filling.specs.Marks.{literal_marked, adds, FollowsFrom, by_row, Apart, Grown, falses}

falses-set : (l : List Bool) (i : ℕ) → i < length l → get_or l i false ≡ false → falses (set l i true) + 1 ≡ falses l
unfolding falses
falses-set [] i h e = absurd (omega arith)
falses-set (b ∷ bs) zero h e = rw e (omega arith)
falses-set (b ∷ bs) (suc i) h e = omega (arith, falses-set bs i (omega arith) e)

-- where no mark is lost, no more are false
falses_fall : (l l' : List Bool) → length l' ≡ length l → ((i : ℕ) → T (get_or l i false) → T (get_or l' i false)) → falses l' ≤ falses l
unfolding falses
falses_fall [] [] e k = omega arith
falses_fall [] (b ∷ l') e k = absurd (omega arith)
falses_fall (a ∷ l) [] e k = absurd (omega arith)
falses_fall (a ∷ l) (b ∷ l') e k = omega (arith, head_falls a b (k 0), falses_fall l l' (omega arith) (λ i. k (suc i)))
  where
    head_falls : (x y : Bool) → (T x → T y) → cond y 0 1 ≤ cond x 0 1
    head_falls x true f = omega arith
    head_falls false false f = omega arith
    head_falls true false f = absurd (f tt)

-- a mark more
pub record OneMore (p q p' q' : List Bool) (x : Literal) : Type 0 where
  pub size : (length p' ≡ length p) × (length q' ≡ length q)
  pub only : (l : Literal) → T (literal_marked p' q' l) → T (literal_marked p q l) ⊎ (l ≡ x)
  pub keeps : (l : Literal) → T (literal_marked p q l) → T (literal_marked p' q' l)
  pub fewer : falses p' + falses q' + 1 ≡ falses p + falses q

off : (c : Bool) → T (not c) → c ≡ false
off true t = absurd t
off false t = refl

module _ (p q : List Bool) (h : ℕ) where
  more-low : h < max_atoms → h < length p → T (not (literal_marked p q (literal_named h))) → OneMore p q (set p h true) q (literal_named h)
  unfolding literal_marked atom_holds
  more-low b e n = record {
    size = (length-set p h true, refl);
    only = λ l t. at_only l.atom l.negated t;
    keeps = λ l t. at_keeps l.atom l.negated t;
    fewer = omega (arith, falses-set p h e (off (get_or p h false) (subst (λ (x : Literal). T (not (literal_marked p q x))) (name_low h b) n)));
  }
    where
      at_only : (f : ℕ) (c : Bool) → T (literal_marked (set p h true) q (record { atom = f; negated = c })) → T (literal_marked p q (record { atom = f; negated = c })) ⊎ (record { atom = f; negated = c } ≡ literal_named h)
      at_only f true t = inl t
      at_only f false t = ⊎_elim (λ u. inl u) (λ u. inr (ap (λ (x : ℕ). positive x) u ∙ sym (name_low h b))) (set_only p h f e t)

      at_keeps : (f : ℕ) (c : Bool) → T (literal_marked p q (record { atom = f; negated = c })) → T (literal_marked (set p h true) q (record { atom = f; negated = c }))
      at_keeps f true t = t
      at_keeps f false t = set_keeps p h f e t

  more-high : max_atoms ≤ h → h - max_atoms < length q → T (not (literal_marked p q (literal_named h))) → OneMore p q p (set q (h - max_atoms) true) (literal_named h)
  unfolding literal_marked atom_holds
  more-high b e n = record {
    size = (refl, length-set q (h - max_atoms) true);
    only = λ l t. at_only l.atom l.negated t;
    keeps = λ l t. at_keeps l.atom l.negated t;
    fewer = omega (arith, falses-set q (h - max_atoms) e (off (get_or q (h - max_atoms) false) (subst (λ (x : Literal). T (not (literal_marked p q x))) (name-high h b) n)));
  }
    where
      at_only : (f : ℕ) (c : Bool) → T (literal_marked p (set q (h - max_atoms) true) (record { atom = f; negated = c })) → T (literal_marked p q (record { atom = f; negated = c })) ⊎ (record { atom = f; negated = c } ≡ literal_named h)
      at_only f false t = inl t
      at_only f true t = ⊎_elim (λ u. inl u) (λ u. inr (ap (λ (x : ℕ). negative x) u ∙ sym (name-high h b))) (set_only q (h - max_atoms) f e t)

      at_keeps : (f : ℕ) (c : Bool) → T (literal_marked p q (record { atom = f; negated = c })) → T (literal_marked p (set q (h - max_atoms) true) (record { atom = f; negated = c }))
      at_keeps f false t = t
      at_keeps f true t = set_keeps q (h - max_atoms) f e t

-- a row that adds its head, whose name is h, marks one name more
module _ (book : List ℕ) (rows : List Row) (rejects : List ℕ) (p q : List Bool) (j : ℕ) (a : adds p q rejects (row_at book rows j) ≡ true) (h : ℕ) (e : h ≡ head_name rows j) where
  open_head : T (not (literal_marked p q (literal_named h)))
  unfolding row_at adds
  open_head =
      subst (λ (x : ℕ). T (not (literal_marked p q (literal_named x)))) (sym e)
      (and_left (not (literal_marked p q (row_at book rows j).head)) (alive rejects (row_at book rows j) && all (literal_marked p q) (row_at book rows j).body) (subst T (sym a) tt))

  pub one_low : h < max_atoms → h < length p → OneMore p q (set p h true) q (row_at book rows j).head
  unfolding row_at
  one_low k i = subst (λ (x : ℕ). OneMore p q (set p h true) q (literal_named x)) e (more-low p q h k i open_head)

  pub one_high : max_atoms ≤ h → h - max_atoms < length q → OneMore p q p (set q (h - max_atoms) true) (row_at book rows j).head
  unfolding row_at
  one_high k i = subst (λ (x : ℕ). OneMore p q p (set q (h - max_atoms) true) (literal_named x)) e (more-high p q h k i open_head)

  -- the opposite's name is in a local, and so is its mark
  pub opposite_free : (o : ℕ) → literal_named o ≡ complement (literal_named h) → (c : Bool) → c ≡ literal_marked p q (literal_named o) → c ≡ false → literal_marked p q (complement (row_at book rows j).head) ≡ false
  unfolding row_at
  opposite_free o eo c ec f = ap (λ (x : ℕ). literal_marked p q (complement (literal_named x))) (sym e) ∙ ap (literal_marked p q) (sym eo) ∙ sym ec ∙ f

-- what holds at every moment
pub record SoundMarks (book : List ℕ) (rows : List Row) (rejects : List ℕ) (start p q : List Bool) : Type 0 where
  pub sound : (l : Literal) → T (literal_marked p q l) → FollowsFrom book rows rejects start l
  pub started : (f : ℕ) → T (atom_holds start f) → T (atom_holds q f)

-- a literal is not its own opposite
two_signs : (l x : Literal) → l ≡ x → complement l ≡ x → ⊥
unfolding complement
two_signs l x a b = go l.negated (ap (λ (y : Literal). y.negated) (b ∙ sym a))
  where
    go : (c : Bool) → not c ≡ c → ⊥
    go true e = false≢true e
    go false e = true≢false e

-- a mark more, where the opposite is not marked
module _ {p q p' q' : List Bool} {x : Literal} (m : OneMore p q p' q' x) (free : literal_marked p q (complement x) ≡ false) where
  one_apart : Apart p q → Apart p' q'
  one_apart w l t u = go (m.only l t) (m.only (complement l) u)
    where
      unmarked : (y : Literal) → y ≡ complement x → T (literal_marked p q y) → ⊥
      unmarked y e k = subst T (ap (literal_marked p q) e ∙ free) k

      go : T (literal_marked p q l) ⊎ (l ≡ x) → T (literal_marked p q (complement l)) ⊎ (complement l ≡ x) → ⊥
      go (inl a) (inl b) = w l a b
      go (inl a) (inr b) = unmarked l (sym (complement_twice l) ∙ ap complement b) a
      go (inr a) (inl b) = unmarked (complement l) (ap complement a) b
      go (inr a) (inr b) = two_signs l x a b

module _ {book : List ℕ} {rows : List Row} {rejects : List ℕ} where
  -- what an adding row says
  module _ {start : List Bool} (p q : List Bool) (j : ℕ) (w : (l : Literal) → T (literal_marked p q l) → FollowsFrom book rows rejects start l) (h : j < row_count rows) (a : adds p q rejects (row_at book rows j) ≡ true) where
    rest_of : T (alive rejects (row_at book rows j) && all (literal_marked p q) (row_at book rows j).body)
    unfolding adds
    rest_of = and_right (not (literal_marked p q (row_at book rows j).head)) (alive rejects (row_at book rows j) && all (literal_marked p q) (row_at book rows j).body) (subst T (sym a) tt)

    pub head-follows : FollowsFrom book rows rejects start (row_at book rows j).head
    head-follows =
        by_row (row_at book rows j) (row_in book rows j h)
        (and_left (alive rejects (row_at book rows j)) (all (literal_marked p q) (row_at book rows j).body) rest_of)
        (λ l k. w l (all_at (literal_marked p q) (and_right (alive rejects (row_at book rows j)) (all (literal_marked p q) (row_at book rows j).body) rest_of) k))

  pub grown-none : (p q : List Bool) → Grown book rows rejects p q p q
  grown-none p q = record { keeps = λ l t. t; sound = λ start v. v; apart = λ w. w }

  pub grown_both : {p₀ q₀ p₁ q₁ p q : List Bool} → Grown book rows rejects p₀ q₀ p₁ q₁ → Grown book rows rejects p₁ q₁ p q → Grown book rows rejects p₀ q₀ p q
  grown_both g k = record { keeps = λ l t. k.keeps l (g.keeps l t); sound = λ start v. k.sound start (g.sound start v); apart = λ w. k.apart (g.apart w) }

  pub grown_one : (p q : List Bool) {p' q' : List Bool} (j : ℕ) → j < row_count rows → adds p q rejects (row_at book rows j) ≡ true → OneMore p q p' q' (row_at book rows j).head
      → literal_marked p q (complement (row_at book rows j).head) ≡ false → Grown book rows rejects p q p' q'
  grown_one p q j b a m free = record {
    keeps = m.keeps;
    sound = λ start v l u. ⊎_elim (v l) (λ e. subst (FollowsFrom book rows rejects start) (sym e) (head-follows p q j v b a)) (m.only l u);
    apart = one_apart m free;
  }

  module _ {p₀ q₀ p q : List Bool} (g : Grown book rows rejects p₀ q₀ p q) where
    pub grown-sound : {start : List Bool} → SoundMarks book rows rejects start p₀ q₀ → SoundMarks book rows rejects start p q
    unfolding atom_holds literal_marked
    grown-sound {start} w = record { sound = g.sound start w.sound; started = λ f t. g.keeps (negative f) (w.started f t) }

    pub grown_fewer : length p ≡ length p₀ → length q ≡ length q₀ → falses p + falses q ≤ falses p₀ + falses q₀
    unfolding atom_holds literal_marked
    grown_fewer x y = omega (arith, falses_fall p₀ p x (λ f. g.keeps (positive f)), falses_fall q₀ q y (λ f. g.keeps (negative f)))
