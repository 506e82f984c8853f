-- One row, tried: it adds nothing, or a mark that follows, or meets the opposite of its head. Used by add_head. Assumes nothing.
use Rattle.table.specs.declared.Row.{Row}
use mathlib.Core.Path.{◌≡◌, refl, sym, subst}
use mathlib.Core.Bool.{Bool, true, false, true≢false}
use mathlib.Core.List.{List}
use Prim.Native.Nat.{ℕ, ◌-◌, ◌<◌, ◌≤◌}
use native.Mathlib.Decide.{dec_lt}
use native.Mathlib.Omega.{arith}
use lib.Dec.{T}
use lib.ListN.{set}
use Rattle.std.specs.Prelude.{Ok, Err}
use Rattle.base.specs.Bounds.{max_atoms, max_names}
use Rattle.format.specs.Book.{Literal}
use Rattle.models.specs.StableModels.{complement}
use Rattle.table.specs.Names.{literal_named}
use Rattle.table.specs.Rows.{row_count, head_name, row_at}
use Rattle.table.proofs.NameLaws.{name_low, name-high}
use Rattle.filling.specs.Marks.{Room, literal_marked, adds, FollowsFrom, Conflict, Tried}
use Rattle.filling.proofs.MarkLaws.{atom_low, atom_high, head_within}
use Rattle.filling.proofs.GrowingLaws.{OneMore, one_low, one_high, opposite_free, grown-none, grown_one, head-follows}

-- a fact both ways
conflict : {book : List ℕ} {rows : List Row} {rejects : List ℕ} {start : List Bool} (h : ℕ) → h < max_names → FollowsFrom book rows rejects start (literal_named h) → FollowsFrom book rows rejects start (complement (literal_named h)) → Conflict book rows rejects start
unfolding complement
conflict {book} {rows} {rejects} {start} h b x y = go (dec_lt h max_atoms)
  where
    go : Dec (h < max_atoms) → Conflict book rows rejects start
    go (yes k) = record {
      atom = h;
      bound = k;
      as_positive = subst (FollowsFrom book rows rejects start) (name_low h k) x;
      as_negative = subst (λ (l : Literal). FollowsFrom book rows rejects start (complement l)) (name_low h k) y;
    }
    go (no k) = record {
      atom = h - max_atoms;
      bound = omega arith;
      as_positive = subst (λ (l : Literal). FollowsFrom book rows rejects start (complement l)) (name-high h (omega arith)) y;
      as_negative = subst (FollowsFrom book rows rejects start) (name-high h (omega arith)) x;
    }

module _ {E : Type 0} {book : List ℕ} {rows : List Row} {rejects : List ℕ} {p q : List Bool} (w : Room rows p q) (j : ℕ) (b : j < row_count rows) where
  -- the head's name and the opposite's are in locals
  module _ (a : true ≡ adds p q rejects (row_at book rows j)) (h : ℕ) (e : h ≡ head_name rows j) (o : ℕ) (eo : literal_named o ≡ complement (literal_named h)) where
    pub tried_clash : (x : E) → h < max_names → true ≡ literal_marked p q (literal_named o) → Tried book rows rejects j p q p q (Err x)
    unfolding row_at
    tried_clash x k f = record { grown = grown-none p q; fewer = omega arith; idle = λ y. absurd (cc); clash = λ _ start v. conflict h k (head_is start v) (subst (FollowsFrom book rows rejects start) eo (v (literal_named o) (subst T f tt))) }
      where
        head_is : (start : List Bool) → ((l : Literal) → T (literal_marked p q l) → FollowsFrom book rows rejects start l) → FollowsFrom book rows rejects start (literal_named h)
        head_is start v = subst (λ (x : ℕ). FollowsFrom book rows rejects start (literal_named x)) (sym e) (head-follows p q j v b (sym a))

    module _ (f : false ≡ literal_marked p q (literal_named o)) where
      one_tried : {p' q' : List Bool} → OneMore p q p' q' (row_at book rows j).head → Tried {E = E} book rows rejects j p q p' q' (Ok true)
      one_tried m = record {
        grown = grown_one p q j b (sym a) m (opposite_free book rows rejects p q j (sym a) h e o eo false f refl);
        fewer = omega (arith, m.fewer);
        idle = λ y. absurd (cc);
        clash = λ y. absurd (true≢false (sym y));
      }

      pub tried_low : h < max_atoms → Tried {E = E} book rows rejects j p q (set p h true) q (Ok true)
      tried_low k = one_tried (one_low book rows rejects p q j (sym a) h e k (omega (arith, atom_low h k, head_within w j h b e)))

      pub tried_high : max_atoms ≤ h → Tried {E = E} book rows rejects j p q p (set q (h - max_atoms) true) (Ok true)
      tried_high k = one_tried (one_high book rows rejects p q j (sym a) h e k (omega (arith, w.same, atom_high h k, head_within w j h b e)))
