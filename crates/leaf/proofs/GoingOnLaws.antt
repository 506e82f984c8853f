-- The filling from all that a setting denies goes on from the marks of an earlier one from a part of it: a denied fact among those that
-- are reached is a conflict; else the marks, joined with what is denied, are as good to go on from as the start itself. Used by
-- reaches_denied, join, model_from and model_at. Assumes nothing.
use mathlib.Core.Path.{◌≡◌, refl, sym, ap, subst, ◌∙◌}
use mathlib.Core.Logic.{◌⊎◌, inl, inr, ⊎_elim}
use mathlib.Core.Bool.{Bool, true, false, not, ◌&&◌, ◌||◌}
use mathlib.Core.List.{List, Memᴰ}
use Prim.Native.Nat.{ℕ, ◌+◌, ◌<◌, ◌≤◌}
use native.Mathlib.Decide.{ℕ_discrete}
use native.Mathlib.Numerals.{add-one}
use native.Mathlib.Omega.{arith}
use borrow.Author.Tests.{not-true}
use lib.Dec.{T}
use lib.ListN.{length, get_or, set, drop, drop_of_length-le}
use lib.Seq.{drop-cons, get_or-set_same, get_or-set_other}
use Rattle.base.specs.Lists.{any}
use Rattle.std.proofs.lemmas.Bool as bools
use Rattle.base.proofs.Members.{and_left, and_right, and_both, any_at, any_of}
use Rattle.models.specs.StableModels.{Interpretation, atom_holds, positive, negative, complement}
use Rattle.filling.specs.Marks.{literal_marked, FollowsFrom, from_start, Apart, Conflict, FilledOn, Fills}
use Rattle.filling.proofs.GrowingLaws.{SoundMarks}
use Rattle.filling.proofs.FillingLaws.{filled_on}
use Rattle.base.proofs.EntryLaws.{entry_in}
use Rattle.leaf.proofs.UncontestedLaws.{follows_wider}
use Rattle.leaf.specs.Searchable.{Searchable, Denied, Undisputed, Covered, denies_any, reaches_denied, Joined, Begun}
use Rattle.leaf.proofs.ModelLaws.{setting_start, covered_start, covered_more}
use Rattle.table.specs.declared.Row.{Row}

-- ---- whether a denied fact passes a test
module _ (atoms : List ℕ) (start : List Bool) (p : ℕ → Bool) where
  -- the atoms from i on decide
  abbrev pub DenyFrom : ℕ → Type 0
  DenyFrom i = denies_any atoms start p ≡ denies_any (drop i atoms) start p

  module _ {i : ℕ} (h : i < length atoms) where
    abbrev f : ℕ
    f = get_or atoms i 0

    opened : denies_any (drop i atoms) start p ≡ ((atom_holds start f && p f) || denies_any (drop (i + 1) atoms) start p)
    unfolding denies_any any
    opened = rw (add-one i, drop-cons atoms i 0 h) refl

    pub deny_met : DenyFrom i → (a b : Bool) → a ≡ atom_holds start f → b ≡ p f → a ≡ true → b ≡ true → true ≡ denies_any atoms start p
    deny_met w a b ea eb ta tb = sym (w ∙ opened ∙ rw (← ea, ← eb, ta, tb) refl)

    deny_more : DenyFrom i → (atom_holds start f && p f) ≡ false → DenyFrom (i + 1)
    deny_more w q = w ∙ opened ∙ ap (λ (c : Bool). c || denies_any (drop (i + 1) atoms) start p) q

    pub deny_other : DenyFrom i → (a : Bool) → a ≡ atom_holds start f → a ≡ false → DenyFrom (i + 1)
    deny_other w a ea n = deny_more w (ap (λ (c : Bool). c && p f) (sym ea ∙ n))

    pub deny_not : DenyFrom i → (b : Bool) → b ≡ p f → b ≡ false → DenyFrom (i + 1)
    deny_not w b eb n = deny_more w (bools.and_right (atom_holds start f) (p f) (sym eb ∙ n))

  pub deny_end : (i : ℕ) → length atoms ≤ i → DenyFrom i → false ≡ denies_any atoms start p
  unfolding denies_any any
  deny_end i h w = sym (w ∙ ap (λ (l : List ℕ). denies_any l start p) (drop_of_length-le atoms {i = i} h))

-- all of them are marked, where none is not
pub covered_none : (atoms : List ℕ) (start q : List Bool) (r : Bool) → r ≡ denies_any atoms start (λ f. not (atom_holds q f)) → not r ≡ true → Covered atoms start q (length atoms)
unfolding denies_any
covered_none atoms start q r e n i h t = go (get_or atoms i 0) (entry_in atoms i 0 h) t (atom_holds q (get_or atoms i 0)) refl
  where
    go : (f : ℕ) → Memᴰ f atoms → T (atom_holds start f) → (b : Bool) → atom_holds q f ≡ b → T (atom_holds q f)
    go f k s true eb = subst T (sym eb) tt
    go f k s false eb =
        let u : T (any (λ f. atom_holds start f && not (atom_holds q f)) atoms) =
        any_of (λ f. atom_holds start f && not (atom_holds q f)) k (and_both (atom_holds start f) (not (atom_holds q f)) s (subst (λ (x : Bool). T (not x)) (sym eb) tt)) in
        absurd (subst T (sym e ∙ not-true r n) u)

-- ---- the marks joined with the start
module _ (atoms : List ℕ) (start q : List Bool) where
  pub joined-start : Joined atoms start q q 0
  joined-start = record { sound = λ f t. inl t; keeps = λ f t. t; full = λ i h. absurd (omega arith) }

  module _ {joined : List Bool} {i : ℕ} (w : Joined atoms start q joined i) (f : ℕ) (e : f ≡ get_or atoms i 0) where
    pub joined_skip : atom_holds start f ≡ false → Joined atoms start q joined (i + 1)
    unfolding atom_holds
    joined_skip n = record { sound = w.sound; keeps = w.keeps; full = covered_more atoms start joined w.full f e (λ t. absurd (subst T n t)) }

    pub joined-more : f < length joined → atom_holds start f ≡ true → Joined atoms start q (set joined f true) (i + 1)
    unfolding atom_holds
    joined-more b y = record {
      sound = λ g t. from g (ℕ_discrete g f) t;
      keeps = λ g t. kept g (ℕ_discrete g f) (w.keeps g t);
      full = covered_more atoms start (set joined f true) (λ j h t. kept (get_or atoms j 0) (ℕ_discrete (get_or atoms j 0) f) (w.full j h t)) f e (λ t. here);
    }
      where
        here : T (get_or (set joined f true) f false)
        here = subst T (sym (get_or-set_same joined f true false b)) tt

        kept : (g : ℕ) → Dec (g ≡ f) → T (get_or joined g false) → T (get_or (set joined f true) g false)
        kept g (yes u) t = subst (λ (x : ℕ). T (get_or (set joined f true) x false)) (sym u) here
        kept g (no n) t = subst T (sym (get_or-set_other joined f g true false n)) t

        from : (g : ℕ) → Dec (g ≡ f) → T (get_or (set joined f true) g false) → T (get_or q g false) ⊎ T (get_or start g false)
        from g (yes u) t = inr (subst T (sym (ap (λ (x : ℕ). get_or start x false) u ∙ y)) tt)
        from g (no n) t = w.sound g (subst T (get_or-set_other joined f g true false n) t)

-- ---- the filling from all of the start
-- what was reached from a part of it
pub early_begun : {book : List ℕ} {rows : List Row} {rejects : List ℕ} {start assumed : List Bool} → Undisputed rejects start assumed → {p q : List Bool} {c : Bool} → Fills book rows rejects assumed p q c → c ≡ false → Begun book rows rejects start p q
early_begun u filled e = record { sound = λ l t. follows_wider u.among l (filled.sound l t); apart = filled.apart e }

module _ {book : List ℕ} {rows : List Row} {rejects : List ℕ} {start p q : List Bool} (b : Begun book rows rejects start p q) {atoms : List ℕ} {o : Interpretation} (d : Denied atoms o start) (r : Bool) (er : r ≡ reaches_denied atoms start p) where
  -- a denied fact that is reached follows both ways
  pub denied_conflict : {n : ℕ} → Searchable book rows atoms n → r ≡ true → Conflict book rows rejects start
  unfolding reaches_denied literal_marked
  denied_conflict w t =
      let x = any_at (λ f. atom_holds start f && atom_holds p f) atoms (subst T (sym (sym er ∙ t)) tt) in
      let f : ℕ = x.0 in
      let s : T (atom_holds start f) = and_left (atom_holds start f) (atom_holds p f) x.2 in
      record {
        atom = f;
        bound = omega (arith, ((setting_start w o d).sound f s).0, w.size, w.few);
        as_positive = b.sound (positive f) (and_right (atom_holds start f) (atom_holds p f) x.2);
        as_negative = from_start f s;
      }

  module _ (n : r ≡ false) {joined : List Bool} (j : Joined atoms start q joined (length atoms)) where
    joined-sound : SoundMarks book rows rejects start p joined
    unfolding literal_marked
    joined-sound = record { sound = λ l t. follows l.atom l.negated t; started = covered_start atoms start joined d j.full }
      where
        follows : (f : ℕ) (c : Bool) → T (literal_marked p joined (record { atom = f; negated = c })) → FollowsFrom book rows rejects start (record { atom = f; negated = c })
        follows f true t = ⊎_elim (λ u. b.sound (negative f) u) (λ u. from_start f u) (j.sound f t)
        follows f false t = b.sound (positive f) t

    -- no fact that is reached is denied, or was already
    joined_free : (f : ℕ) → T (atom_holds p f) → T (atom_holds joined f) → ⊥
    unfolding reaches_denied literal_marked complement
    joined_free f t u =
        ⊎_elim (λ k. b.apart (positive f) t k)
        (λ k. subst T (sym er ∙ n) (any_of (λ g. atom_holds start g && atom_holds p g) (d.sound f k).0 (and_both (atom_holds start f) (atom_holds p f) k t)))
        (j.sound f u)

    joined-apart : Apart p joined
    unfolding literal_marked complement
    joined-apart l = apart_at_lem l.atom l.negated
      where
        apart_at_lem : (f : ℕ) (c : Bool) → T (literal_marked p joined (record { atom = f; negated = c })) → T (literal_marked p joined (complement (record { atom = f; negated = c }))) → ⊥
        apart_at_lem f true t u = joined_free f u t
        apart_at_lem f false t u = joined_free f t u

    pub going_on : {p' q' : List Bool} {c : Bool} → FilledOn book rows rejects p joined p' q' c → Fills book rows rejects start p' q' c
    going_on w = filled_on joined-sound joined-apart w
