-- The stable model of a setting, as the code finds it: the start that the setting gives, agreement with it, and that what is
-- filled is the only state that can be stable there. Used by assume, covers, agrees, copy_marks, decide, model_from and model_at.
-- Assumes nothing.
use mathlib.Core.Path.{◌≡◌, refl, sym, ap, subst, ◌∙◌}
use mathlib.Core.Logic.{◌⊎◌, inl, inr}
use mathlib.Core.Bool.{Bool, true, false, not, ◌&&◌, beq, true≢false}
use mathlib.Core.List.Memᴰ
use mathlib.Core.List.{List, [], ◌∷◌}
use Prim.Native.Nat.{ℕ, zero, suc, ◌+◌, ◌<◌, ◌≤◌}
use native.Mathlib.Decide.{dec_lt, ℕ_discrete}
use native.Mathlib.Numerals.{add-one}
use native.Mathlib.Omega.{arith}
use borrow.Author.Tests.{not-true, not-false}
use lib.Dec.{T, eqb, eqb→eq, eqb_refl}
use lib.ListN.{length, get_or, set, drop, replicate, drop_of_length-le, get_or-eq_default}
use lib.Seq.{drop-cons, ext_get_or, get_or-set_same, get_or-set_other}
use Rattle.base.specs.Bounds.{max_atoms}
use Rattle.base.specs.Lists.{cons_if, all, any, up_to}
use Rattle.base.proofs.MapLaws.{map-length, map_at, constant_at}
use Rattle.base.proofs.Members.{◌∈◌, and_left, and_right, or_right, all_at, all_of, any_at, any_of, filter-from, same_test}
use Rattle.base.proofs.UpTo.{passed, up_to_lt}
use Rattle.layers.specs.Masks.{bit_of}
use Rattle.format.specs.Book.{Rule}
use Rattle.models.specs.Program.{Program}
use Rattle.models.specs.StableModels.{Interpretation, atom_holds, negative, signed, holds, body_holds, overrides, stable, StableModel, WellFormed}
use Rattle.models.specs.Branching.{can_reject, branching, branching_atoms}
use Rattle.models.proofs.BranchingLaws.{branch}
use Rattle.models.proofs.LeastLaws.{beq_same}
use Rattle.table.specs.Rows.{row_count, row_at, overridden}
use Rattle.table.specs.Table.{Tabulates}
use Rattle.table.specs.Tabled.{tabled}
use Rattle.table.proofs.RowLaws.{row_in}
use Rattle.table.proofs.TabledLaws.{tabled-free}
use Rattle.filling.specs.Marks.{literal_marked, Conflict, Fills}
use Rattle.tester.specs.Masks.{RejectedMasks}
use Rattle.tester.proofs.TestLaws.{in_rule}
use Rattle.leaf.specs.Contested.{Uncontested}
use Rattle.leaf.proofs.UncontestedLaws.{fills_wider, uncontested_stable}
use Rattle.leaf.proofs.SettingMarks.{SettingStart, no_conflict, marks_found}
use Rattle.insertion.proofs.Once.{Once}
use Rattle.base.proofs.EntryLaws.{entry_in}
use Rattle.setting.specs.Setting.{setting_of}
use Rattle.setting.specs.RuleMasks.{Low}
use Rattle.setting.proofs.SettingLaws.{SetAt, stands_at, at_stands}
use Rattle.leaf.specs.Found.{agree_on, fits, at_setting}
use Rattle.leaf.specs.Searchable.{Searchable, Choices, Denied, denied_of, Undisputed, Covered, Early, OnlyState}
use Rattle.leaf.proofs.FoundLaws.{branching-listed, branching-small, branching-once, setting_is, setting_none}
use Rattle.table.specs.declared.Row.{Row}

-- ---- the setting of a mask, and what it denies
index_of : (l : List ℕ) (f : ℕ) → f ∈ l → (k : ℕ) × (k < length l) × (get_or l k 0 ≡ f)
index_of [] f m = absurd (Memᴰ.not-nil m)
index_of (x ∷ l) f m = go (λ k. index_of l f k) (Memᴰ.cases_cons m)
  where
    go : (f ∈ l → (k : ℕ) × (k < length l) × (get_or l k 0 ≡ f)) → (f ≡ x) ⊎ f ∈ l → (k : ℕ) × (k < suc (length l)) × (get_or (x ∷ l) k 0 ≡ f)
    go r (inl e) = (0, omega arith, sym e)
    go r (inr k) = let q = r k in (suc q.0, omega (arith, q.1), q.2)

pub once-place : (xs : List ℕ) → Once xs → (i j : ℕ) → i < length xs → j < length xs → get_or xs i 0 ≡ get_or xs j 0 → i ≡ j
once-place [] w i j h k e = absurd (omega arith)
once-place (x ∷ xs) w zero zero h k e = refl
once-place (x ∷ xs) w zero (suc j) h k e = absurd (w.0 (subst (λ (y : ℕ). y ∈ xs) (sym e) (entry_in xs j 0 (omega arith))))
once-place (x ∷ xs) w (suc i) zero h k e = absurd (w.0 (subst (λ (y : ℕ). y ∈ xs) e (entry_in xs i 0 (omega arith))))
once-place (x ∷ xs) w (suc i) (suc j) h k e = ap suc (once-place xs w.1 i j (omega arith) (omega arith) e)

module _ {atoms : List ℕ} {n : ℕ} (w : Choices atoms n) where
  pub choices_low : Low atoms
  choices_low i h = omega (arith, w.low i h, w.facts_few)

  pub choices_same : (m : ℕ) → m ≡ n → Choices atoms m
  choices_same m e = subst (Choices atoms) (sym e) w

  listed-low : (f : ℕ) → f ∈ atoms → f < max_atoms
  listed-low f k = let q = index_of atoms f k in subst (λ (x : ℕ). x < max_atoms) q.2 (choices_low q.0 q.1)

  module _ (standing : ℕ) where
    abbrev O : Interpretation
    O = setting_of atoms standing

    denies : ℕ → Bool
    denies f = any (eqb f) atoms && not (atom_holds O f)

    denied_at : (f : ℕ) → f < max_atoms → atom_holds (denied_of atoms standing) f ≡ denies f
    unfolding denied_of atom_holds denies
    denied_at f h = map_at (λ f. any (eqb f) atoms && not (atom_holds O f)) max_atoms false f h

    denied-listed : (f : ℕ) → f ∈ atoms → atom_holds (denied_of atoms standing) f ≡ not (atom_holds O f)
    unfolding denies
    denied-listed f k = denied_at f (listed-low f k) ∙ ap (λ (c : Bool). c && not (atom_holds O f)) (passed (any (eqb f) atoms) (any_of (eqb f) k (eqb_refl f)))

    denied-size : length (denied_of atoms standing) ≡ max_atoms
    unfolding denied_of
    denied-size = map-length (λ f. any (eqb f) atoms && not (atom_holds O f)) max_atoms

    denied-from : (f : ℕ) → T (atom_holds (denied_of atoms standing) f) → Dec (f < max_atoms) → f ∈ atoms × T (not (atom_holds O f))
    unfolding atom_holds denies
    denied-from f t (no h) = absurd (subst T (get_or-eq_default (denied_of atoms standing) false (omega (arith, denied-size))) t)
    denied-from f t (yes h) =
        let u : T (any (eqb f) atoms && not (atom_holds O f)) = subst T (denied_at f h) t in
        let v = any_at (eqb f) atoms (and_left (any (eqb f) atoms) (not (atom_holds O f)) u) in
        (subst (λ (x : ℕ). x ∈ atoms) (sym (eqb→eq f v.0 v.2)) v.1, and_right (any (eqb f) atoms) (not (atom_holds O f)) u)

    pub denied_of_lem : Denied atoms O (denied_of atoms standing)
    denied_of_lem = record { sound = λ f t. denied-from f t (dec_lt f max_atoms); full = λ f k t. subst T (sym (denied-listed f k)) t }

    -- as the code reads it: bit i is in a local, and so is the i-th atom
    module _ {i : ℕ} (h : i < length atoms) (f : ℕ) (e : f ≡ get_or atoms i 0) (r : Bool) (er : r ≡ eqb (bit_of standing i) 1) where
      pub stands_is : r ≡ atom_holds O f
      unfolding atom_holds
      stands_is =
          er
          ∙ same_test (eqb (bit_of standing i) 1) (get_or O (get_or atoms i 0) false)
          (λ t. at_stands atoms standing (get_or atoms i 0) (choices_low i h) (record { place = i; before = h; atom_is = refl; bit = eqb→eq (bit_of standing i) 1 t }))
          (λ t.
          let x : SetAt atoms standing (length atoms) (get_or atoms i 0) = stands_at atoms standing (get_or atoms i 0) (choices_low i h) t in
          subst (λ (k : ℕ). T (eqb (bit_of standing k) 1)) (w.once x.place i x.before h x.atom_is) (subst (λ (y : ℕ). T (eqb y 1)) (sym x.bit) tt))
          ∙ ap (λ (x : ℕ). get_or O x false) (sym e)

      pub denied_is : not r ≡ atom_holds (denied_of atoms standing) f
      denied_is = ap not stands_is ∙ sym (denied-listed f (subst (λ (x : ℕ). x ∈ atoms) (sym e) (entry_in atoms i 0 h)))

-- ---- the undisputed part of the start, and what covers the rest
pub undisputed-start : (rejects : List ℕ) (start : List Bool) (n : ℕ) (blanks : List Bool) → blanks ≡ replicate {A = Bool} n false → Undisputed rejects start blanks
unfolding atom_holds
undisputed-start rejects start n blanks e = record { among = λ f t. absurd (none f t); clear = λ f t. absurd (none f t) }
  where
    none : (f : ℕ) → T (get_or blanks f false) → ⊥
    none f t = subst T (ap (λ (l : List Bool). get_or l f false) e ∙ constant_at false n f) t

pub undisputed-more : {rejects : List ℕ} {start assumed : List Bool} → Undisputed rejects start assumed → (f : ℕ) → f < length assumed → get_or rejects f 0 ≡ 0 → (v : Bool) → v ≡ atom_holds start f → Undisputed rejects start (set assumed f v)
unfolding atom_holds
undisputed-more {rejects} {start} {assumed} w f b z v e = record {
  among = λ g t. among_at g (ℕ_discrete g f) t;
  clear = λ g t. clear_at g (ℕ_discrete g f) t;
}
  where
    other : (g : ℕ) → (g ≡ f → ⊥) → T (get_or (set assumed f v) g false) → T (get_or assumed g false)
    other g n t = subst T (get_or-set_other assumed f g v false n) t

    among_at : (g : ℕ) → Dec (g ≡ f) → T (get_or (set assumed f v) g false) → T (get_or start g false)
    among_at g (no n) t = w.among g (other g n t)
    among_at g (yes q) t =
        subst (λ (x : ℕ). T (get_or start x false)) (sym q)
        (subst T (get_or-set_same assumed f v false b ∙ e) (subst (λ (x : ℕ). T (get_or (set assumed f v) x false)) q t))

    clear_at : (g : ℕ) → Dec (g ≡ f) → T (get_or (set assumed f v) g false) → get_or rejects g 0 ≡ 0
    clear_at g (no n) t = w.clear g (other g n t)
    clear_at g (yes q) t = ap (λ (x : ℕ). get_or rejects x 0) q ∙ z

-- ---- the marks that are kept
pub copied_more : (marks kept : List Bool) (f : ℕ) → f < length kept → ((g : ℕ) → g < f → get_or kept g false ≡ get_or marks g false) → (g : ℕ) → g < f + 1 → get_or (set kept f (get_or marks f false)) g false ≡ get_or marks g false
copied_more marks kept f h w g b = go (ℕ_discrete g f)
  where
    go : Dec (g ≡ f) → get_or (set kept f (get_or marks f false)) g false ≡ get_or marks g false
    go (yes q) = ap (λ (x : ℕ). get_or (set kept f (get_or marks f false)) x false) q ∙ get_or-set_same kept f (get_or marks f false) false h ∙ ap (λ (x : ℕ). get_or marks x false) (sym q)
    go (no n) = get_or-set_other kept f g (get_or marks f false) false n ∙ w g (omega arith)

pub copied_all : (marks kept : List Bool) (f : ℕ) → length kept ≡ length marks → length kept ≤ f → ((g : ℕ) → g < f → get_or kept g false ≡ get_or marks g false) → kept ≡ marks
copied_all marks kept f e h w = ext_get_or false kept marks e (λ g b. w g (omega arith))

-- ---- what covers the rest
module _ (atoms : List ℕ) (start q : List Bool) where
  -- one atom on, where the atom is marked or not of the start
  pub covered_more : {i : ℕ} → Covered atoms start q i → (f : ℕ) → f ≡ get_or atoms i 0 → (T (atom_holds start f) → T (atom_holds q f)) → Covered atoms start q (i + 1)
  covered_more {i} w f e k j b = go (dec_lt j i)
    where
      go : Dec (j < i) → T (atom_holds start (get_or atoms j 0)) → T (atom_holds q (get_or atoms j 0))
      go (yes y) = w j y
      go (no y) = let z : f ≡ get_or atoms j 0 = e ∙ ap (λ (x : ℕ). get_or atoms x 0) {x = i} {y = j} (omega arith) in subst (λ (x : ℕ). T (atom_holds start x) → T (atom_holds q x)) z k

  pub covered_start : {o : Interpretation} → Denied atoms o start → Covered atoms start q (length atoms) → (f : ℕ) → T (atom_holds start f) → T (atom_holds q f)
  covered_start d k f t =
      let x = index_of atoms f (d.sound f t).0 in
      subst (λ (y : ℕ). T (atom_holds q y)) x.2 (k x.0 x.1 (subst (λ (y : ℕ). T (atom_holds start y)) (sym x.2) t))

-- ---- agreement
module _ (atoms : List ℕ) (m o : Interpretation) where
  abbrev same : ℕ → Bool
  same f = beq (atom_holds m f) (atom_holds o f)

  -- the atoms from i on decide
  abbrev pub AgreeFrom : ℕ → Type 0
  AgreeFrom i = agree_on atoms m o ≡ agree_on (drop i atoms) m o

  pub agree_start : AgreeFrom 0
  agree_start = refl

  module _ (i : ℕ) (h : i < length atoms) (f : ℕ) (e : f ≡ get_or atoms i 0) (a b : Bool) (ea : a ≡ atom_holds m f) (eb : b ≡ atom_holds o f) where
    opened : agree_on (drop i atoms) m o ≡ (beq a b && agree_on (drop (i + 1) atoms) m o)
    unfolding agree_on all
    opened = rw (add-one i, drop-cons atoms i 0 h, ← e, ← ea, ← eb) refl

    pub agree_fails : AgreeFrom i → not (beq a b) ≡ true → false ≡ agree_on atoms m o
    agree_fails w q = sym (w ∙ opened ∙ ap (λ (c : Bool). c && agree_on (drop (i + 1) atoms) m o) (not-true (beq a b) q))

    pub agree_more : AgreeFrom i → not (beq a b) ≡ false → AgreeFrom (i + 1)
    agree_more w q = w ∙ opened ∙ ap (λ (c : Bool). c && agree_on (drop (i + 1) atoms) m o) (not-false (beq a b) q)

  pub agree_end : (i : ℕ) → length atoms ≤ i → AgreeFrom i → true ≡ agree_on atoms m o
  unfolding agree_on all
  agree_end i h w = sym (w ∙ ap (λ (l : List ℕ). agree_on l m o) (drop_of_length-le atoms {i = i} h))

-- ---- what is rejected: interpretations that agree on the branching atoms reject the same rules
module _ {P : Program} {book : List ℕ} {rows : List Row} (lw : WellFormed P) (table : Tabulates P book rows) where
  -- all atoms of a row that overrides a rule branch
  body_same : (m o : Interpretation) → ((f : ℕ) → T (branching P f) → atom_holds m f ≡ atom_holds o f) → (j i : ℕ) → j < row_count rows → bit_of (overridden rows j) i ≡ 1 → T (body_holds m (row_at book rows j)) → T (body_holds o (row_at book rows j))
  unfolding body_holds holds can_reject
  body_same m o same j i b z h =
      let t : Rule = row_at book rows j in
      let k : t ∈ P.rules = in_rule table t (row_in book rows j b) in
      let v = table.exact j b i z in
      let c : T (can_reject P t) = any_of (overrides P t) (in_rule table v.0 v.1) v.3 in
      all_of (holds o) t.body (λ l q. subst (λ (x : Bool). T (signed l.negated x)) (same l.atom (branch P lw t k l q (or_right l.negated (can_reject P t) c))) (all_at (holds m) h q))

  pub masks-same : {rejects : List ℕ} (m o : Interpretation) → ((f : ℕ) → T (branching P f) → atom_holds m f ≡ atom_holds o f) → RejectedMasks book rows o rejects (row_count rows) → RejectedMasks book rows m rejects (row_count rows)
  masks-same m o same g = record {
    size = g.size;
    sound = λ h i e. let x = g.sound h i e in record { row = x.row; before = x.before; facing = x.facing; holds_in = body_same o m (λ f b. sym (same f b)) x.row i x.before x.bit x.holds_in; bit = x.bit };
    full = λ h i x b. g.full h i (record { row = x.row; before = x.before; facing = x.facing; holds_in = body_same m o same x.row i x.before x.bit x.holds_in; bit = x.bit }) b;
  }

-- ---- the model
module _ {book : List ℕ} {rows : List Row} {atoms : List ℕ} {n : ℕ} (w : Searchable book rows atoms n) (o : Interpretation) where
  abbrev P : Program
  P = tabled book rows n

  at_listed : at_setting P atoms o ≡ at_setting P (branching_atoms P) o
  at_listed = ap (λ (l : List ℕ). at_setting P l o) w.listed

  pub setting_start : {start : List Bool} → Denied atoms o start → SettingStart P o start
  unfolding branching_atoms
  setting_start d = record {
    sound = λ f t.
        let r = d.sound f t in
        let k = filter-from (branching P) (up_to P.atoms) (subst (λ (l : List ℕ). f ∈ l) w.listed r.0) in
        (up_to_lt P.atoms f k.0, k.1, r.1);
    full = λ f h t u. d.full f (subst (λ (l : List ℕ). f ∈ l) (sym w.listed) (branching-listed P w.formed f t)) u;
  }

  -- a conflict
  pub model_conflict : {rejects : List ℕ} → RejectedMasks book rows o rejects (row_count rows) → {start : List Bool} → Denied atoms o start → Conflict book rows rejects start
      → (state : List Bool) → at_setting P atoms o ≡ cons_if false state []
  unfolding cons_if
  model_conflict g d x state =
      at_listed ∙ setting_none P w.formed o (λ m sm same. no_conflict w.formed w.table g (setting_start d) sm same x)

  module _ {rejects : List ℕ} {p early : List Bool} (k : OnlyState book rows rejects atoms o p early) (l : length p ≡ n) where
    size : length p ≡ P.atoms
    size = l ∙ w.size

    only : (m : Interpretation) → StableModel P m → ((f : ℕ) → T (branching P f) → atom_holds m f ≡ atom_holds o f) → m ≡ p
    unfolding atom_holds
    only m sm same =
        ext_get_or false m p (sm.size ∙ sym size)
        (λ f h.
        let b : f < P.atoms = subst (λ (k : ℕ). f < k) sm.size h in
        sym (marks_found w.formed w.table k.masks (setting_start k.denied) sm same k.filled refl f b))

    model_is : at_setting P atoms o ≡ cons_if (stable P p && agree_on atoms p o) p []
    unfolding fits
    model_is =
        at_listed ∙ setting_is P w.formed o p size only
        ∙ ap (λ (l : List ℕ). cons_if (stable P p && agree_on l p o) p []) (sym w.listed)

    and_false : (a : Bool) → (a && false) ≡ false
    and_false true = refl
    and_false false = refl

    and_true : (a : Bool) → (a && true) ≡ a
    and_true true = refl
    and_true false = refl

    module _ (a : Bool) (ea : a ≡ agree_on atoms p o) where
      pub model_apart : not a ≡ true → at_setting P atoms o ≡ cons_if false p []
      model_apart t =
          model_is ∙ ap (λ (x : Bool). cons_if (stable P p && x) p []) (sym ea ∙ not-true a t)
          ∙ ap (λ (x : Bool). cons_if x p []) (and_false (stable P p))

      pub model_tested : not a ≡ false → (s : Bool) → s ≡ stable P p → at_setting P atoms o ≡ cons_if s p []
      model_tested t s es =
          model_is ∙ ap (λ (x : Bool). cons_if (stable P p && x) p []) (sym ea ∙ not-false a t)
          ∙ ap (λ (x : Bool). cons_if x p []) (and_true (stable P p) ∙ sym es)

      module _ (t : not a ≡ false) where
        agrees_all : T (agree_on atoms p o)
        agrees_all = subst T (sym (sym ea ∙ not-false a t)) tt

        same-on : (f : ℕ) → T (branching P f) → atom_holds p f ≡ atom_holds o f
        unfolding agree_on
        same-on f b =
            beq_same (atom_holds p f) (atom_holds o f)
            (all_at (λ g. beq (atom_holds p g) (atom_holds o g)) agrees_all (subst (λ (l : List ℕ). f ∈ l) (sym w.listed) (branching-listed P w.formed f b)))

        -- the same rules are rejected in it
        pub model_masks : RejectedMasks book rows p rejects (row_count rows)
        model_masks = masks-same w.formed w.table p o same-on k.masks

        -- it is stable where no rejected rule is contested
        pub model_uncontested : (r : Bool) → (r ≡ false → Uncontested book rows rejects p early (row_count rows)) → not r ≡ true → at_setting P atoms o ≡ cons_if true p []
        model_uncontested r er tr = model_tested t true (sym (passed (stable P p) found))
          where
            found : T (stable P p)
            found =
                uncontested_stable w.formed w.table k.masks (setting_start k.denied) k.before.undisputed.among k.before.undisputed.clear k.before.follows k.filled refl p size (λ f h. refl) same-on
                (er (not-true r tr)) (tabled-free book rows n)

-- ---- the filling from the undisputed part of the start
module _ {book : List ℕ} {rows : List Row} {rejects : List ℕ} {start assumed : List Bool} (u : Undisputed rejects start assumed) {p q : List Bool} {c : Bool} (filled : Fills book rows rejects assumed p q c) where
  -- a conflict from the part is one from all of it
  pub early_conflict : c ≡ true → Conflict book rows rejects start
  early_conflict e = (fills_wider u.among filled (λ f. absurd (true≢false (sym e ∙ f)))).clash e

  pub early_marks : Early book rows rejects start q
  unfolding literal_marked
  early_marks = record { assumed = assumed; undisputed = u; follows = λ f t. filled.sound (negative f) t }

  -- where it comes to mark the rest of the start it is the filling from all of it
  pub covered_candidate : {atoms : List ℕ} {o : Interpretation} → RejectedMasks book rows o rejects (row_count rows) → Denied atoms o start → (k : Bool) → (k ≡ true → Covered atoms start q (length atoms)) → k ≡ true → c ≡ false
      → OnlyState book rows rejects atoms o p q
  covered_candidate {atoms} g d k ek tk e = record {
    masks = g;
    start = start;
    denied = d;
    before = early_marks;
    negations = q;
    filled = subst (λ (x : Bool). Fills book rows rejects start p q x) e (fills_wider u.among filled (λ z. covered_start atoms start q d (ek tk)));
  }

-- the filling from all of the start
pub filled-candidate : {book : List ℕ} {rows : List Row} {rejects atoms : List ℕ} {o : Interpretation} {start early p q : List Bool} {c : Bool} → RejectedMasks book rows o rejects (row_count rows) → Denied atoms o start → Early book rows rejects start early
    → Fills book rows rejects start p q c → c ≡ false → OnlyState book rows rejects atoms o p early
filled-candidate {book} {rows} {rejects} {atoms} {o} {start} {early} {p} {q} {c} g d b filled e = record {
  masks = g;
  start = start;
  denied = d;
  before = b;
  negations = q;
  filled = subst (λ (x : Bool). Fills book rows rejects start p q x) e filled;
}

-- the branching facts, as the functions of a setting ask for them
pub choices : {book : List ℕ} {rows : List Row} {atoms : List ℕ} {n : ℕ} → Searchable book rows atoms n → (m : ℕ) → m ≡ n → Choices atoms m
unfolding branching_atoms
choices {book} {rows} {atoms} {n} w m e = record {
  few = w.atoms_few;
  low = λ i h. omega (arith, e, w.size, branching-small _ w.formed (get_or atoms i 0) (subst (λ (fs : List ℕ). get_or atoms i 0 ∈ fs) w.listed (entry_in atoms i 0 h)));
  once = once-place atoms (subst Once (sym w.listed) (branching-once (tabled book rows n) w.formed));
  facts_few = omega (arith, e, w.few);
}

-- every branching fact is one that there may be
pub atoms-low : {book : List ℕ} {rows : List Row} {atoms : List ℕ} {n : ℕ} → Searchable book rows atoms n → Low atoms
unfolding branching_atoms
atoms-low {atoms = atoms} w i h =
    let k : get_or atoms i 0 ∈ branching_atoms (tabled _ _ _) = subst (λ (fs : List ℕ). get_or atoms i 0 ∈ fs) w.listed (entry_in atoms i 0 h) in
    omega (arith, w.size, w.few, branching-small _ w.formed (get_or atoms i 0) k)
