-- Rejection by masks, supported atoms, violated rows, and the other atoms: what the loops keep, row by row and atom by atom. Used by
-- row_mask, reject, supported and mark_defaults. Assumes nothing.
use Rattle.table.specs.declared.Row.{Row}
use mathlib.Core.Path.{◌≡◌, sym, ap, subst, ◌∙◌}
use mathlib.Core.Logic.{⊎_elim}
use mathlib.Core.Bool.{Bool, true, false, not, cond, true≢false}
use mathlib.Core.List.{List}
use Prim.Native.Nat.{ℕ, ◌+◌, ◌<◌, ◌≤◌}
use native.Mathlib.Decide.{dec_lt, ℕ_discrete}
use native.Mathlib.Omega.{arith}
use lib.Bits.{bit_or}
use lib.Dec.{T}
use lib.ListN.{length, get_or, set, length-set, replicate, length-replicate, get_or-eq_default}
use lib.Seq.{get_or-set_same, get_or-set_other}
use Rattle.base.specs.Bounds.{max_atoms, max_names}
use Rattle.layers.specs.Masks.{bit_of}
use Rattle.format.specs.Book.{Literal}
use Rattle.models.specs.StableModels.{Interpretation, atom_holds, positive, complement, holds, body_holds}
use Rattle.layers.proofs.BitLaws.{no_bits, zero_bit, or_cases, or_left, or_right}
use Rattle.table.specs.Names.{literal_named}
use Rattle.table.specs.Rows.{head_name, row_at, overridden, alive}
use Rattle.table.proofs.NameLaws.{name_low, name-high, one_name}
use Rattle.tester.specs.Masks.{Rejection, RejectedMasks, Support, Supported, Violation, Others}
use Rattle.filling.proofs.MarkLaws.{blank, set_only, set_keeps}

-- rejection
module _ {book : List ℕ} {rows : List Row} {m : Interpretation} where
  pub rejects_start : (rejects : List ℕ) → rejects ≡ replicate {A = ℕ} max_names 0 → RejectedMasks book rows m rejects 0
  rejects_start rejects z = rw z (record {
    size = length-replicate {A = ℕ} max_names 0;
    sound = λ h i e. absurd (zero_bit (get_or (replicate {A = ℕ} max_names 0) h 0) i (no_bits max_names h) e);
    full = λ h i x b. absurd (omega (arith, x.before));
  })

  later : {j h i : ℕ} → Rejection book rows m j h i → Rejection book rows m (j + 1) h i
  later x = record { row = x.row; before = omega (arith, x.before); facing = x.facing; holds_in = x.holds_in; bit = x.bit }

  -- one row on that rejects nothing: its body does not hold, or it overrides no rule
  pub rejects_skip : {rejects : List ℕ} {j : ℕ} → RejectedMasks book rows m rejects j → (mask : ℕ) → mask ≡ cond (body_holds m (row_at book rows j)) (overridden rows j) 0 → mask ≡ 0
      → RejectedMasks book rows m rejects (j + 1)
  rejects_skip {rejects} {j} w mask e z = record { size = w.size; sound = λ x i y. later (w.sound x i y); full = λ x i y k. go x i y k (dec_lt y.row j) }
    where
      none : (c : Bool) (i : ℕ) → mask ≡ cond c (overridden rows j) 0 → T c → bit_of (overridden rows j) i ≡ 1 → ⊥
      none true i q t a = zero_bit (overridden rows j) i (sym q ∙ z) a
      none false i q t a = absurd t

      go : (x i : ℕ) (y : Rejection book rows m (j + 1) x i) → x < max_names → Dec (y.row < j) → bit_of (get_or rejects x 0) i ≡ 1
      go x i y k (yes a) = w.full x i (record { row = y.row; before = a; facing = y.facing; holds_in = y.holds_in; bit = y.bit }) k
      go x i y k (no n) =
          let q : y.row ≡ j = omega (arith, y.before) in
          absurd (none (body_holds m (row_at book rows j)) i e (subst (λ (r : ℕ). T (body_holds m (row_at book rows r))) q y.holds_in) (subst (λ (r : ℕ). bit_of (overridden rows r) i ≡ 1) q y.bit))

  -- one row on: at the name o opposite to the row's head h, the row's mask joins
  module _ {rejects : List ℕ} {j : ℕ} (w : RejectedMasks book rows m rejects j) (h o mask : ℕ) (eh : h ≡ head_name rows j)
      (eo : literal_named o ≡ complement (literal_named h)) (b : o < max_names) (e : mask ≡ cond (body_holds m (row_at book rows j)) (overridden rows j) 0) where
    abbrev joined : ℕ
    joined = bit_or (get_or rejects o 0) mask

    faces : literal_named o ≡ complement (row_at book rows j).head
    unfolding row_at
    faces = eo ∙ ap (λ (x : ℕ). complement (literal_named x)) eh

    from-mask : (i : ℕ) → bit_of mask i ≡ 1 → T (body_holds m (row_at book rows j)) × (bit_of (overridden rows j) i ≡ 1)
    from-mask i = go (body_holds m (row_at book rows j)) e
      where
        go : (c : Bool) → mask ≡ cond c (overridden rows j) 0 → bit_of mask i ≡ 1 → T c × (bit_of (overridden rows j) i ≡ 1)
        go true q z = (tt, rw q at z)
        go false q z = absurd (zero_bit mask i q z)

    to-mask : (i : ℕ) → T (body_holds m (row_at book rows j)) → bit_of (overridden rows j) i ≡ 1 → bit_of mask i ≡ 1
    to-mask i = go (body_holds m (row_at book rows j)) e
      where
        go : (c : Bool) → mask ≡ cond c (overridden rows j) 0 → T c → bit_of (overridden rows j) i ≡ 1 → bit_of mask i ≡ 1
        go true q t z = rw q z
        go false q t z = absurd t

    at_o : (x : ℕ) → x ≡ o → get_or (set rejects o joined) x 0 ≡ joined
    at_o x q = ap (λ (y : ℕ). get_or (set rejects o joined) y 0) q ∙ get_or-set_same rejects o joined 0 (omega (arith, w.size))

    pub rejects_more : RejectedMasks book rows m (set rejects o joined) (j + 1)
    rejects_more = record {
      size = length-set rejects o joined ∙ w.size;
      sound = λ x i z. sound_at x i (ℕ_discrete x o) z;
      full = λ x i y k. full_at x i y k (dec_lt y.row j);
    }
      where
        sound_at : (x i : ℕ) → Dec (x ≡ o) → bit_of (get_or (set rejects o joined) x 0) i ≡ 1 → Rejection book rows m (j + 1) x i
        sound_at x i (no n) z = later (w.sound x i (subst (λ (y : ℕ). bit_of y i ≡ 1) (get_or-set_other rejects o x joined 0 n) z))
        sound_at x i (yes q) z =
            ⊎_elim
            (λ y. later (w.sound x i (subst (λ (k : ℕ). bit_of (get_or rejects k 0) i ≡ 1) (sym q) y)))
            (λ y. record { row = j; before = omega arith; facing = ap literal_named q ∙ faces; holds_in = (from-mask i y).0; bit = (from-mask i y).1 })
            (or_cases (get_or rejects o 0) mask i (subst (λ (k : ℕ). bit_of k i ≡ 1) (at_o x q) z))

        keeps : (x i : ℕ) → Dec (x ≡ o) → bit_of (get_or rejects x 0) i ≡ 1 → bit_of (get_or (set rejects o joined) x 0) i ≡ 1
        keeps x i (no n) z = subst (λ (y : ℕ). bit_of y i ≡ 1) (sym (get_or-set_other rejects o x joined 0 n)) z
        keeps x i (yes q) z = subst (λ (y : ℕ). bit_of y i ≡ 1) (sym (at_o x q)) (or_left (get_or rejects o 0) mask i (subst (λ (y : ℕ). bit_of (get_or rejects y 0) i ≡ 1) q z))

        full_at : (x i : ℕ) (y : Rejection book rows m (j + 1) x i) → x < max_names → Dec (y.row < j) → bit_of (get_or (set rejects o joined) x 0) i ≡ 1
        full_at x i y k (yes a) = keeps x i (ℕ_discrete x o) (w.full x i (record { row = y.row; before = a; facing = y.facing; holds_in = y.holds_in; bit = y.bit }) k)
        full_at x i y k (no n) =
            let q : y.row ≡ j = omega (arith, y.before) in
            let p : x ≡ o = one_name x o (y.facing ∙ ap (λ (z : ℕ). complement (row_at book rows z).head) q ∙ sym faces) in
            subst (λ (z : ℕ). bit_of z i ≡ 1) (sym (at_o x p))
            (or_right (get_or rejects o 0) mask i
            (to-mask i (subst (λ (z : ℕ). T (body_holds m (row_at book rows z))) q y.holds_in) (subst (λ (z : ℕ). bit_of (overridden rows z) i ≡ 1) q y.bit)))

-- support
module _ {book : List ℕ} {rows : List Row} {m : Interpretation} where
  pub supported_start : (n : ℕ) → n ≤ max_atoms → (atoms : List Bool) → atoms ≡ replicate n false → Supported book rows m atoms 0
  unfolding atom_holds
  supported_start n h atoms e = record {
    few = omega (arith, ap length e, length-replicate {A = Bool} n false);
    sound = λ f t. absurd (subst T (ap (λ (l : List Bool). get_or l f false) e ∙ blank n f) t);
    full = λ f x b. absurd (omega (arith, x.before));
  }

  support-later : {j f : ℕ} → Support book rows m j f → Support book rows m (j + 1) f
  support-later x = record { row = x.row; before = omega (arith, x.before); head_is = x.head_is; holds_in = x.holds_in }

  -- one row on, where what row j supports is among the atoms
  module _ {atoms : List Bool} {j : ℕ} (w : Supported book rows m atoms j) where
    supported_same : ((f : ℕ) → f < length atoms → (row_at book rows j).head ≡ positive f → T (body_holds m (row_at book rows j)) → T (atom_holds atoms f)) → Supported book rows m atoms (j + 1)
    supported_same n = record {
      few = w.few;
      sound = λ f t. support-later (w.sound f t);
      full = λ f x b. go f x b (dec_lt x.row j);
    }
      where
        go : (f : ℕ) (x : Support book rows m (j + 1) f) → f < length atoms → Dec (x.row < j) → T (atom_holds atoms f)
        go f x b (yes y) = w.full f (record { row = x.row; before = y; head_is = x.head_is; holds_in = x.holds_in }) b
        go f x b (no y) =
            let q : x.row ≡ j = omega (arith, x.before) in
            n f b (subst (λ (z : ℕ). (row_at book rows z).head ≡ positive f) q x.head_is) (subst (λ (z : ℕ). T (body_holds m (row_at book rows z))) q x.holds_in)

    -- a body that does not hold
    pub supported_not : (r : Bool) → r ≡ body_holds m (row_at book rows j) → r ≡ false → Supported book rows m atoms (j + 1)
    supported_not r q n = supported_same (λ f k p t. absurd (subst T (sym q ∙ n) t))

    module _ (h : ℕ) (e : h ≡ head_name rows j) where
      named : h < max_atoms → (row_at book rows j).head ≡ positive h
      unfolding row_at
      named b = ap literal_named (sym e) ∙ name_low h b

      head_of : h < max_atoms → (f : ℕ) → (row_at book rows j).head ≡ positive f → h ≡ f
      head_of b f q = ap (λ (l : Literal). l.atom) (sym (named b) ∙ q)

      -- a negated head, or a plain one that has no place
      pub supported_other : length atoms ≤ h → Supported book rows m atoms (j + 1)
      unfolding row_at
      supported_other b = supported_same (λ f k q t. absurd (away f k q (dec_lt h max_atoms)))
        where
          away : (f : ℕ) → f < length atoms → literal_named (head_name rows j) ≡ positive f → Dec (h < max_atoms) → ⊥
          away f k q (yes y) = let z : h ≡ f = head_of y f q in omega arith
          away f k q (no y) = true≢false (ap (λ (l : Literal). l.negated) (sym (name-high h (omega arith)) ∙ ap literal_named e ∙ q))

      pub supported_more : (r : Bool) → h < length atoms → r ≡ body_holds m (row_at book rows j) → r ≡ true → Supported book rows m (set atoms h true) (j + 1)
      unfolding atom_holds
      supported_more r b q n = record {
        few = omega (arith, length-set atoms h true, w.few);
        sound = λ f u. ⊎_elim (λ v. support-later (w.sound f v)) (λ v. record { row = j; before = omega arith; head_is = named low ∙ ap positive (sym v); holds_in = holds }) (set_only atoms h f b u);
        full = λ f x k. go f x (omega (arith, length-set atoms h true)) (dec_lt x.row j);
      }
        where
          low : h < max_atoms
          low = omega (arith, w.few)

          holds : T (body_holds m (row_at book rows j))
          holds = subst T (sym (sym q ∙ n)) tt

          here : T (atom_holds (set atoms h true) h)
          here = subst T (sym (get_or-set_same atoms h true false b)) tt

          go : (f : ℕ) (x : Support book rows m (j + 1) f) → f < length atoms → Dec (x.row < j) → T (atom_holds (set atoms h true) f)
          go f x k (yes y) = set_keeps atoms h f b (w.full f (record { row = x.row; before = y; head_is = x.head_is; holds_in = x.holds_in }) k)
          go f x k (no y) =
              let p : x.row ≡ j = omega (arith, x.before) in
              subst (λ (z : ℕ). T (atom_holds (set atoms h true) z)) (head_of low f (subst (λ (z : ℕ). (row_at book rows z).head ≡ positive f) p x.head_is)) here

-- violated rows
head-holds : (book : List ℕ) (rows : List Row) (m : Interpretation) (j h : ℕ) → h ≡ head_name rows j → (x : Bool) → x ≡ holds m (literal_named h) → x ≡ holds m (row_at book rows j).head
unfolding row_at
head-holds book rows m j h e x ex = ex ∙ ap (λ (z : ℕ). holds m (literal_named z)) e

module _ {book : List ℕ} {rows : List Row} {rejects : List ℕ} {m : Interpretation} where
  pub violation_at : {n : ℕ} (j : ℕ) → j < n → (a : Bool) → a ≡ alive rejects (row_at book rows j) → a ≡ true → (r : Bool) → r ≡ body_holds m (row_at book rows j) → r ≡ true
      → (h : ℕ) → h ≡ head_name rows j → (x : Bool) → x ≡ holds m (literal_named h) → not x ≡ true → Violation book rows rejects m n
  violation_at j b a ea ta r er tr h e x ex tx = record {
    row = j;
    before = b;
    lives = subst T (sym (sym ea ∙ ta)) tt;
    holds_in = subst T (sym (sym er ∙ tr)) tt;
    fails_in = subst T (sym (ap not (sym (head-holds book rows m j h e x ex)) ∙ tx)) tt;
  }

-- the other atoms: of the first f, those that are not among the atoms
module _ (atoms : List Bool) where
  pub others_more : (others : List Bool) (f : ℕ) → f < length others → ((g : ℕ) → g < f → get_or others g false ≡ not (get_or atoms g false))
      → (g : ℕ) → g < f + 1 → get_or (set others f (not (get_or atoms f false))) g false ≡ not (get_or atoms g false)
  others_more others f h w g k = go (ℕ_discrete g f)
    where
      go : Dec (g ≡ f) → get_or (set others f (not (get_or atoms f false))) g false ≡ not (get_or atoms g false)
      go (yes q) = ap (λ (x : ℕ). get_or (set others f (not (get_or atoms f false))) x false) q ∙ get_or-set_same others f (not (get_or atoms f false)) false h ∙ ap (λ (x : ℕ). not (get_or atoms x false)) (sym q)
      go (no n) = get_or-set_other others f g (not (get_or atoms f false)) false n ∙ w g (omega arith)

  pub others_end : (others : List Bool) (n f : ℕ) → length others ≡ n → n ≤ f → ((g : ℕ) → g < f → get_or others g false ≡ not (get_or atoms g false)) → Others atoms others n
  unfolding atom_holds
  others_end others n f e h w = record { sound = λ g t. from g t (dec_lt g n); full = λ g b t. subst T (sym (w g (omega arith))) t }
    where
      from : (g : ℕ) → T (get_or others g false) → Dec (g < n) → (g < n) × T (not (get_or atoms g false))
      from g t (yes b) = (b, subst T (w g (omega arith)) t)
      from g t (no b) = absurd (subst T (get_or-eq_default others false (omega arith)) t)
