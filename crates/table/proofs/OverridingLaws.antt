-- The masks of layers, row by row: in which layers a head stands, and which layers a row overrides. Used by head_layers and
-- overridden_layers. Assumes nothing.
use mathlib.Core.Path.{◌≡◌, refl, sym, ap, subst, ◌∙◌}
use mathlib.Core.Logic.{⊎_elim}
use mathlib.Core.Bool.{Bool, true, false, not, cond}
use mathlib.Core.List.{List}
use Prim.Native.Nat.{ℕ, ◌+◌, ◌*◌, ◌%◌, ◌^◌, ◌<◌}
use native.Mathlib.Decide.{dec_lt, ℕ_discrete}
use native.Mathlib.Omega.{arith}
use lib.Bits.{bit_and, bit_or}
use lib.Dec.{T}
use lib.ListN.{get_or, set, length-set, replicate, length-replicate}
use lib.Seq.{get_or-set_same, get_or-set_other}
use Rattle.base.specs.Bounds.{max_names, max_layers}
use Rattle.layers.specs.Masks.{bit_of}
use Rattle.format.specs.Book.{Rule}
use Rattle.models.specs.StableModels.{complement, leans_on_itself}
use Rattle.layers.proofs.BitLaws.{pow-fits, bit-same, bit-other, no_bit, no_bits, or_cases, or_left, or_right, and_first, and_second, and_both}
use Rattle.table.specs.Names.{literal_named}
use Rattle.table.specs.declared.Row.{Row}
use Rattle.table.specs.declared.TheConstants.{NO_ROW}
use Rattle.table.specs.Rows.{nth, row_count, head_name, row_layer, overridden, row_at, SameRules}
use Rattle.table.specs.Overriding.{HeadAt, HeadLayers, OpposedAt, Overridden}
use Rattle.table.proofs.RowLaws.{count_same, name_kept, layer_kept, row_kept}
use Rattle.table.proofs.NameLaws.{one_name}

pub heads-start : (rows : List Row) → HeadLayers rows (replicate {A = ℕ} max_names 0) 0
heads-start rows = record {
  size = length-replicate {A = ℕ} max_names 0;
  sound = λ h i z. absurd (no_bit i (subst (λ (x : ℕ). bit_of x i ≡ 1) (no_bits max_names h) z));
  full = λ h i x. absurd (omega (arith, x.before));
}

-- one row on: bit `layer` of the mask at its head's name h
module _ (rows : List Row) (masks : List ℕ) (j h layer : ℕ) (w : HeadLayers rows masks j) (eh : h ≡ head_name rows j) (bh : h < max_names) (el : layer ≡ row_layer rows j) (bl : layer < max_layers) where
  abbrev added : ℕ
  added = bit_or (get_or masks h 0) (1 * 2 ^ layer % 4294967296)

  at_h : (g : ℕ) → g ≡ h → get_or (set masks h added) g 0 ≡ added
  at_h g e = ap (λ (x : ℕ). get_or (set masks h added) x 0) e ∙ get_or-set_same masks h added 0 (omega (arith, w.size))

  pub heads-more : HeadLayers rows (set masks h added) (j + 1)
  heads-more = record {
    size = length-set masks h added ∙ w.size;
    sound = λ g i z. from g i (ℕ_discrete g h) z;
    full = λ g i x. go g i x (ℕ_discrete g h) (dec_lt x.row j);
  }
    where
      passed : (g i : ℕ) → HeadAt rows j g i → HeadAt rows (j + 1) g i
      passed g i x = record { row = x.row; before = omega (arith, x.before); name_is = x.name_is; layer_is = x.layer_is }

      here : (i : ℕ) → Dec (layer ≡ i) → bit_of (1 * 2 ^ layer % 4294967296) i ≡ 1 → HeadAt rows (j + 1) h i
      here i (yes e) z = record { row = j; before = omega arith; name_is = sym eh; layer_is = sym el ∙ e }
      here i (no n) z = absurd (omega (arith, bit-other layer i n, subst (λ (x : ℕ). bit_of x i ≡ 1) (pow-fits layer bl) z))

      from : (g i : ℕ) → Dec (g ≡ h) → bit_of (get_or (set masks h added) g 0) i ≡ 1 → HeadAt rows (j + 1) g i
      from g i (no n) z = passed g i (w.sound g i (subst (λ (x : ℕ). bit_of x i ≡ 1) (get_or-set_other masks h g added 0 n) z))
      from g i (yes e) z =
          subst (λ (x : ℕ). HeadAt rows (j + 1) x i) (sym e)
          (⊎_elim (λ a. passed h i (w.sound h i a)) (λ a. here i (ℕ_discrete layer i) a)
          (or_cases (get_or masks h 0) (1 * 2 ^ layer % 4294967296) i (subst (λ (x : ℕ). bit_of x i ≡ 1) (at_h g e) z)))

      earlier : (g i : ℕ) (x : HeadAt rows (j + 1) g i) → x.row < j → bit_of (get_or masks g 0) i ≡ 1
      earlier g i x a = w.full g i (record { row = x.row; before = a; name_is = x.name_is; layer_is = x.layer_is })

      go : (g i : ℕ) (x : HeadAt rows (j + 1) g i) → Dec (g ≡ h) → Dec (x.row < j) → bit_of (get_or (set masks h added) g 0) i ≡ 1
      go g i x (no n) (yes a) = subst (λ (z : ℕ). bit_of z i ≡ 1) (sym (get_or-set_other masks h g added 0 n)) (earlier g i x a)
      go g i x (yes e) (yes a) =
          subst (λ (z : ℕ). bit_of z i ≡ 1) (sym (at_h g e))
          (or_left (get_or masks h 0) (1 * 2 ^ layer % 4294967296) i (subst (λ (k : ℕ). bit_of (get_or masks k 0) i ≡ 1) e (earlier g i x a)))
      go g i x d (no a) =
          let q : x.row ≡ j = omega (arith, x.before) in
          let e : g ≡ h = sym x.name_is ∙ ap (head_name rows) q ∙ sym eh in
          let f : layer ≡ i = el ∙ ap (row_layer rows) (sym q) ∙ x.layer_is in
          subst (λ (z : ℕ). bit_of z i ≡ 1) (sym (at_h g e))
          (or_right (get_or masks h 0) (1 * 2 ^ layer % 4294967296) i
          (subst (λ (z : ℕ). bit_of z i ≡ 1) (sym (pow-fits layer bl)) (subst (λ (k : ℕ). bit_of (2 ^ layer) k ≡ 1) f (bit-same layer))))

pub overridden-start : (book : List ℕ) (rows : List Row) (lower : List ℕ) (table : List Row) → Overridden book rows lower table 0
overridden-start book rows lower table = record {
  sound = λ j b. absurd (omega arith);
  opposed = λ j b. absurd (omega arith);
  not_leaning = λ j b. absurd (omega arith);
  full = λ j b. absurd (omega arith);
}

pub rules-start : (rows : List Row) → SameRules rows rows
rules-start rows = record { size = refl; same = λ j. refl }

-- row j with another mask
abbrev pub with_mask : List Row → ℕ → ℕ → List Row
with_mask rows j mask = set rows j (record (nth rows j) { overridden = mask })

-- a row's mask is written
module _ (rows table : List Row) (r : SameRules rows table) (j mask : ℕ) (b : j < row_count rows) where
  abbrev masked : List Row
  masked = with_mask table j mask

  nth_here : nth masked j ≡ record (nth table j) { overridden = mask }
  nth_here = get_or-set_same table j (record (nth table j) { overridden = mask }) NO_ROW (omega (arith, r.size))

  nth_there : (x : ℕ) → (x ≡ j → ⊥) → nth masked x ≡ nth table x
  nth_there x n = get_or-set_other table j x (record (nth table j) { overridden = mask }) NO_ROW n

  mask_here : (x : ℕ) → x ≡ j → overridden masked x ≡ mask
  mask_here x e = ap (overridden masked) e ∙ ap (λ (t : Row). t.overridden) nth_here

  mask_there : (x : ℕ) → x < j → overridden masked x ≡ overridden table x
  mask_there x h = ap (λ (t : Row). t.overridden) (nth_there x (λ e. omega arith))

  -- the rest of each row is as it was
  pub rules-more : SameRules rows masked
  rules-more = record { size = length-set table j (record (nth table j) { overridden = mask }) ∙ r.size; same = λ x. at x (ℕ_discrete x j) }
    where
      at : (x : ℕ) → Dec (x ≡ j) → nth masked x ≡ record (nth rows x) { overridden = overridden masked x }
      at x (yes e) =
          subst (λ (y : ℕ). nth masked y ≡ record (nth rows y) { overridden = overridden masked y }) (sym e)
          (nth_here ∙ ap (λ (t : Row). record t { overridden = mask }) (r.same j) ∙ ap (λ (m : ℕ). record (nth rows j) { overridden = m }) (sym (mask_here j refl)))
      at x (no n) =
          nth_there x n ∙ r.same x
          ∙ ap (λ (m : ℕ). record (nth rows x) { overridden = m }) (sym (ap (λ (t : Row). t.overridden) (nth_there x n)))

-- a rule's mask of layers, empty where it leans on itself
abbrev pub unless_leaning : Rule → ℕ → ℕ
unless_leaning r mask = cond (leans_on_itself r) 0 mask

-- a rule that leans on itself keeps no bit of a mask, and any other keeps all of it
module _ (r : Rule) (k : ℕ) where
  unless_bit : (i : ℕ) → bit_of (unless_leaning r k) i ≡ 1 → T (not (leans_on_itself r)) × (bit_of k i ≡ 1)
  unless_bit i z = go (leans_on_itself r) z
    where
      go : (c : Bool) → bit_of (cond c 0 k) i ≡ 1 → T (not c) × (bit_of k i ≡ 1)
      go true y = absurd (no_bit i y)
      go false y = (tt, y)

  unless_whole : T (not (leans_on_itself r)) → unless_leaning r k ≡ k
  unless_whole t = go (leans_on_itself r) t
    where
      go : (c : Bool) → T (not c) → cond c 0 k ≡ k
      go true u = absurd u
      go false u = refl

-- one row on: of the layers below the row's, those in which the opposite name o stands, and none where the row leans on itself
module _ (book : List ℕ) (rows : List Row) (lower heads : List ℕ) (table : List Row) (r : SameRules rows table) (j h o layer mask : ℕ) (w : Overridden book rows lower table j) (b : j < row_count rows)
    (hl : HeadLayers rows heads (row_count rows)) (eh : h ≡ head_name rows j) (eo : literal_named o ≡ complement (literal_named h)) (el : layer ≡ row_layer rows j)
    (em : mask ≡ unless_leaning (row_at book table j) (bit_and (get_or heads o 0) (get_or lower layer 0))) where
  abbrev whole : ℕ
  whole = bit_and (get_or heads o 0) (get_or lower layer 0)

  abbrev next : List Row
  next = with_mask table j mask

  row_is : (x : ℕ) → x ≡ j → row_at book table j ≡ row_at book rows x
  row_is x e = row_kept r book j ∙ ap (row_at book rows) (sym e)

  pub overridden-more : Overridden book rows lower next (j + 1)
  overridden-more = record {
    sound = λ x k. sound_at x k (dec_lt x j);
    opposed = λ x k. opposed_at x k (dec_lt x j);
    not_leaning = λ x k. not_leaning_at x k (dec_lt x j);
    full = λ x k. full_at x k (dec_lt x j);
  }
    where
      here : (x : ℕ) → x ≡ j → overridden next x ≡ unless_leaning (row_at book table j) whole
      here x e = mask_here rows table r j mask b x e ∙ em

      at : (x i : ℕ) → x ≡ j → bit_of (overridden next x) i ≡ 1 → T (not (leans_on_itself (row_at book table j))) × (bit_of whole i ≡ 1)
      at x i e z = unless_bit (row_at book table j) whole i (subst (λ (t : ℕ). bit_of t i ≡ 1) (here x e) z)

      there : (x : ℕ) → x < j → overridden next x ≡ overridden table x
      there x a = mask_there rows table r j mask b x a

      sound_at : (x : ℕ) → x < j + 1 → Dec (x < j) → (i : ℕ) → bit_of (overridden next x) i ≡ 1 → bit_of (get_or lower (row_layer rows x) 0) i ≡ 1
      sound_at x k (yes a) i z = w.sound x a i (subst (λ (u : ℕ). bit_of u i ≡ 1) (there x a) z)
      sound_at x k (no a) i z =
          let q : x ≡ j = omega arith in
          subst (λ (t : ℕ). bit_of (get_or lower t 0) i ≡ 1) (el ∙ ap (row_layer rows) (sym q))
          (and_second (get_or heads o 0) (get_or lower layer 0) i (at x i q z).1)

      opposed_at : (x : ℕ) → x < j + 1 → Dec (x < j) → (i : ℕ) → bit_of (overridden next x) i ≡ 1 → OpposedAt rows (head_name rows x) i
      opposed_at x k (yes a) i z = w.opposed x a i (subst (λ (u : ℕ). bit_of u i ≡ 1) (there x a) z)
      opposed_at x k (no a) i z =
          let q : x ≡ j = omega arith in
          record {
            name = o;
            opposite_is = eo ∙ ap (λ (t : ℕ). complement (literal_named t)) (eh ∙ ap (head_name rows) (sym q));
            head_at = hl.sound o i (and_first (get_or heads o 0) (get_or lower layer 0) i (at x i q z).1);
          }

      not_leaning_at : (x : ℕ) → x < j + 1 → Dec (x < j) → (i : ℕ) → bit_of (overridden next x) i ≡ 1 → T (not (leans_on_itself (row_at book rows x)))
      not_leaning_at x k (yes a) i z = w.not_leaning x a i (subst (λ (u : ℕ). bit_of u i ≡ 1) (there x a) z)
      not_leaning_at x k (no a) i z = let q : x ≡ j = omega arith in subst (λ (t : Rule). T (not (leans_on_itself t))) (row_is x q) (at x i q z).0

      full_at : (x : ℕ) → x < j + 1 → Dec (x < j) → (i g : ℕ) → literal_named g ≡ complement (literal_named (head_name rows x)) → HeadAt rows (row_count rows) g i
          → bit_of (get_or lower (row_layer rows x) 0) i ≡ 1 → T (not (leans_on_itself (row_at book rows x))) → bit_of (overridden next x) i ≡ 1
      full_at x k (yes a) i g e p z n = subst (λ (u : ℕ). bit_of u i ≡ 1) (sym (there x a)) (w.full x a i g e p z n)
      full_at x k (no a) i g e p z n =
          let q : x ≡ j = omega arith in
          let s : g ≡ o = one_name g o (e ∙ ap (λ (t : ℕ). complement (literal_named (head_name rows t))) q ∙ ap (λ (t : ℕ). complement (literal_named t)) (sym eh) ∙ sym eo) in
          subst (λ (t : ℕ). bit_of t i ≡ 1) (sym (here x q ∙ unless_whole (row_at book table j) whole (subst (λ (t : Rule). T (not (leans_on_itself t))) (sym (row_is x q)) n)))
          (and_both (get_or heads o 0) (get_or lower layer 0) i
          (subst (λ (t : ℕ). bit_of (get_or heads t 0) i ≡ 1) s (hl.full g i p))
          (subst (λ (t : ℕ). bit_of (get_or lower t 0) i ≡ 1) (ap (row_layer rows) q ∙ sym el) z))

-- the heads and layers of the rows are those of the table that has the masks
module _ {rows table : List Row} (r : SameRules rows table) where
  head-to : {n h i : ℕ} → HeadAt rows n h i → HeadAt table n h i
  head-to x = record { row = x.row; before = x.before; name_is = name_kept r x.row ∙ x.name_is; layer_is = layer_kept r x.row ∙ x.layer_is }

  head-from : {n h i : ℕ} → HeadAt table n h i → HeadAt rows n h i
  head-from x = record { row = x.row; before = x.before; name_is = sym (name_kept r x.row) ∙ x.name_is; layer_is = sym (layer_kept r x.row) ∙ x.layer_is }

  pub overridden-same : {book lower : List ℕ} → Overridden book rows lower table (row_count rows) → Overridden book table lower table (row_count table)
  overridden-same {book} {lower} w = record {
    sound = λ j h i z. subst (λ (t : ℕ). bit_of (get_or lower t 0) i ≡ 1) (sym (layer_kept r j)) (w.sound j (low j h) i z);
    opposed = λ j h i z.
        let o : OpposedAt rows (head_name rows j) i = w.opposed j (low j h) i z in
        record {
          name = o.name;
          opposite_is = o.opposite_is ∙ ap (λ (t : ℕ). complement (literal_named t)) (sym (name_kept r j));
          head_at = subst (λ (n : ℕ). HeadAt table n o.name i) (sym (count_same r)) (head-to o.head_at);
        };
    not_leaning = λ j h i z. subst (λ (t : Rule). T (not (leans_on_itself t))) (sym (row_kept r book j)) (w.not_leaning j (low j h) i z);
    full = λ j h i g e p z n.
        w.full j (low j h) i g (e ∙ ap (λ (t : ℕ). complement (literal_named t)) (name_kept r j))
        (head-from (subst (λ (n : ℕ). HeadAt table n g i) (count_same r) p))
        (subst (λ (t : ℕ). bit_of (get_or lower t 0) i ≡ 1) (layer_kept r j) z)
        (subst (λ (t : Rule). T (not (leans_on_itself t))) (row_kept r book j) n);
  }
    where
      low : (j : ℕ) → j < row_count table → j < row_count rows
      low j h = subst (λ (n : ℕ). j < n) (count_same r) h
