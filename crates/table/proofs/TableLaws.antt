-- The rows and masks that the code makes are the table of the program. Used by rule_table; `tabulates` needs of the masks only
-- that they are those of the layers below. Assumes nothing.
use mathlib.Core.Path.{◌≡◌, refl, sym, ap, subst, ◌∙◌}
use mathlib.Core.Logic.{⊎_elim}
use mathlib.Core.Bool.{Bool, not, ◌&&◌, ◌||◌}
use mathlib.Core.List.Memᴰ
use mathlib.Core.List.{List, map}
use Prim.Native.Nat.{ℕ, ◌*◌, ◌-◌, ◌%◌, ◌^◌, ◌<◌}
use native.Mathlib.Decide.{dec_lt, ℕ_discrete}
use native.Mathlib.Omega.{arith}
use borrow.Author.Tests.{eq-eqb, ne_eqb}
use lib.Bits.{bit_or, bit_and}
use lib.Dec.{T, eqb, eqb_refl, eqb→eq}
use lib.ListN.{get_or, drop}
use Rattle.std.specs.Int.{w32}
use Rattle.std.proofs.lemmas.Nat.{or_of_32}
use Rattle.std.proofs.lemmas.Nat.Bits.{bit_at_and, bit_at_not, bit_at_above}
use Rattle.base.specs.Bounds.{max_layers}
use Rattle.base.specs.Lists.{filter}
use Rattle.layers.specs.Layers.{below}
use Rattle.layers.specs.Masks.{bit_of}
use Rattle.format.specs.Book.{Literal, Rule, rule_of, is_constraint, records, book_of}
use Rattle.models.specs.Program.{in_set, relevant, program_at}
use Rattle.models.specs.StableModels.{complement, same_literal, overrides}
use Rattle.base.proofs.Members.{◌∈◌, or_cases, or_left, or_right, same_test}
use Rattle.layers.proofs.BitLaws as bits
use Rattle.models.proofs.AlikeLaws.{filter-within}
use Rattle.models.proofs.LeastLaws.{literal_same, literal_refl}
use Rattle.models.proofs.SelfLeaningLaws.{overrides-asks, overrides_of}
use Rattle.table.specs.Names.{literal_named}
use Rattle.table.specs.declared.Row.{Row}
use Rattle.table.specs.Records.{rules_from}
use Rattle.table.specs.Rows.{row_count, head_name, row_layer, overridden, row_at, rows_of, in_mask, takes_rule, takes_constraint, RowsFit, SameRules}
use Rattle.table.specs.Overriding.{OpposedAt, Overridden}
use Rattle.table.specs.Table.{program_of, Prepared, layer_counts, RelevantLayers, RowsMade, Tabulates, TableMade}
use Rattle.table.proofs.NameLaws.{complement_twice}
use Rattle.table.proofs.RowLaws.{row_in, row_of, rows_same, fits-same}
use Rattle.table.proofs.OverridingLaws.{overridden-same}

-- the mask of the layers that a drive goes by: the driven layer, and those below it, without those that are switched off
module _ (lower : List ℕ) (layer off : ℕ) (h : layer < max_layers) where
  abbrev layer_mask : ℕ
  layer_mask = bit_or (get_or lower layer 0) (1 * 2 ^ layer % 4294967296)

  mask-layers : (i : ℕ) → eqb (bit_of layer_mask i) 1 ≡ (eqb i layer || eqb (bit_of (get_or lower layer 0) i) 1)
  mask-layers i =
      same_test (eqb (bit_of layer_mask i) 1) (eqb i layer || eqb (bit_of (get_or lower layer 0) i) 1)
      (λ t. ⊎_elim
      (λ e. or_right (eqb i layer) (eqb (bit_of (get_or lower layer 0) i) 1) (subst (λ (x : ℕ). T (eqb x 1)) (sym e) tt))
      (λ e. or_left (eqb i layer) (eqb (bit_of (get_or lower layer 0) i) 1) (itself (ℕ_discrete layer i) (rw (bits.pow-fits layer h) at e)))
      (bits.or_cases (get_or lower layer 0) (1 * 2 ^ layer % 4294967296) i (eqb→eq (bit_of layer_mask i) 1 t)))
      (λ t. subst (λ (x : ℕ). T (eqb x 1)) (sym (⊎_elim
      (λ e. bits.or_right (get_or lower layer 0) (1 * 2 ^ layer % 4294967296) i (own (eqb→eq i layer e)))
      (λ e. bits.or_left (get_or lower layer 0) (1 * 2 ^ layer % 4294967296) i (eqb→eq (bit_of (get_or lower layer 0) i) 1 e))
      (or_cases (eqb i layer) (eqb (bit_of (get_or lower layer 0) i) 1) t))) tt)
    where
      itself : Dec (layer ≡ i) → bit_of (2 ^ layer) i ≡ 1 → T (eqb i layer)
      itself (yes e) z = subst (λ (x : ℕ). T (eqb x layer)) e (eqb_refl layer)
      itself (no n) z = absurd (omega (arith, bits.bit-other layer i n))

      own : i ≡ layer → bit_of (1 * 2 ^ layer % 4294967296) i ≡ 1
      own e = rw (bits.pow-fits layer h, e) (bits.bit-same layer)

  -- a bit of what is left: those behind the 32nd are clear on both sides
  without_off : get_or lower layer 0 < 2 ^ 32 → off < 2 ^ 32 → (i : ℕ) → bit_of (bit_and layer_mask (4294967295 - off)) i ≡ bit_of layer_mask i - bit_of off i
  without_off kl ko i = go (dec_lt i 32)
    where
      go : Dec (i < 32) → bit_of (bit_and layer_mask (4294967295 - off)) i ≡ bit_of layer_mask i - bit_of off i
      go (yes k) = omega (arith, bit_at_and layer_mask (4294967295 - off) i, bit_at_not w32 off i ko k, bits.bit-small layer_mask i)
      go (no n) =
          omega (arith, bit_at_and layer_mask (4294967295 - off) i, bit_at_above layer_mask 32 i (or_of_32 (get_or lower layer 0) (1 * 2 ^ layer % 4294967296) kl (omega arith)) (omega arith))

  pub mask_counts : get_or lower layer 0 < 2 ^ 32 → off < 2 ^ 32 → RelevantLayers lower layer off (bit_and layer_mask (4294967295 - off))
  unfolding layer_counts in_set
  mask_counts kl ko i =
      split (ℕ_discrete x 1) (ℕ_discrete y 1) ∙ ap (λ (c : Bool). c && not (eqb y 1)) (mask-layers i)
    where
      x : ℕ
      x = bit_of layer_mask i

      y : ℕ
      y = bit_of off i

      split : Dec (x ≡ 1) → Dec (y ≡ 1) → eqb (bit_of (bit_and layer_mask (4294967295 - off)) i) 1 ≡ (eqb x 1 && not (eqb y 1))
      split (yes e) (yes f) = rw (without_off kl ko i, e, f) refl
      split (yes e) (no f) = rw (without_off kl ko i, e, ne_eqb y 1 f) (eq-eqb (1 - y) 1 (omega (arith, bits.bit-small off i)))
      split (no e) d = rw (without_off kl ko i, ne_eqb x 1 e) (ne_eqb (x - y) 1 (λ z. omega (arith, bits.bit-small layer_mask i)))

module _ (book : List ℕ) (first : ℕ) (lower : List ℕ) (w : Prepared book first lower) (layer off : ℕ) (h : layer < max_layers) (mask : ℕ) (counts : RelevantLayers lower layer off mask) where
  rule_low : (r : Rule) → r ∈ (book_of book).rules → r.layer < max_layers
  rule_low r k =
      let v : (x : List ℕ) × x ∈ records (drop first book) × (rule_of x ≡ r) = Memᴰ.of_map rule_of (records (drop first book)) (subst (λ (rs : List Rule). r ∈ rs) w.rules_are k) in
      subst (λ (x : Rule). x.layer < max_layers) v.2 (w.rule_records_lem.each v.0 v.1).layer_low

  -- a rule passes the mask exactly if it is relevant
  mask-relevant : (r : Rule) → r ∈ (book_of book).rules → in_mask mask r ≡ relevant (book_of book) layer off r
  unfolding in_mask relevant layer_counts
  mask-relevant r k =
      counts r.layer
      ∙ ap (λ (c : Bool). (eqb r.layer layer || c) && not (in_set off r.layer))
      (same_test (eqb (bit_of (get_or lower layer 0) r.layer) 1) (below (book_of book).arrows r.layer layer)
      (λ t. w.lower_sound r.layer layer h (eqb→eq (bit_of (get_or lower layer 0) r.layer) 1 t))
      (λ t. subst (λ (x : ℕ). T (eqb x 1)) (sym (w.lower_full r.layer layer (rule_low r k) h t)) tt))

  rules-relevant : filter (takes_rule mask) (rules_from book first) ≡ (program_of book layer off).rules
  unfolding program_at takes_rule
  rules-relevant =
      ap (filter (takes_rule mask)) (sym w.rules_are)
      ∙ filter-within (takes_rule mask) (λ r. relevant (book_of book) layer off r && not (is_constraint r)) (book_of book).rules (λ r k. ap (λ (c : Bool). c && not (is_constraint r)) (mask-relevant r k))

  pub constraints-relevant : map (λ r. r.body) (filter (takes_constraint mask) (rules_from book first)) ≡ (program_of book layer off).constraints
  unfolding program_at takes_constraint
  constraints-relevant =
      ap (λ (rs : List Rule). map (λ r. r.body) (filter (takes_constraint mask) rs)) (sym w.rules_are)
      ∙ ap (map (λ r. r.body))
      (filter-within (takes_constraint mask) (λ r. relevant (book_of book) layer off r && is_constraint r) (book_of book).rules (λ r k. ap (λ (c : Bool). c && is_constraint r) (mask-relevant r k)))

  module _ (rows : List Row) (fits : RowsFit book rows) (rs : rows_of book rows ≡ filter (takes_rule mask) (rules_from book first))
      (un : Overridden book rows lower rows (row_count rows)) where
    row-full : (j : ℕ) → j < row_count rows → (x : ℕ) → x < row_count rows → T (overrides (program_of book layer off) (row_at book rows j) (row_at book rows x)) → bit_of (overridden rows j) (row_at book rows x).layer ≡ 1
    unfolding row_at program_at
    row-full j b x k o =
        let asks = overrides-asks (program_of book layer off) (row_at book rows j) (row_at book rows x) o in
        un.full j b (row_layer rows x) (head_name rows x)
        (sym (complement_twice (literal_named (head_name rows x))) ∙ ap complement (sym (literal_same (literal_named (head_name rows j)) (complement (literal_named (head_name rows x))) asks.1)))
        (record { row = x; before = k; name_is = refl; layer_is = refl })
        (w.lower_full (row_layer rows x) (row_layer rows j) (fits.bounded.layer_low x k) (fits.bounded.layer_low j b) asks.0)
        asks.2

    -- a set bit is the layer of a row that is overridden
    row-exact : (j : ℕ) → j < row_count rows → (i : ℕ) → bit_of (overridden rows j) i ≡ 1
        → (r : Rule) × r ∈ rows_of book rows × (r.layer ≡ i) × T (overrides (program_of book layer off) (row_at book rows j) r)
    unfolding row_at program_at
    row-exact j b i z =
        let o : OpposedAt rows (head_name rows j) i = un.opposed j b i z in
        let x : ℕ = o.head_at.row in
        let e : literal_named (head_name rows j) ≡ complement (literal_named (head_name rows x)) =
        sym (complement_twice (literal_named (head_name rows j))) ∙ ap complement (sym o.opposite_is ∙ ap literal_named (sym o.head_at.name_is)) in (
          row_at book rows x,
          row_in book rows x o.head_at.before,
          o.head_at.layer_is,
          overrides_of (program_of book layer off) (row_at book rows j) (row_at book rows x)
              (subst (λ (t : ℕ). T (below (book_of book).arrows t (row_layer rows j))) (sym o.head_at.layer_is) (w.lower_sound i (row_layer rows j) (fits.bounded.layer_low j b) (un.sound j b i z)))
              (subst (λ (t : Literal). T (same_literal (literal_named (head_name rows j)) t)) e (literal_refl (literal_named (head_name rows j))))
              (un.not_leaning j b i z),
        )

    tabulates : Tabulates (program_of book layer off) book rows
    unfolding row_at program_at
    tabulates = record {
      fits = fits;
      rules = rs ∙ rules-relevant;
      sound = λ j b i z. w.lower_sound i (row_layer rows j) (fits.bounded.layer_low j b) (un.sound j b i z);
      full = λ j b r k o.
          let v : (x : ℕ) × (x < row_count rows) × (row_at book rows x ≡ r) = row_of book rows r k in
          subst (λ (t : Rule). bit_of (overridden rows j) t.layer ≡ 1) v.2 (row-full j b v.0 v.1 (subst (λ (t : Rule). T (overrides (program_of book layer off) (row_at book rows j) t)) (sym v.2) o));
      exact = row-exact;
    }

module _ (book : List ℕ) (first mask : ℕ) (rows : List Row) (w : RowsMade book first mask rows) where
  -- the rows come back with their masks
  pub table_made : (part : List Row) (r : SameRules rows part) (lower : List ℕ) (p : Prepared book first lower) (layer off : ℕ) (h : layer < max_layers) → RelevantLayers lower layer off mask
      → Overridden book rows lower part (row_count rows)
      → TableMade (program_of book layer off) book part
  table_made part r lower p layer off h em o = record {
    room = omega (arith, w.room, r.size);
    table = tabulates book first lower p layer off h mask em part (fits-same r w.fits) (rows_same r book ∙ w.rules) (overridden-same r o);
  }
