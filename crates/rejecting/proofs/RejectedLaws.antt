-- What the masks reject at a setting is what the rows reject there: the atoms of a body that can reject all branch, so the body holds at
-- the setting of a mask exactly where its entry fits that mask. Used by the search. Assumes nothing.
use mathlib.Core.Path.{◌≡◌, refl, sym, ap, subst, ◌∙◌}
use mathlib.Core.Logic.{◌⊎◌, inl, inr}
use mathlib.Core.Bool.{Bool, true, false}
use mathlib.Core.List.Memᴰ
use mathlib.Core.List.{List, [], ◌∷◌, ◌++◌}
use Prim.Native.Nat.{ℕ, zero, suc, ◌<◌, ◌≤◌}
use native.Mathlib.Decide.{dec_lt, ℕ_discrete}
use native.Mathlib.Omega.{arith}
use lib.Bits.{bit_and, or_add_and}
use lib.Dec.{T, T_not, not_T}
use lib.ListN.{length, get_or}
use Rattle.base.specs.Bounds.{max_atoms}
use Rattle.base.specs.Lists.{up_to}
use Rattle.base.proofs.Members.{◌∈◌, or_right, all_at, all_of, any_of, filter_into}
use Rattle.base.proofs.Rising.{Rising, filter-rising}
use Rattle.base.proofs.UpTo.{up_to_lt, up_to_has}
use Rattle.layers.specs.Masks.{bit_of}
use Rattle.layers.proofs.BitLaws.{zero_bit, some-bit, and_first, and_second, and_both}
use Rattle.format.specs.Book.{Literal, Rule}
use Rattle.models.specs.Program.{Program}
use Rattle.models.specs.StableModels.{Interpretation, atom_holds, signed, holds, body_holds, overrides, WellFormed}
use Rattle.models.specs.Branching.{can_reject, branching, branching_atoms}
use Rattle.models.proofs.BranchingLaws.{branch}
use Rattle.table.specs.declared.Row.{Row}
use Rattle.table.specs.Names.{literal_named}
use Rattle.table.specs.Rows.{row_count, row_at, overridden}
use Rattle.table.specs.Table.{Tabulates}
use Rattle.table.specs.Tabled.{tabled}
use Rattle.table.proofs.NameLaws.{one_name}
use Rattle.table.proofs.RowLaws.{row_in}
use Rattle.tester.specs.Masks.{Rejection, RejectedMasks}
use Rattle.setting.specs.Setting.{setting_of}
use Rattle.setting.proofs.BitMaskLaws.{or_absorbs}
use Rattle.base.proofs.EntryLaws.{entry_in}
use Rattle.setting.proofs.SettingLaws.{SetAt, stands_at, at_stands}
use Rattle.rejecting.specs.Rejecting.{EntryOf, Rejecting, FitsAt, RejectsAt}
use Rattle.rejecting.specs.declared.RejectingMasks.{RejectingMasks}

-- ---- places in a list, and that those of a rising list differ
place_of : {x : ℕ} {xs : List ℕ} → x ∈ xs → (i : ℕ) × (i < length xs) × (get_or xs i 0 ≡ x)
place_of (Memᴰ.head e) = (0, omega arith, sym e)
place_of (Memᴰ.tail m) = let v = place_of m in (suc v.0, omega (arith, v.1), v.2)

rises_at : (xs : List ℕ) → Rising ◌<◌ xs → (i j : ℕ) → i < j → j < length xs → get_or xs i 0 < get_or xs j 0
rises_at [] r i j h b = absurd (omega arith)
rises_at (x ∷ xs) r i zero h b = absurd (omega arith)
rises_at (x ∷ xs) r zero (suc j) h b = r.0 (get_or xs j 0) (entry_in xs j 0 (omega arith))
rises_at (x ∷ xs) r (suc i) (suc j) h b = rises_at xs r.1 i j (omega arith) (omega arith)

one_place : (xs : List ℕ) → Rising ◌<◌ xs → (i j : ℕ) → i < length xs → j < length xs → get_or xs i 0 ≡ get_or xs j 0 → i ≡ j
one_place xs r i j bi bj e = go (dec_lt i j) (dec_lt j i)
  where
    go : Dec (i < j) → Dec (j < i) → i ≡ j
    go (yes h) d = absurd (omega (arith, rises_at xs r i j h bj))
    go (no n) (yes h) = absurd (omega (arith, rises_at xs r j i h bi))
    go (no n) (no m) = omega arith

rising_snoc : (xs : List ℕ) (y : ℕ) → Rising ◌<◌ xs → ((x : ℕ) → x ∈ xs → x < y) → Rising ◌<◌ (xs ++ (y ∷ []))
rising_snoc [] y r h = (λ z m. absurd (Memᴰ.not-nil m), tt)
rising_snoc (x ∷ xs) y r h = (λ z m. go z (Memᴰ.append_cases xs m), rising_snoc xs y r.1 (λ z m. h z (Memᴰ.tail m)))
  where
    go : (z : ℕ) → z ∈ xs ⊎ z ∈ (y ∷ []) → x < z
    go z (inl m) = r.0 z m
    go z (inr m) = subst (λ (k : ℕ). x < k) (sym (Memᴰ.eq_of_singleton m)) (h x (Memᴰ.head refl))

up_to-rising : (n : ℕ) → Rising ◌<◌ (up_to n)
unfolding up_to
up_to-rising zero = tt
up_to-rising (suc n) = rising_snoc (up_to n) n (up_to-rising n) (λ x m. up_to_lt n x m)

-- ---- masks and their bits
all-stand : (a b : ℕ) → ((i : ℕ) → bit_of a i ≡ 1 → bit_of b i ≡ 1) → bit_and a b ≡ a
all-stand a b h = omega (arith, or_add_and a b, or_absorbs (suc a) a b (omega arith) h)

none-stand : (a b : ℕ) → ((i : ℕ) → bit_of a i ≡ 1 → bit_of b i ≡ 1 → ⊥) → bit_and a b ≡ 0
none-stand a b h = go (ℕ_discrete (bit_and a b) 0)
  where
    go : Dec (bit_and a b ≡ 0) → bit_and a b ≡ 0
    go (yes e) = e
    go (no n) = let x : (i : ℕ) × (bit_of (bit_and a b) i ≡ 1) = some-bit (suc (bit_and a b)) (bit_and a b) (omega arith) (omega arith) in absurd (h x.0 (and_first a b x.0 x.1) (and_second a b x.0 x.1))

-- ---- the table of a program, and its branching atoms
module _ {book : List ℕ} {rows : List Row} {atoms : List ℕ} (n : ℕ) (formed : WellFormed (tabled book rows n)) (few : (tabled book rows n).atoms ≤ max_atoms)
    (table : Tabulates (tabled book rows n) book rows) (listed : atoms ≡ branching_atoms (tabled book rows n)) where
  abbrev P : Program
  P = tabled book rows n

  once : (i j : ℕ) → i < length atoms → j < length atoms → get_or atoms i 0 ≡ get_or atoms j 0 → i ≡ j
  unfolding branching_atoms
  once = one_place atoms (subst (Rising ◌<◌) (sym listed) (filter-rising ◌<◌ (branching P) (up_to P.atoms) (up_to-rising P.atoms)))

  in_rules : (j : ℕ) → j < row_count rows → row_at book rows j ∈ P.rules
  in_rules j b = subst (λ (rs : List Rule). row_at book rows j ∈ rs) table.rules (row_in book rows j b)

  small : (j : ℕ) → j < row_count rows → (l : Literal) → l ∈ (row_at book rows j).body → l.atom < max_atoms
  small j b l k = omega (arith, formed.bodies (row_at book rows j) (in_rules j b) l k)

  -- the atoms of a row that overrides a rule branch
  placed : (j i : ℕ) → j < row_count rows → bit_of (overridden rows j) i ≡ 1 → (l : Literal) → l ∈ (row_at book rows j).body → (p : ℕ) × (p < length atoms) × (get_or atoms p 0 ≡ l.atom)
  unfolding can_reject branching_atoms
  placed j i b z l k =
      let v = table.exact j b i z in
      let t : Rule = row_at book rows j in
      let c : T (can_reject P t) = any_of (overrides P t) (subst (λ (rs : List Rule). v.0 ∈ rs) table.rules v.1) v.3 in
      let m : l.atom ∈ branching_atoms P =
      filter_into (branching P) (up_to_has P.atoms l.atom (formed.bodies t (in_rules j b) l k)) (branch P formed t (in_rules j b) l k (or_right l.negated (can_reject P t) c)) in
      place_of (subst (λ (fs : List ℕ). l.atom ∈ fs) (sym listed) m)

  module _ (standing : ℕ) where
    abbrev X : Interpretation
    X = setting_of atoms standing

    module _ {j : ℕ} {m : RejectingMasks} (b : j < row_count rows) (e : EntryOf book rows atoms j m) where
      literal_is : (l : Literal) (p : ℕ) → get_or atoms p 0 ≡ l.atom → (c : Bool) → l.negated ≡ c → l ∈ (row_at book rows j).body → record { atom = get_or atoms p 0; negated = c } ∈ (row_at book rows j).body
      literal_is l p q c n k =
          subst (λ (x : Literal). x ∈ (row_at book rows j).body) (ap (λ (x : Bool). record { atom = l.atom; negated = x }) n ∙ ap (λ (f : ℕ). record { atom = f; negated = c }) (sym q)) k

      -- where the entry fits, each literal of the body holds
      fits-holds : (i : ℕ) → bit_of (overridden rows j) i ≡ 1 → bit_and m.plain standing ≡ m.plain → bit_and m.negated standing ≡ 0 → T (body_holds X (row_at book rows j))
      unfolding body_holds holds signed atom_holds
      fits-holds i z ep en = all_of (holds X) (row_at book rows j).body (λ l k. go l k l.negated refl)
        where
          go : (l : Literal) → l ∈ (row_at book rows j).body → (c : Bool) → l.negated ≡ c → T (signed c (get_or X l.atom false))
          go l k true q =
              not_T (get_or X l.atom false)
              (λ t.
              let x : SetAt atoms standing (length atoms) l.atom = stands_at atoms standing l.atom (small j b l k) t in
              let y : bit_of m.negated x.place ≡ 1 = e.negated_is.full x.place x.before (literal_is l x.place x.atom_is true q k) in
              zero_bit (bit_and m.negated standing) x.place en (and_both m.negated standing x.place y x.bit))
          go l k false q =
              let v = placed j i b z l k in
              let y : bit_of m.plain v.0 ≡ 1 = e.plain_is.full v.0 v.1 (literal_is l v.0 v.2 false q k) in
              at_stands atoms standing l.atom (small j b l k)
              (record { place = v.0; before = v.1; atom_is = v.2; bit = and_second m.plain standing v.0 (subst (λ (x : ℕ). bit_of x v.0 ≡ 1) (sym ep) y) })

      -- where the body holds, the entry fits
      plain_fits : T (body_holds X (row_at book rows j)) → bit_and m.plain standing ≡ m.plain
      unfolding body_holds holds signed atom_holds
      plain_fits t =
          all-stand m.plain standing
          (λ i z.
          let v = e.plain_is.sound i z in
          let x : SetAt atoms standing (length atoms) (get_or atoms i 0) = stands_at atoms standing (get_or atoms i 0) (small j b (record { atom = get_or atoms i 0; negated = false }) v.1) (all_at (holds X) t v.1) in
          subst (λ (p : ℕ). bit_of standing p ≡ 1) (once x.place i x.before v.0 x.atom_is) x.bit)

      negated_fits : T (body_holds X (row_at book rows j)) → bit_and m.negated standing ≡ 0
      unfolding body_holds holds signed atom_holds
      negated_fits t =
          none-stand m.negated standing
          (λ i z s.
          let v = e.negated_is.sound i z in
          T_not (get_or X (get_or atoms i 0) false) (all_at (holds X) t v.1)
          (at_stands atoms standing (get_or atoms i 0) (small j b (record { atom = get_or atoms i 0; negated = true }) v.1) (record { place = i; before = v.0; atom_is = refl; bit = s })))

    -- what reject_at says is what RejectedMasks says of the setting
    pub rejected_at : {rejecting : List RejectingMasks} {rejects : List ℕ} → Rejecting book rows atoms rejecting → RejectsAt rejecting standing rejects
        → RejectedMasks book rows (setting_of atoms standing) rejects (row_count rows)
    rejected_at {rejecting} {rejects} d w = record { size = w.size; sound = λ h i z. from h i (w.sound h i z); full = λ h i x b. into h i x }
      where
        from : (h i : ℕ) → FitsAt rejecting standing h i → Rejection book rows X (row_count rows) h i
        from h i x =
            let v : (j : ℕ) × (j < row_count rows) × EntryOf book rows atoms j x.entry = d.sound x.entry x.listed in
            let z : bit_of (overridden rows v.0) i ≡ 1 = subst (λ (y : ℕ). bit_of y i ≡ 1) v.2.layers_are x.bit in
            record { row = v.0; before = v.1; facing = ap literal_named (sym x.name_is) ∙ v.2.facing; holds_in = fits-holds v.1 v.2 i z x.fits.plain_stand x.fits.negated_fall; bit = z }

        into : (h i : ℕ) → Rejection book rows X (row_count rows) h i → bit_of (get_or rejects h 0) i ≡ 1
        into h i x =
            let v : (m : RejectingMasks) × m ∈ rejecting × EntryOf book rows atoms x.row m = d.full x.row x.before (λ z. zero_bit (overridden rows x.row) i z x.bit) in
            w.full h i (record {
              entry = v.0;
              listed = v.1;
              fits = record { plain_stand = plain_fits x.before v.2 x.holds_in; negated_fall = negated_fits x.before v.2 x.holds_in };
              name_is = one_name _ h (v.2.facing ∙ sym x.facing);
              bit = subst (λ (y : ℕ). bit_of y i ≡ 1) (sym v.2.layers_are) x.bit;
            })
