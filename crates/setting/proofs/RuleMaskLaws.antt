-- The masks of bodies and of rules, as the loops make them, and the test of them. Used by atom_bits, body_masks and headed, and
-- by the crates that take their masks. Assumes nothing.
use mathlib.Core.Path.{◌≡◌, refl, sym, ap, subst, ◌∙◌}
use mathlib.Core.Logic.{◌⊎◌, inl, inr, ⊎_elim}
use mathlib.Core.Bool.{Bool, true, false, cond, false≢true, true≢false}
use mathlib.Core.List.Memᴰ
use mathlib.Core.List.{List, [], ◌∷◌, ◌++◌, append-nil}
use Prim.Native.Nat.{ℕ, suc, ◌+◌, ◌*◌, ◌-◌, ◌/◌, ◌^◌, ◌<◌, ◌≤◌}
use native.Mathlib.Decide.{dec_lt, ℕ_discrete}
use native.Mathlib.Nat.{mul-one, div-eq_of_lt}
use native.Mathlib.Omega.{arith}
use Rattle.std.specs.Prelude.{Option, None, Some}
use Rattle.std.specs.Option.{option_to_list}
use lib.Bits.{bit_or}
use lib.Dec.{leb}
use lib.ListN.{length, get_or, set, take, length-set, replicate, length-replicate, length-append}
use lib.Seq.{take_all}
use Rattle.std.proofs.lemmas.List.{take_more}
use Rattle.base.specs.Bounds.{max_atoms}
use Rattle.base.proofs.Members.{◌∈◌}
use Rattle.layers.specs.Masks.{bit_of}
use Rattle.layers.proofs.BitLaws.{no_bit, no_bits, zero_bit, some-bit, or_cases, or_left, or_right}
use Rattle.format.specs.Book.{Literal}
use Rattle.models.specs.StableModels.{positive}
use Rattle.table.specs.declared.Row.{Row}
use Rattle.table.specs.Names.{literal_named}
use Rattle.table.specs.Rows.{head_name, row_at}
use Rattle.setting.specs.RuleMasks.{AtomBits, BitAt, BodyMasked, RuleMask, head_masks, MaskOf, MasksMade, Open, Headed}
use Rattle.setting.specs.declared.BodyMasks.{BodyMasks}
use Rattle.setting.specs.declared.HeadMasks.{HeadMasks}
use Rattle.setting.proofs.BitMaskLaws.{single, single_only, single_has, joined, joined_cases, joined_keeps, joined_has, or_absorbs}

-- ---- the bits of the atoms
pub bits-start : (atoms : List ℕ) → AtomBits atoms (replicate {A = ℕ} max_atoms 0) 0
bits-start atoms = record {
  size = length-replicate {A = ℕ} max_atoms 0;
  sound = λ f i z. absurd (no_bit i (subst (λ (x : ℕ). bit_of x i ≡ 1) (no_bits max_atoms f) z));
  full = λ i h. absurd (omega arith);
}

module _ (atoms bits : List ℕ) (i f : ℕ) (w : AtomBits atoms bits i) (e : f ≡ get_or atoms i 0) (b : f < max_atoms) (h : i < 32) where
  pub bits-more : AtomBits atoms (joined bits f (single i) (omega (arith, w.size))) (i + 1)
  bits-more = record {
    size = length-set bits f (bit_or (get_or bits f 0) (single i)) ∙ w.size;
    sound = λ g k z. from g k (joined_cases bits f (single i) (omega (arith, w.size)) g k z);
    full = λ k l. into k (dec_lt k i) l;
  }
    where
      from : (g k : ℕ) → (bit_of (get_or bits g 0) k ≡ 1) ⊎ ((g ≡ f) × (bit_of (single i) k ≡ 1)) → (k < i + 1) × (get_or atoms k 0 ≡ g)
      from g k (inl a) = let v : (k < i) × (get_or atoms k 0 ≡ g) = w.sound g k a in (omega (arith, v.0), v.1)
      from g k (inr a) = let q : k ≡ i = single_only i h k a.1 in (omega arith, ap (λ (x : ℕ). get_or atoms x 0) q ∙ sym e ∙ sym a.0)

      into : (k : ℕ) → Dec (k < i) → k < i + 1 → bit_of (get_or (set bits f (bit_or (get_or bits f 0) (single i))) (get_or atoms k 0) 0) k ≡ 1
      into k (yes a) l = joined_keeps bits f (single i) (omega (arith, w.size)) (get_or atoms k 0) k (w.full k a)
      into k (no n) l =
          let q : k ≡ i = omega arith in
          joined_has bits f (single i) (omega (arith, w.size)) (get_or atoms k 0) k (ap (λ (x : ℕ). get_or atoms x 0) q ∙ sym e) (subst (λ (x : ℕ). bit_of (single i) x ≡ 1) (sym q) (single_has i h))

-- ---- a body's masks
-- masks m' in place of m, for a literal more
module _ (bits : List ℕ) (ls : List Literal) (here : Literal) (m m' : BodyMasks) (w : BodyMasked bits ls m)
    (kept : (c : Bool) (i : ℕ) → bit_of (cond c m.negated m.plain) i ≡ 1 → bit_of (cond c m'.negated m'.plain) i ≡ 1)
    (from : (c : Bool) (i : ℕ) → bit_of (cond c m'.negated m'.plain) i ≡ 1 → (bit_of (cond c m.negated m.plain) i ≡ 1) ⊎ ((here.negated ≡ c) × (bit_of (get_or bits here.atom 0) i ≡ 1)))
    (has : (i : ℕ) → bit_of (get_or bits here.atom 0) i ≡ 1 → bit_of (cond here.negated m'.negated m'.plain) i ≡ 1)
    (some : m'.whole ≡ true → (m.whole ≡ true) × ((i : ℕ) × (bit_of (get_or bits here.atom 0) i ≡ 1))) where
  literal_more : BodyMasked bits (ls ++ (here ∷ [])) m'
  literal_more = record {
    sound = λ c i z. ⊎_elim
        (λ a. let v = w.sound c i a in (v.0, Memᴰ.append_left (here ∷ []) v.1, v.2, v.3))
        (λ a. (here, Memᴰ.append_right ls (Memᴰ.head refl), a.0, a.1))
        (from c i z);
    full = λ l k i z. ⊎_elim
        (λ a. kept l.negated i (w.full l a i z))
        (λ a. let e : l ≡ here = Memᴰ.eq_of_singleton a in subst (λ (x : Literal). bit_of (cond x.negated m'.negated m'.plain) i ≡ 1) (sym e) (has i (subst (λ (x : Literal). bit_of (get_or bits x.atom 0) i ≡ 1) e z)))
        (Memᴰ.append_cases ls k);
    all_have = λ t l k. ⊎_elim
        (λ a. w.all_have (some t).0 l a)
        (λ a. subst (λ (x : Literal). (i : ℕ) × (bit_of (get_or bits x.atom 0) i ≡ 1)) (sym (Memᴰ.eq_of_singleton a)) (some t).1)
        (Memᴰ.append_cases ls k);
  }

-- a literal more, whose atom's bits are x
module _ {bits : List ℕ} {ls : List Literal} {m : BodyMasks} (w : BodyMasked bits ls m) (here : Literal) where
  pub masked_none : get_or bits here.atom 0 ≡ 0 → BodyMasked bits (ls ++ (here ∷ [])) (record { plain = m.plain; negated = m.negated; whole = false })
  masked_none e =
      literal_more bits ls here m _ w (λ c k z. z) (λ c k z. inl z) (λ k z. absurd (zero_bit (get_or bits here.atom 0) k e z)) (λ t. absurd (false≢true t))

  module _ (x : ℕ) (e : (x ≡ get_or bits here.atom 0) × (x ≡ 0 → ⊥)) where
    out : (k : ℕ) → bit_of x k ≡ 1 → bit_of (get_or bits here.atom 0) k ≡ 1
    out k z = subst (λ (y : ℕ). bit_of y k ≡ 1) e.0 z

    back : (k : ℕ) → bit_of (get_or bits here.atom 0) k ≡ 1 → bit_of x k ≡ 1
    back k z = subst (λ (y : ℕ). bit_of y k ≡ 1) (sym e.0) z

    has_bit : (k : ℕ) × (bit_of (get_or bits here.atom 0) k ≡ 1)
    has_bit = let b : (k : ℕ) × (bit_of x k ≡ 1) = some-bit (suc x) x (omega arith) (omega (arith, e.1)) in (b.0, out b.0 b.1)

    pub masked_negated : here.negated ≡ true → BodyMasked bits (ls ++ (here ∷ [])) (record { plain = m.plain; negated = bit_or m.negated x; whole = m.whole })
    masked_negated sign = literal_more bits ls here m _ w kept from has (λ t. (t, has_bit))
      where
        kept : (c : Bool) (k : ℕ) → bit_of (cond c m.negated m.plain) k ≡ 1 → bit_of (cond c (bit_or m.negated x) m.plain) k ≡ 1
        kept true k z = or_left m.negated x k z
        kept false k z = z

        from : (c : Bool) (k : ℕ) → bit_of (cond c (bit_or m.negated x) m.plain) k ≡ 1 → (bit_of (cond c m.negated m.plain) k ≡ 1) ⊎ ((here.negated ≡ c) × (bit_of (get_or bits here.atom 0) k ≡ 1))
        from true k z = ⊎_elim (λ a. inl a) (λ a. inr (sign, out k a)) (or_cases m.negated x k z)
        from false k z = inl z

        has : (k : ℕ) → bit_of (get_or bits here.atom 0) k ≡ 1 → bit_of (cond here.negated (bit_or m.negated x) m.plain) k ≡ 1
        has k z = subst (λ (c : Bool). bit_of (cond c (bit_or m.negated x) m.plain) k ≡ 1) (sym sign) (or_right m.negated x k (back k z))

    pub masked_plain : here.negated ≡ false → BodyMasked bits (ls ++ (here ∷ [])) (record { plain = bit_or m.plain x; negated = m.negated; whole = m.whole })
    masked_plain sign = literal_more bits ls here m _ w kept from has (λ t. (t, has_bit))
      where
        kept : (c : Bool) (k : ℕ) → bit_of (cond c m.negated m.plain) k ≡ 1 → bit_of (cond c m.negated (bit_or m.plain x)) k ≡ 1
        kept true k z = z
        kept false k z = or_left m.plain x k z

        from : (c : Bool) (k : ℕ) → bit_of (cond c m.negated (bit_or m.plain x)) k ≡ 1 → (bit_of (cond c m.negated m.plain) k ≡ 1) ⊎ ((here.negated ≡ c) × (bit_of (get_or bits here.atom 0) k ≡ 1))
        from true k z = inl z
        from false k z = ⊎_elim (λ a. inl a) (λ a. inr (sign, out k a)) (or_cases m.plain x k z)

        has : (k : ℕ) → bit_of (get_or bits here.atom 0) k ≡ 1 → bit_of (cond here.negated m.negated (bit_or m.plain x)) k ≡ 1
        has k z = subst (λ (c : Bool). bit_of (cond c m.negated (bit_or m.plain x)) k ≡ 1) (sym sign) (or_right m.plain x k (back k z))

-- ---- the masks of a rule
name_plain : (h f : ℕ) → literal_named h ≡ positive f → h ≡ f
unfolding literal_named
name_plain h f e = go (leb max_atoms h) refl
  where
    go : (c : Bool) → leb max_atoms h ≡ c → h ≡ f
    go true q = absurd (true≢false (sym q ∙ ap (λ (l : Literal). l.negated) e))
    go false q = sym (ap (λ (c : Bool). cond c (h - max_atoms) h) q) ∙ ap (λ (l : Literal). l.atom) e

-- bits of atoms, as literals of the atoms
pub mask_literal : {atoms bits : List ℕ} {body : List Literal} {m : BodyMasks} → AtomBits atoms bits (length atoms) → BodyMasked bits body m
    → (sign : Bool) (i : ℕ) → bit_of (cond sign m.negated m.plain) i ≡ 1 → (i < length atoms) × record { atom = get_or atoms i 0; negated = sign } ∈ body
mask_literal {atoms} {body = body} w m sign i z =
    let v = m.sound sign i z in
    let b : (i < length atoms) × (get_or atoms i 0 ≡ v.0.atom) = w.sound v.0.atom i v.3 in
    let e : v.0 ≡ record { atom = get_or atoms i 0; negated = sign } = ap (λ (c : Bool). record { atom = v.0.atom; negated = c }) v.2 ∙ ap (λ (f : ℕ). record { atom = f; negated = sign }) (sym b.1) in
    (b.0, subst (λ (l : Literal). l ∈ body) e v.1)

rule_mask : (book : List ℕ) (rows : List Row) (j : ℕ) {atoms bits : List ℕ} {m : BodyMasks} → AtomBits atoms bits (length atoms)
    → BodyMasked bits (row_at book rows j).body m → (h : ℕ) → h ≡ head_name rows j
    → RuleMask atoms (row_at book rows j) (record { plain = m.plain; negated = m.negated; head = get_or bits h 0 })
unfolding row_at
rule_mask book rows j {atoms} {bits} w m h eh = record {
  plain_in = λ i z. (mask_literal w m false i z).1;
  negated_in = λ i z. (mask_literal w m true i z).1;
  head_in = λ i b e. subst (λ (f : ℕ). bit_of (get_or bits f 0) i ≡ 1) (sym (eh ∙ name_plain (head_name rows j) (get_or atoms i 0) e)) (w.full i b);
}

pub masks_start : (book : List ℕ) (rows : List Row) (atoms : List ℕ) → MasksMade book rows atoms [] 0
masks_start book rows atoms = record { room = omega arith; each = λ j i h. absurd (omega arith) }

module _ {book : List ℕ} {rows : List Row} {atoms : List ℕ} {rules : List HeadMasks} {j : ℕ} (w : MasksMade book rows atoms rules j) where
  -- a row of another head
  masks_skip : ((i : ℕ) → i < length atoms → (row_at book rows j).head ≡ positive (get_or atoms i 0) → ⊥) → MasksMade book rows atoms rules (j + 1)
  masks_skip none = record { room = omega (arith, w.room); each = λ x i h b e. go x i h b e (dec_lt x j) }
    where
      go : (x i : ℕ) → x < j + 1 → i < length atoms → (row_at book rows x).head ≡ positive (get_or atoms i 0) → Dec (x < j) → MaskOf book rows atoms rules x
      go x i h b e (yes l) = w.each x i l b e
      go x i h b e (no n) = let q : x ≡ j = omega arith in absurd (none i b (subst (λ (y : ℕ). (row_at book rows y).head ≡ positive (get_or atoms i 0)) q e))

  -- a row whose masks go behind the others
  masks_more : (m : HeadMasks) → RuleMask atoms (row_at book rows j) m → MasksMade book rows atoms (rules ++ (m ∷ [])) (j + 1)
  masks_more m r = record { room = omega (arith, w.room, length-append rules (m ∷ [])); each = λ x i l d e. go x i l d e (dec_lt x j) }
    where
      go : (x i : ℕ) → x < j + 1 → i < length atoms → (row_at book rows x).head ≡ positive (get_or atoms i 0) → Dec (x < j) → MaskOf book rows atoms (rules ++ (m ∷ [])) x
      go x i l d e (yes p) = let v = w.each x i p d e in record { entry = v.entry; listed = Memᴰ.append_left (m ∷ []) v.listed; mask = v.mask }
      go x i l d e (no n) =
          let q : x ≡ j = omega arith in
          record { entry = m; listed = Memᴰ.append_right rules (Memᴰ.head refl); mask = subst (λ (y : ℕ). RuleMask atoms (row_at book rows y) m) (sym q) r }

-- a row whose head's bits are none has no branching atom as its plain head
no_head : (book : List ℕ) (rows : List Row) (atoms bits : List ℕ) (j h : ℕ) → AtomBits atoms bits (length atoms) → h ≡ head_name rows j → (x : ℕ) → x ≡ get_or bits h 0 → x ≡ 0
    → (i : ℕ) → i < length atoms → (row_at book rows j).head ≡ positive (get_or atoms i 0) → ⊥
unfolding row_at
no_head book rows atoms bits j h w eh x ex z i b e =
    no_bit i (subst (λ (y : ℕ). bit_of y i ≡ 1) (sym ex ∙ z) (subst (λ (f : ℕ). bit_of (get_or bits f 0) i ≡ 1) (sym (eh ∙ name_plain (head_name rows j) (get_or atoms i 0) e)) (w.full i b)))

-- an entry more, or none where the head has no bit
pub masks_put : {book : List ℕ} {rows : List Row} {atoms bits : List ℕ} {rules : List HeadMasks} {j : ℕ} → MasksMade book rows atoms rules j → AtomBits atoms bits (length atoms) → (m : BodyMasks)
    → BodyMasked bits (row_at book rows j).body m → (h : ℕ) → h ≡ head_name rows j → (head : Option ℕ) → BitAt bits h head
    → MasksMade book rows atoms (rules ++ option_to_list (head_masks m head)) (j + 1)
masks_put {book} {rows} {atoms} {bits} {rules} {j} w b m bm h eh None e = rw (append-nil rules) (masks_skip w (no_head book rows atoms bits j h b eh _ refl e))
masks_put {book} {rows} {atoms} {bits} {rules} {j} w b m bm h eh (Some x) e =
    masks_more w _ (subst (λ (y : ℕ). RuleMask atoms (row_at book rows j) (record { plain = m.plain; negated = m.negated; head = y })) (sym e.0) (rule_mask book rows j b bm h eh))

-- ---- the test
-- 1 where there is no denial, else 0
pub weighed : (h d : ℕ) → d ≡ 0 → h * ((4294967296 - d) / 2 ^ 32) ≡ h
weighed h d e = ap (λ (x : ℕ). h * ((4294967296 - x) / 2 ^ 32)) e ∙ mul-one h

pub weighed_le : (h d : ℕ) → h * ((4294967296 - d) / 2 ^ 32) ≤ h
weighed_le h d = go (ℕ_discrete d 0)
  where
    go : Dec (d ≡ 0) → h * ((4294967296 - d) / 2 ^ 32) ≤ h
    go (yes e) = omega (arith, weighed h d e)
    go (no n) =
        let z : (4294967296 - d) / 2 ^ 32 ≡ 0 = div-eq_of_lt (omega arith) in
        omega (arith, ap (λ (x : ℕ). h * x) z)

-- the masks of no rule
abbrev no_rule : HeadMasks
no_rule = record { plain = 0; negated = 0; head = 0 }

-- the heads of the open ones among these rules are collected
abbrev pub HeadsTo : List HeadMasks → ℕ → ℕ → ℕ → Type 0
HeadsTo rules standing denied heads = (m : HeadMasks) → m ∈ rules → Open m standing denied → (i : ℕ) → bit_of m.head i ≡ 1 → bit_of heads i ≡ 1

module _ {standing denied : ℕ} (rules : List HeadMasks) (j : ℕ) where
  -- a rule more: its head, where it is open
  pub heads_more : j < length rules → (heads : ℕ) → HeadsTo (take j rules) standing denied heads → (x : ℕ) → (Open (get_or rules j no_rule) standing denied → x ≡ (get_or rules j no_rule).head)
      → HeadsTo (take (j + 1) rules) standing denied (bit_or heads x)
  heads_more b heads w x told m k o i z = ⊎_elim
      (λ a. or_left heads x i (w m a o i z))
      (λ a. let e : m ≡ get_or rules j no_rule = Memᴰ.eq_of_singleton a in
      or_right heads x i (subst (λ (y : ℕ). bit_of y i ≡ 1) (sym (told (subst (λ (r : HeadMasks). Open r standing denied) e o))) (subst (λ (r : HeadMasks). bit_of r.head i ≡ 1) e z)))
      (Memᴰ.append_cases (take j rules) (subst (λ (l : List HeadMasks). m ∈ l) (take_more rules j no_rule b) k))

  pub heads_end : length rules ≤ j → (heads : ℕ) → HeadsTo (take j rules) standing denied heads → (wanted : ℕ) → wanted ≡ standing → Headed rules standing denied → bit_or wanted heads ≡ heads
  heads_end b heads w wanted e all_headed =
      subst (λ (y : ℕ). bit_or y heads ≡ heads) (sym e)
      (or_absorbs (suc standing) standing heads (omega arith)
      (λ i z. let v = all_headed i z in w v.0 (subst (λ (l : List HeadMasks). v.0 ∈ l) (sym (take_all j rules b)) v.1) v.2 i v.3))
