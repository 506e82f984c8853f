-- What the loops keep: the masks of what can be rejected, the nogood of a row, and the entries made. Assumes nothing.
use mathlib.Core.Path.{◌≡◌, sym, ap, subst, ◌∙◌}
use mathlib.Core.Bool.{Bool, true, false, not, cond, false≢true}
use mathlib.Core.Logic.{⊎_elim}
use mathlib.Core.List.Memᴰ
use mathlib.Core.List.{List, ◌++◌}
use Prim.Native.Nat.{ℕ, suc, ◌+◌, ◌<◌}
use native.Mathlib.Decide.{dec_lt}
use native.Mathlib.Omega.{arith}
use lib.Bits.{bit_or}
use lib.Dec.{T}
use lib.ListN.{length, get_or, set, length-set}
use Rattle.base.specs.Bounds.{max_names}
use Rattle.layers.specs.Masks.{bit_of}
use Rattle.layers.proofs.BitLaws.{or_left, or_right, some-bit}
use Rattle.format.specs.Book.{Literal, literals_of}
use Rattle.base.proofs.Members.{◌∈◌}
use Rattle.base.proofs.EntryLaws.{entry_in}
use Rattle.table.specs.declared.Row.{Row}
use Rattle.table.specs.declared.Span.{Span}
use Rattle.bans.specs.Bans.{body_of}
use Rattle.models.specs.StableModels.{complement}
use Rattle.table.specs.Names.{literal_named}
use Rattle.table.specs.Rows.{span_bytes, row_count, head_name, row_at, overridden, alive}
use Rattle.table.proofs.NameLaws.{one_name}
use Rattle.std.specs.Bool.{MatchBool}
use Rattle.std.specs.List.{HoldsAt, AllWithin as EachWithin}
use Rattle.setting.specs.RuleMasks.{BodyMasked}
use Rattle.setting.specs.declared.BodyMasks.{BodyMasks}
use Rattle.nogoods.specs.declared.Nogood.{Nogood}
use Rattle.setting.proofs.BitMaskLaws.{joined_keeps, joined_has}
use Rattle.nogoods.specs.Nogoods.{Rejectable, Within, AllWithin, NogoodOf, NogoodsTo, IsDecided, Violated}

-- ---- what can be rejected
module _ {rows : List Row} {rejectable : List ℕ} {j : ℕ} (w : Rejectable rows rejectable j) (h o : ℕ) (eh : h ≡ head_name rows j) (eo : literal_named o ≡ complement (literal_named h)) (bo : o < max_names) where
  pub rejectable-more : Rejectable rows (set rejectable o (bit_or (get_or rejectable o 0) (overridden rows j))) (j + 1)
  rejectable-more = record {
    size = length-set rejectable o (bit_or (get_or rejectable o 0) (overridden rows j)) ∙ w.size;
    full = λ k b x e l i z. go k b x e l i z (dec_lt k j);
  }
    where
      inside : o < length rejectable
      inside = omega (arith, w.size)

      go : (k : ℕ) → k < j + 1 → (x : ℕ) → literal_named x ≡ complement (literal_named (head_name rows k)) → x < max_names → (i : ℕ) → bit_of (overridden rows k) i ≡ 1 → Dec (k < j)
          → bit_of (get_or (set rejectable o (bit_or (get_or rejectable o 0) (overridden rows j))) x 0) i ≡ 1
      go k b x e l i z (yes y) = joined_keeps rejectable o (overridden rows j) inside x i (w.full k y x e l i z)
      go k b x e l i z (no y) =
          let q : k ≡ j = omega arith in
          joined_has rejectable o (overridden rows j) inside x i
          (one_name x o (e ∙ ap (λ (y : ℕ). complement (literal_named (head_name rows y))) q ∙ ap (λ (y : ℕ). complement (literal_named y)) (sym eh) ∙ sym eo))
          (subst (λ (y : ℕ). bit_of (overridden rows y) i ≡ 1) q z)

-- ---- literals within a nogood
within_wider : (bits : List ℕ) (n m : Nogood) → ((i : ℕ) → bit_of n.standing i ≡ 1 → bit_of m.standing i ≡ 1) → ((i : ℕ) → bit_of n.denied i ≡ 1 → bit_of m.denied i ≡ 1) → (l : Literal) → Within bits n l → Within bits m l
within_wider bits n m f g l w = record { place = w.place; atom_bit = w.atom_bit; bit = go l.negated w.bit }
  where
    go : (c : Bool) → bit_of (cond c n.denied n.standing) w.place ≡ 1 → bit_of (cond c m.denied m.standing) w.place ≡ 1
    go true z = g w.place z
    go false z = f w.place z

within-bit : (bits : List ℕ) (n : Nogood) (l : Literal) (c : Bool) → l.negated ≡ c → (x : ℕ) → x ≡ get_or bits l.atom 0 → (x ≡ 0 → ⊥) → ((i : ℕ) → bit_of x i ≡ 1 → bit_of (cond c n.denied n.standing) i ≡ 1) → Within bits n l
within-bit bits n l c ec x ex some f =
    let b : (i : ℕ) × (bit_of x i ≡ 1) = some-bit (suc x) x (omega arith) (omega arith) in
    record { place = b.0; atom_bit = subst (λ (y : ℕ). bit_of y b.0 ≡ 1) ex b.1; bit = subst (λ (y : Bool). bit_of (cond y n.denied n.standing) b.0 ≡ 1) (sym ec) (f b.0 b.1) }

-- a body whose masks are whole is within them
body_within : {bits : List ℕ} {body : List Literal} {m : BodyMasks} → BodyMasked bits body m → m.whole ≡ true → AllWithin bits (record { standing = m.plain; denied = m.negated }) body
body_within w t l k = let b = w.all_have t l k in record { place = b.0; atom_bit = b.1; bit = w.full l k b.0 b.1 }

-- ---- a row
module _ (book : List ℕ) (rows : List Row) (rejectable bits : List ℕ) (j : ℕ) (bj : j < row_count rows) {m : BodyMasks} (w : BodyMasked bits (row_at book rows j).body m) (t : m.whole ≡ true)
    (a : Bool) (ea : a ≡ alive rejectable (row_at book rows j)) (ta : a ≡ true) (h : ℕ) (eh : h ≡ head_name rows j)
    (l : Literal) (el : l ≡ literal_named h) (x : ℕ) (e : (x ≡ get_or bits l.atom 0) × (x ≡ 0 → ⊥)) where
  lives : T (alive rejectable (row_at book rows j))
  lives = subst T (sym (sym ea ∙ ta)) tt

  -- the head is the local's literal
  head_within : (n : Nogood) → Within bits n (complement l) → Within bits n (complement (row_at book rows j).head)
  unfolding row_at
  head_within n v = subst (λ (y : Literal). Within bits n (complement y)) (el ∙ ap literal_named eh) v

  pub nogood_plain : l.negated ≡ false → NogoodOf book rows rejectable bits j (record { standing = m.plain; denied = bit_or m.negated x })
  unfolding complement
  nogood_plain c = record {
    before = bj;
    lives = lives;
    body_in = λ l k. within_wider bits _ _ (λ i z. z) (λ i z. or_left m.negated x i z) l (body_within w t l k);
    head_in = head_within _ (within-bit bits _ (complement l) true (ap not c) x e.0 e.1 (λ i z. or_right m.negated x i z));
  }

  pub nogood_negated : l.negated ≡ true → NogoodOf book rows rejectable bits j (record { standing = bit_or m.plain x; denied = m.negated })
  unfolding complement
  nogood_negated c = record {
    before = bj;
    lives = lives;
    body_in = λ l k. within_wider bits _ _ (λ i z. or_left m.plain x i z) (λ i z. z) l (body_within w t l k);
    head_in = head_within _ (within-bit bits _ (complement l) false (ap not c) x e.0 e.1 (λ i z. or_right m.plain x i z));
  }

-- ---- a constraint
pub ban_within : (book bits : List ℕ) (ban : Span) (part : List ℕ) → part ≡ span_bytes book ban → {m : BodyMasks} → BodyMasked bits (literals_of part) m → m.whole ≡ true
    → AllWithin bits (record { standing = m.plain; denied = m.negated }) (body_of book ban)
unfolding body_of
ban_within book bits ban part e w t l k = body_within w t l (subst (λ (x : List ℕ). l ∈ literals_of x) (sym e) k)

-- ---- the entries
-- one of them is found to be decided
pub violated : {nogoods : List Nogood} {standing denied : ℕ} (found : Bool) → MatchBool found ((k : ℕ) × (k < length nogoods) × HoldsAt (λ n. IsDecided n standing denied) nogoods k) (EachWithin (λ n. Unit {0}) nogoods 0 (length nogoods))
    → found ≡ true → Violated nogoods standing denied
violated {nogoods} true at e =
    let blank : Nogood = record { standing = 0; denied = 0 } in
    record { nogood = get_or nogoods at.0 blank; listed = entry_in nogoods at.0 blank at.1; decided = at.2 blank }
violated false at e = absurd (false≢true e)

-- a nogood more, if there is one and there is room for it
pub nogoods_more : {book : List ℕ} {rows : List Row} {bans : List Span} {rejectable bits : List ℕ} {nogoods : List Nogood} → NogoodsTo book rows bans rejectable bits nogoods
    → (more : List Nogood) → NogoodsTo book rows bans rejectable bits more → NogoodsTo book rows bans rejectable bits (nogoods ++ more)
nogoods_more {nogoods = nogoods} w more f n k = ⊎_elim (λ a. w n a) (λ a. f n a) (Memᴰ.append_cases nogoods k)
