-- What the loops keep: the entries of the rows passed, and what the entries passed reject at a setting; and the entries, lent. Used by
-- reject_at and clear_at, and by the plan, which makes the entries and lends them to a search. Assumes nothing.
use mathlib.Core.Path.{◌≡◌, refl, sym, ap, subst, ◌∙◌}
use mathlib.Core.Logic.{◌⊎◌, inl, inr, ⊎_elim}
use Rattle.std.specs.Prelude.{Option, Some, None}
use Rattle.std.specs.Option.{option_to_list}
use mathlib.Core.Bool.{Bool, true, false, cond}
use mathlib.Core.List.Memᴰ
use mathlib.Core.List.{List, [], ◌∷◌, ◌++◌, append-nil}
use Prim.Native.Nat.{ℕ, ◌+◌, ◌<◌}
use native.Mathlib.Decide.{dec_lt}
use native.Mathlib.Omega.{arith}
use lib.Bits.{bit_or}
use lib.ListN.{length, get_or, set, take, length-set, replicate, length-replicate, length-append}
use Rattle.base.specs.Bounds.{max_names}
use Rattle.base.proofs.Members.{◌∈◌}
use Rattle.layers.specs.Masks.{bit_of}
use Rattle.layers.proofs.BitLaws.{no_bits, zero_bit}
use Rattle.format.specs.Book.{Literal}
use Rattle.models.specs.StableModels.{complement}
use Rattle.table.specs.declared.Row.{Row}
use Rattle.table.specs.Names.{literal_named}
use Rattle.table.specs.Rows.{head_name, row_at, overridden}
use Rattle.setting.specs.RuleMasks.{AtomBits, BodyMasked}
use Rattle.std.proofs.lemmas.List.{take_more}
use Rattle.base.proofs.EntryLaws.{entry_in}
use Rattle.setting.proofs.BitMaskLaws.{joined_cases, joined_keeps, joined_has}
use Rattle.setting.proofs.RuleMaskLaws.{mask_literal}
use Rattle.setting.specs.declared.BodyMasks.{BodyMasks}
use Rattle.rejecting.specs.declared.RejectingMasks.{RejectingMasks}
use Rattle.rejecting.specs.Rejecting.{SignMask, EntryOf, MasksOf, RejectingMade, Rejecting, Named, Fits, FitsAt, RejectsAt}

-- ---- a row's entry
sign_mask : {atoms bits : List ℕ} {body : List Literal} {m : BodyMasks} → AtomBits atoms bits (length atoms) → BodyMasked bits body m
    → (sign : Bool) → SignMask atoms body sign (cond sign m.negated m.plain)
sign_mask {atoms} w m sign = record { sound = λ i z. mask_literal w m sign i z; full = λ i b k. m.full (record { atom = get_or atoms i 0; negated = sign }) k i (w.full i b) }

pub entry_of : (book : List ℕ) (rows : List Row) (j : ℕ) {atoms bits : List ℕ} {m : BodyMasks} → AtomBits atoms bits (length atoms)
    → BodyMasked bits (row_at book rows j).body m → (h name : ℕ) → h ≡ head_name rows j → literal_named name ≡ complement (literal_named h) → name < max_names
    → EntryOf book rows atoms j (record { plain = m.plain; negated = m.negated; layers = overridden rows j; name = name })
unfolding row_at
entry_of book rows j w m h name eh en b = record {
  plain_is = sign_mask w m false;
  negated_is = sign_mask w m true;
  facing = en ∙ ap (λ (x : ℕ). complement (literal_named x)) eh;
  name_low = b;
  layers_are = refl;
}

-- ---- the entries of the rows
module _ {book : List ℕ} {rows : List Row} {atoms : List ℕ} where
  pub made-start : RejectingMade book rows atoms [] 0
  made-start = record { room = omega arith; entries = record { sound = λ m k. absurd (Memᴰ.not-nil k); full = λ j h. absurd (omega arith) } }

  module _ {rejecting : List RejectingMasks} {j : ℕ} (w : RejectingMade book rows atoms rejecting j) where
    -- a row that overrides no rule
    made_skip : overridden rows j ≡ 0 → RejectingMade book rows atoms rejecting (j + 1)
    made_skip z = record {
      room = omega (arith, w.room);
      entries = record {
        sound = λ m k. let v = w.entries.sound m k in (v.0, omega (arith, v.1), v.2);
        full = λ x h n. go x h n (dec_lt x j);
      };
    }
      where
        go : (x : ℕ) → x < j + 1 → (overridden rows x ≡ 0 → ⊥) → Dec (x < j) → (m : RejectingMasks) × m ∈ rejecting × EntryOf book rows atoms x m
        go x h n (yes b) = w.entries.full x b n
        go x h n (no b) = let q : x ≡ j = omega arith in absurd (n (subst (λ (y : ℕ). overridden rows y ≡ 0) (sym q) z))

    -- a row whose entry goes behind the others
    made_more : (m : RejectingMasks) → EntryOf book rows atoms j m → RejectingMade book rows atoms (rejecting ++ (m ∷ [])) (j + 1)
    made_more m r = record {
      room = omega (arith, w.room, length-append rejecting (m ∷ []));
      entries = record { sound = λ x k. from x (Memᴰ.append_cases rejecting k); full = λ x b n. into x b n (dec_lt x j) };
    }
      where
        from : (x : RejectingMasks) → x ∈ rejecting ⊎ x ∈ (m ∷ []) → (i : ℕ) × (i < j + 1) × EntryOf book rows atoms i x
        from x (inl k) = let v = w.entries.sound x k in (v.0, omega (arith, v.1), v.2)
        from x (inr k) = (j, omega arith, subst (EntryOf book rows atoms j) (sym (Memᴰ.eq_of_singleton k)) r)

        into : (x : ℕ) → x < j + 1 → (overridden rows x ≡ 0 → ⊥) → Dec (x < j) → (y : RejectingMasks) × y ∈ (rejecting ++ (m ∷ [])) × EntryOf book rows atoms x y
        into x b n (yes y) = let v = w.entries.full x y n in (v.0, Memᴰ.append_left (m ∷ []) v.1, v.2)
        into x b n (no y) = let q : j ≡ x = omega arith in (m, Memᴰ.append_right rejecting (Memᴰ.head refl), subst (λ (i : ℕ). EntryOf book rows atoms i m) q r)

-- an entry more, or none where the row overrides no rule
pub made_put : {book : List ℕ} {rows : List Row} {atoms : List ℕ} {rejecting : List RejectingMasks} {j : ℕ} → RejectingMade book rows atoms rejecting j → (m : BodyMasks) (name layers : ℕ)
    → layers ≡ overridden rows j → EntryOf book rows atoms j (record { plain = m.plain; negated = m.negated; layers = layers; name = name })
    → (entry : Option RejectingMasks) → MasksOf m name layers entry → RejectingMade book rows atoms (rejecting ++ option_to_list entry) (j + 1)
made_put {rejecting = rejecting} w m name layers e r None z = rw (append-nil rejecting) (made_skip w (sym e ∙ z))
made_put {book} {rows} {atoms} {j = j} w m name layers e r (Some x) k = made_more w x (subst (EntryOf book rows atoms j) (sym k.1) r)

pub rejecting_named : {book : List ℕ} {rows : List Row} {atoms : List ℕ} {rejecting : List RejectingMasks} → Rejecting book rows atoms rejecting → Named rejecting
rejecting_named w m k = (w.sound m k).2.name_low

-- ---- what the entries reject
module _ {standing : ℕ} where
  pub rejects_start : RejectsAt [] standing (replicate {A = ℕ} max_names 0)
  rejects_start = record {
    size = length-replicate {A = ℕ} max_names 0;
    sound = λ h i z. absurd (zero_bit (get_or (replicate {A = ℕ} max_names 0) h 0) i (no_bits max_names h) z);
    full = λ h i x. absurd (Memᴰ.not-nil x.listed);
  }

  module _ {rejecting : List RejectingMasks} {rejects : List ℕ} (w : RejectsAt rejecting standing rejects) (m : RejectingMasks) where
    later : {h i : ℕ} → FitsAt rejecting standing h i → FitsAt (rejecting ++ (m ∷ [])) standing h i
    later x = record { entry = x.entry; listed = Memᴰ.append_left (m ∷ []) x.listed; fits = x.fits; name_is = x.name_is; bit = x.bit }

    earlier : {h i : ℕ} (x : FitsAt (rejecting ++ (m ∷ [])) standing h i) → x.entry ∈ rejecting → FitsAt rejecting standing h i
    earlier x k = record { entry = x.entry; listed = k; fits = x.fits; name_is = x.name_is; bit = x.bit }

    -- an entry that does not fit
    pub rejects_skip : (Fits m standing → ⊥) → RejectsAt (rejecting ++ (m ∷ [])) standing rejects
    rejects_skip n = record {
      size = w.size;
      sound = λ h i z. later (w.sound h i z);
      full = λ h i x. ⊎_elim
          (λ a. w.full h i (earlier x a))
          (λ a. absurd (n (subst (λ (y : RejectingMasks). Fits y standing) (Memᴰ.eq_of_singleton a) x.fits)))
          (Memᴰ.append_cases rejecting x.listed);
    }

    -- an entry that fits: its layers join at its name
    pub rejects_more : Fits m standing → m.name < max_names → RejectsAt (rejecting ++ (m ∷ [])) standing (set rejects m.name (bit_or (get_or rejects m.name 0) m.layers))
    rejects_more f b = record {
      size = length-set rejects m.name (bit_or (get_or rejects m.name 0) m.layers) ∙ w.size;
      sound = λ h i z. ⊎_elim
          (λ a. later (w.sound h i a))
          (λ a. record { entry = m; listed = Memᴰ.append_right rejecting (Memᴰ.head refl); fits = f; name_is = sym a.0; bit = a.1 })
          (joined_cases rejects m.name m.layers inside h i z);
      full = λ h i x. ⊎_elim
          (λ a. joined_keeps rejects m.name m.layers inside h i (w.full h i (earlier x a)))
          (λ a. let e : x.entry ≡ m = Memᴰ.eq_of_singleton a in
          joined_has rejects m.name m.layers inside h i (sym x.name_is ∙ ap (λ (y : RejectingMasks). y.name) e) (subst (λ (y : RejectingMasks). bit_of y.layers i ≡ 1) e x.bit))
          (Memᴰ.append_cases rejecting x.listed);
    }
      where
        inside : m.name < length rejects
        inside = omega (arith, w.size)

-- ---- the entry at a place, as a loop over them has it
-- the masks of no row
abbrev pub no_row : RejectingMasks
no_row = record { plain = 0; negated = 0; layers = 0; name = 0 }

module _ (rejecting : List RejectingMasks) (k : ℕ) (b : k < length rejecting) where
  -- its name is one of those that there may be
  pub named_at : Named rejecting → (name : ℕ) → name ≡ (get_or rejecting k no_row).name → name < max_names
  named_at w name e = omega (arith, e, w (get_or rejecting k no_row) (entry_in rejecting k no_row b))

  module _ {standing : ℕ} (rejects : List ℕ) (w : RejectsAt (take k rejecting) standing rejects) where
    pub skipped_at : (Fits (get_or rejecting k no_row) standing → ⊥) → RejectsAt (take (k + 1) rejecting) standing rejects
    skipped_at n = rw (take_more rejecting k no_row b) (rejects_skip w (get_or rejecting k no_row) n)

    pub rejected_more : Fits (get_or rejecting k no_row) standing → Named rejecting → (name : ℕ) → name ≡ (get_or rejecting k no_row).name
        → RejectsAt (take (k + 1) rejecting) standing (set rejects name (bit_or (get_or rejects name 0) (get_or rejecting k no_row).layers))
    rejected_more f all name e =
        rw (take_more rejecting k no_row b)
        (subst (λ (x : ℕ). RejectsAt (take k rejecting ++ (get_or rejecting k no_row ∷ [])) standing (set rejects x (bit_or (get_or rejects x 0) (get_or rejecting k no_row).layers))) (sym e)
        (rejects_more w (get_or rejecting k no_row) f (named_at all _ refl)))
