-- The rules' section, record by record: what the record at an offset gives, what the walk over the section keeps, and that it ends with
-- the entries of the rules that pass the mask. Used by the section's iterator and by gather. Assumes nothing.
use mathlib.Core.Path.{◌≡◌, refl, sym, ap, ap₂, subst, ◌∙◌}
use mathlib.Core.Bool.{Bool, true, false, not, ◌&&◌, false≢true}
use mathlib.Core.List.Memᴰ
use mathlib.Core.List.{List, [], ◌∷◌, ◌++◌, map, append_assoc, append-nil}
use Prim.Native.Nat.{ℕ, zero, suc, ◌+◌, ◌-◌, ◌<◌, ◌≤◌}
use native.Mathlib.Decide.{dec_lt}
use native.Mathlib.Omega.{arith}
use lib.ListN.{length, get_or, set, length-set, take, drop, length-take}
use lib.Seq.{get_or-take, get_or-drop, drop-drop}
use Rattle.std.proofs.lemmas.List.{drop-take, take_more_set, map-id, length-map}
use Rattle.base.specs.Bounds.{max_atoms, max_names, max_layers, max_rules}
use Rattle.base.specs.Lists.{cons_if, filter}
use Rattle.format.specs.Book.{Literal, Rule, literal_of, literals_of, rule_of, is_constraint, records, record_end}
use Rattle.base.proofs.Members.{◌∈◌}
use Rattle.format.proofs.Offsets.{records_cut, records_done, meets_fails, meets_more, count-more}
use Rattle.table.specs.Names.{literal_named}
use Rattle.table.specs.declared.Row.{Row}
use Rattle.table.specs.declared.TheConstants.{NO_ROW}
use Rattle.table.specs.Rows.{row_rule, rows_of, in_mask, takes_rule, RowFits}
use Rattle.table.specs.Records.{head_at, rule_at, RuleAt, rules_from, Stand, Gathered, RowOf, BodyOf}
use Rattle.table.specs.declared.Span.{Span}
use Rattle.table.specs.Table.{RuleRecord, RuleRecords, RowsMade}

rule_here : (s : List ℕ) (at : ℕ) → 3 ≤ get_or s at 0 → rule_of (take (get_or s at 0) (drop (at + 1) s)) ≡ rule_at s at
unfolding rule_of rule_at
rule_here s at k =
    ap (λ (x : ℕ). record { layer = x; head = literal_of (get_or t 1 0) (get_or t 2 0); body = literals_of (drop 3 t) }) (byte 0 (at + 1) (omega arith) (omega arith))
    ∙ ap (λ (x : ℕ). record { layer = get_or s (at + 1) 0; head = literal_of x (get_or t 2 0); body = literals_of (drop 3 t) }) (byte 1 (at + 2) (omega arith) (omega arith))
    ∙ ap (λ (x : ℕ). record { layer = get_or s (at + 1) 0; head = literal_of (get_or s (at + 2) 0) x; body = literals_of (drop 3 t) }) (byte 2 (at + 3) (omega arith) (omega arith))
    ∙ ap (λ (x : List ℕ). record { layer = get_or s (at + 1) 0; head = literal_of (get_or s (at + 2) 0) (get_or s (at + 3) 0); body = literals_of x })
    (ap (λ (n : ℕ). drop 3 (take n (drop (at + 1) s))) {x = get_or s at 0} {y = 3 + (get_or s at 0 - 3)} (omega arith)
    ∙ drop-take 3 (get_or s at 0 - 3) (drop (at + 1) s)
    ∙ ap (λ (u : List ℕ). take (get_or s at 0 - 3) u) (drop-drop 3 (at + 1) s ∙ ap (λ (n : ℕ). drop n s) {x = at + 1 + 3} {y = at + 4} (omega arith)))
  where
    t : List ℕ
    t = take (get_or s at 0) (drop (at + 1) s)

    byte : (i j : ℕ) → i < 3 → at + 1 + i ≡ j → get_or t i 0 ≡ get_or s j 0
    byte i j a e = get_or-take (get_or s at 0) (drop (at + 1) s) i 0 (omega arith) ∙ get_or-drop (at + 1) s i 0 ∙ ap (λ (n : ℕ). get_or s n 0) e

-- what the record at an offset gives
module _ (s : List ℕ) (at : ℕ) (h : at < length s) (w : RuleRecords (drop at s)) where
  room : get_or s at 0 ≤ length s - (at + 1)
  room = go (dec_lt (length s - (at + 1)) (get_or s at 0))
    where
      go : Dec (length s - (at + 1) < get_or s at 0) → get_or s at 0 ≤ length s - (at + 1)
      go (yes b) = absurd (false≢true (sym (meets_fails s at h b) ∙ w.whole))
      go (no b) = omega arith

  end_is : record_end s at ≡ at + 1 + get_or s at 0
  unfolding record_end
  end_is = omega (arith, room)

  split : records (drop at s) ≡ take (get_or s at 0) (drop (at + 1) s) ∷ records (drop (at + 1 + get_or s at 0) s)
  split =
      records_cut s at h
      ∙ ap (λ (k : ℕ). take (k - (at + 1)) (drop (at + 1) s) ∷ records (drop k s)) end_is
      ∙ ap (λ (k : ℕ). take k (drop (at + 1) s) ∷ records (drop (at + 1 + get_or s at 0) s)) {x = at + 1 + get_or s at 0 - (at + 1)} {y = get_or s at 0} (omega arith)

  first_record : RuleRecord (take (get_or s at 0) (drop (at + 1) s))
  first_record = w.each (take (get_or s at 0) (drop (at + 1) s)) (subst (λ (rs : List (List ℕ)). take (get_or s at 0) (drop (at + 1) s) ∈ rs) (sym split) (Memᴰ.head refl))

  size : 3 ≤ get_or s at 0
  size = omega (arith, first_record.long, length-take (get_or s at 0) (drop (at + 1) s))

  pub record_here : RuleAt s at
  unfolding rule_at is_constraint
  record_here = record {
    long = size;
    ends = omega (arith, room);
    layer_low = subst (λ (r : Rule). r.layer < max_layers) (rule_here s at size) first_record.layer_low;
    atom_low = λ e. subst (λ (r : Rule). r.head.atom < max_atoms) (rule_here s at size) (first_record.atom_low (ap is_constraint (rule_here s at size) ∙ e));
  }

  pub records_left : RuleRecords (drop (at + 1 + get_or s at 0) s)
  records_left = record {
    whole = sym (meets_more s at h room) ∙ w.whole;
    few = omega (arith, w.few, count-more s at h);
    each = λ r k. w.each r (subst (λ (rs : List (List ℕ)). r ∈ rs) (sym split) (Memᴰ.tail k));
  }

  pub rules_left : rules_from s at ≡ rule_at s at ∷ rules_from s (at + 1 + get_or s at 0)
  rules_left = ap (map rule_of) split ∙ ap (λ (r : Rule). r ∷ rules_from s (at + 1 + get_or s at 0)) (rule_here s at size)

pub no_rules_left : (s : List ℕ) (at : ℕ) → length s ≤ at → rules_from s at ≡ []
no_rules_left s at h = ap (map rule_of) (records_done s at h)

-- ---- the walk
stand_more : {E : Type 0} (stands : E → Rule → Type 0) (es : List E) (rs : List Rule) (e : E) (r : Rule) → Stand stands es rs → stands e r → Stand stands (es ++ (e ∷ [])) (rs ++ (r ∷ []))
stand_more stands [] [] e r s x = (x, tt)
stand_more stands [] (r' ∷ rs) e r s x = absurd s
stand_more stands (e' ∷ es) [] e r s x = absurd s
stand_more stands (e' ∷ es) (r' ∷ rs) e r s x = (s.0, stand_more stands es rs e r s.1 x)

module _ {E : Type 0} (takes : Rule → Bool) (stands : List ℕ → E → Rule → Type 0) (book : List ℕ) (first mask : ℕ) where
  abbrev pub counts : Rule → Bool
  counts r = in_mask mask r && takes r

  -- these rules are left, with k entries written, which stand for the rules passed that count
  pub record WalkedTo (out : List E) (k : ℕ) (left : List Rule) : Type 0 where
    pub room : k + length left ≤ max_rules
    pub size : length out ≡ max_rules
    pub done : List Rule
    pub made : done ++ filter counts left ≡ filter counts (rules_from book first)
    pub entries : Stand (stands book) (take k out) done

  pub walk_start : (out : List E) → length out ≡ max_rules → RuleRecords (drop first book) → WalkedTo out 0 (rules_from book first)
  walk_start out e w = record {
    room = omega (arith, w.few, length-map (records (drop first book)) rule_of);
    size = e;
    done = [];
    made = refl;
    entries = tt;
  }

  module _ {out : List E} {k : ℕ} {r : Rule} {all left : List Rule} (at : WalkedTo out k all) (e : all ≡ r ∷ left) where
    w : WalkedTo out k (r ∷ left)
    w = subst (WalkedTo out k) e at

    -- there is room for one more
    pub free : k < max_rules
    free = omega (arith, w.room)

    pub walk_skip : counts r ≡ false → WalkedTo out k left
    unfolding filter cons_if
    walk_skip n = record {
      room = omega (arith, w.room);
      size = w.size;
      done = w.done;
      made = ap (λ (c : Bool). w.done ++ cons_if c r (filter counts left)) (sym n) ∙ w.made;
      entries = w.entries;
    }

    pub walk_more : (entry : E) → stands book entry r → counts r ≡ true → WalkedTo (set out k entry) (k + 1) left
    unfolding filter cons_if
    walk_more entry es t = record {
      room = omega (arith, w.room);
      size = length-set out k entry ∙ w.size;
      done = w.done ++ (r ∷ []);
      made =
          append_assoc w.done (r ∷ []) (filter counts left)
          ∙ ap (λ (c : Bool). w.done ++ cons_if c r (filter counts left)) (sym t)
          ∙ w.made;
      entries =
          subst (λ (xs : List E). Stand (stands book) xs (w.done ++ (r ∷ []))) (sym (take_more_set out k entry (omega (arith, w.size, free))))
          (stand_more (stands book) (take k out) w.done entry r w.entries es);
    }

  pub walk_end : {out : List E} {k : ℕ} {all : List Rule} → WalkedTo out k all → all ≡ [] → Gathered takes stands book first mask (take k out)
  unfolding filter
  walk_end {out} {k} at e =
      let w : WalkedTo out k [] = subst (WalkedTo out k) e at in
      record {
        room = omega (arith, w.room, length-take k out);
        entries = subst (Stand (stands book) (take k out)) (sym (append-nil w.done) ∙ w.made) w.entries;
      }

-- ---- what the entries say: their values are those of the rules, and each of them fits
module _ {E V : Type 0} (value : E → V) (of_rule : Rule → V) (fits : E → Type 0) where
  abbrev says : E → Rule → Type 0
  says e r = (value e ≡ of_rule r) × fits e

  pub stand_values : (es : List E) (rs : List Rule) → Stand says es rs → map value es ≡ map of_rule rs
  stand_values [] [] s = refl
  stand_values [] (r ∷ rs) s = absurd s
  stand_values (e ∷ es) [] s = absurd s
  stand_values (e ∷ es) (r ∷ rs) s = ap₂ (λ (v : V) (vs : List V). v ∷ vs) s.0.0 (stand_values es rs s.1)

  pub stand_fits : (es : List E) (rs : List Rule) → Stand says es rs → (d : E) (j : ℕ) → j < length es → fits (get_or es j d)
  stand_fits [] rs s d j h = absurd (omega arith)
  stand_fits (e ∷ es) [] s d j h = absurd s
  stand_fits (e ∷ es) (r ∷ rs) s d zero h = s.0.1
  stand_fits (e ∷ es) (r ∷ rs) s d (suc j) h = stand_fits es rs s.1 d j (omega arith)

-- ---- rows
pub rows_made : {book : List ℕ} {first mask : ℕ} {rows : List Row} → Gathered (λ r. not (is_constraint r)) RowOf book first mask rows → RowsMade book first mask rows
unfolding rows_of takes_rule
rows_made {book} {first} {mask} {rows} w =
    let fit = stand_fits (row_rule book) (λ r. r) (RowFits book) rows _ w.entries NO_ROW in
    record {
      room = w.room;
      fits = record { bounded = record { name = λ j b. (fit j b).0; layer_low = λ j b. (fit j b).1 }; part = λ j b. (fit j b).2 };
      rules = stand_values (row_rule book) (λ r. r) (RowFits book) rows _ w.entries ∙ map-id (filter (takes_rule mask) (rules_from book first));
    }

-- the row of a record, whose head has a name
pub row_here : (s : List ℕ) (at : ℕ) → RuleAt s at → (body : Span) → BodyOf s body (rule_at s at) → (name o : ℕ) → literal_named name ≡ head_at s at → name < max_names
    → RowOf s (record { body = body; head = name; layer = get_or s (at + 1) 0; overridden = o }) (rule_at s at)
unfolding rule_at
row_here s at w body b name o e h = (ap₂ (λ (l : Literal) (ls : List Literal). record { layer = get_or s (at + 1) 0; head = l; body = ls }) e b.0, (h, w.layer_low, b.1))
