-- The buyer's third condition: every granted listing has exactly one record for each stable model, rising, and two granted listings
-- are equal exactly when their books have as many facts and the same stable models. Assumes nothing.
use mathlib.Core.Path.{◌≡◌, refl, sym, ap, ap₂, subst, ◌∙◌}
use mathlib.Core.Logic.{◌⊎◌, inl, inr}
use mathlib.Core.Bool.{true, false, false≢true}
use mathlib.Core.List.Memᴰ
use mathlib.Core.List.{List, [], ◌∷◌, ◌++◌, map}
use Prim.Native.Nat.{ℕ, zero, suc, ◌+◌, ◌*◌, ◌^◌, ◌<◌, ◌≤◌}
use native.Mathlib.Nat.{pow-le-pow_right, mul-le-mul_right}
use native.Mathlib.Decide.{dec_lt}
use native.Mathlib.Omega.{arith}
use borrow.Author.Tests.{ltb-false}
use lib.Dec.{T, ltb}
use lib.ListN.{length, get_or, take, drop, length-map, length-drop}
use lib.Seq.{take_at, drop-drop, take-append-le, drop-append-le}
use Rattle.base.specs.Bounds.{max_atoms, max_branching, max_listing}
use Rattle.base.specs.Lists.{flat}
use Rattle.base.proofs.Members.{◌∈◌, filter-from, filter_into}
use Rattle.base.proofs.Rising.{Rising, filter-rising}
use Rattle.format.specs.Book.{u16_at, u32_at, atom_count}
use Rattle.insertion.specs.Runs.{bytes_before, Wide}
use Rattle.insertion.proofs.ByteOrder.{bytes_asym}
use Rattle.insertion.proofs.RunLaws.{flat_at}
use Rattle.base.proofs.EntryLaws.{entry_in}
use Rattle.models.specs.Program.{Program, program_at}
use Rattle.models.specs.StableModels.{Interpretation, stable, WellFormed}
use Rattle.models.specs.Branching.{branching_count}
use Rattle.models.specs.Listing.{interpretations, stable_models, record_size, record_of, be16, be32, listing_of, listing}
use Rattle.models.proofs.InterpretationLaws.{◌⊏◌, interpretations-rising, interpretations-length, interpretations_has}
use Rattle.models.proofs.LeastLaws.{stable_sound, stable_complete}
use Rattle.models.proofs.RecordLaws.{record_length, record_same, records-length, listing-length}
use Rattle.models.proofs.ListingLaws.{stable_models-length, listings_decide}
use Rattle.records.proofs.OrderLaws.{record_rises}
use Rattle.records.proofs.SumLaws.{field_read}
use Rattle.records.proofs.WrittenLaws.{records_fit}
use Rattle.book.specs.Causes.{Test, first_of, Verdict}
use Rattle.book.specs.declared.Cause.TheVariants.{TooManyBranching, BufferTooShort}
use Rattle.table.specs.Table.{program_of}
use Rattle.accepted.specs.Accepted.{IsAccepted}
use Rattle.accepted.specs.Driven.{layer_tests}
use Rattle.accepted.proofs.DrivenLaws.{driven}
use Rattle.accepted.proofs.FirstLaws.{accepted-none}
use Rattle.accepted.proofs.GrantedLaws.{granted}
use Rattle.accepted.proofs.RangeFacts.{atoms_are}
use Rattle.accepted.proofs.RecordFacts.{accepted-formed}
use Rattle.passes.specs.Limit.{has_too_many_branching}
use Rattle.passes.proofs.PassLaws.{models_le}
use Rattle.list_call.specs.declared.Listed.{Listed}
use Rattle.std.proofs.Common.{Ok}
use Rattle.list_call.specs.Reply.{room_tests, search_tests, list_tests, reply_of, buffer_of, list_reply, list_buffer}
use Rattle.list_call.specs.Condition3.{Call, Granted, after, facts, listed, record_at, Model, EqualExactly, Lists, ListsExactly}

-- ---- what a granted call says
record Told (c : Call) (k g : ℕ) : Type 0 where
  accepted : IsAccepted c.book
  count : k ≡ length (stable_models (program_of c.book c.layer c.off))
  branch : g ≡ branching_count (program_of c.book c.layer c.off)
  few : g ≤ max_branching
  room : length (listing (program_of c.book c.layer c.off)) ≤ length c.buffer
  bytes : after c ≡ listing (program_of c.book c.layer c.off) ++ drop (length (listing (program_of c.book c.layer c.off))) c.buffer

-- none of the tests of a granted call applies
passed : (c : Call) → first_of (list_tests c.book c.layer c.off (length c.buffer)) ≡ Ok tt → (t : Test)
    → t ∈ (layer_tests c.book c.layer c.off ++ search_tests (program_of c.book c.layer c.off) (length c.buffer)) → t.applies ≡ false
unfolding list_tests
passed c q = (accepted-none (layer_tests c.book c.layer c.off ++ search_tests (program_of c.book c.layer c.off) (length c.buffer))).0 q

passed_layer : (c : Call) → first_of (list_tests c.book c.layer c.off (length c.buffer)) ≡ Ok tt → IsAccepted c.book
passed_layer c q =
    (driven c.book c.layer c.off
    ((accepted-none (layer_tests c.book c.layer c.off)).1 (λ t k. passed c q t (Memᴰ.append_left (search_tests (program_of c.book c.layer c.off) (length c.buffer)) k)))).0

passed_branching : (c : Call) → first_of (list_tests c.book c.layer c.off (length c.buffer)) ≡ Ok tt → branching_count (program_of c.book c.layer c.off) ≤ max_branching
unfolding search_tests has_too_many_branching
passed_branching c q =
    ltb-false max_branching (branching_count (program_of c.book c.layer c.off))
    (passed c q (record { cause = TooManyBranching; applies = has_too_many_branching (program_of c.book c.layer c.off) }) (Memᴰ.append_right (layer_tests c.book c.layer c.off) (Memᴰ.head refl)))

passed_room : (c : Call) → first_of (list_tests c.book c.layer c.off (length c.buffer)) ≡ Ok tt → length (listing (program_of c.book c.layer c.off)) ≤ length c.buffer
unfolding search_tests room_tests
passed_room c q =
    ltb-false (length c.buffer) (length (listing (program_of c.book c.layer c.off)))
    (passed c q (record { cause = BufferTooShort; applies = ltb (length c.buffer) (length (listing (program_of c.book c.layer c.off))) })
    (Memᴰ.append_right (layer_tests c.book c.layer c.off) (Memᴰ.tail (Memᴰ.head refl))))

told : (c : Call) (k g : ℕ) → Granted c k g → Told c k g
unfolding list_reply list_buffer reply_of buffer_of
told c k g e =
    let w = granted (first_of (list_tests c.book c.layer c.off (length c.buffer))) e in
    let b : g ≡ branching_count (program_of c.book c.layer c.off) = ap (λ (x : Listed). x.branching) (sym w.1) in
    record {
      accepted = passed_layer c w.0;
      count = ap (λ (x : Listed). x.states) (sym w.1);
      branch = b;
      few = subst (λ (x : ℕ). x ≤ max_branching) (sym b) (passed_branching c w.0);
      room = passed_room c w.0;
      bytes = ap (λ (v : Verdict). buffer_of v (program_of c.book c.layer c.off) c.buffer) w.0;
    }

-- ---- records by their place
index_of : (l : List Interpretation) (m : Interpretation) → m ∈ l → (i : ℕ) × (i < length l) × (get_or l i [] ≡ m)
index_of [] m k = absurd (Memᴰ.not-nil k)
index_of (x ∷ l) m k = go (λ j. index_of l m j) (Memᴰ.cases_cons k)
  where
    go : (m ∈ l → (i : ℕ) × (i < length l) × (get_or l i [] ≡ m)) → (m ≡ x) ⊎ m ∈ l → (i : ℕ) × (i < suc (length l)) × (get_or (x ∷ l) i [] ≡ m)
    go r (inl e) = (0, omega arith, sym e)
    go r (inr j) = let q = r j in (suc q.0, omega (arith, q.1), q.2)

rising_at : (ms : List Interpretation) → Rising ◌⊏◌ ms → (i j : ℕ) → i < j → j < length ms → get_or ms i [] ⊏ get_or ms j []
rising_at [] r i j h b = absurd (omega arith)
rising_at (m ∷ ms) r zero zero h b = absurd (omega arith)
rising_at (m ∷ ms) r zero (suc j) h b = r.0 (get_or ms j []) (entry_in ms j [] (omega arith))
rising_at (m ∷ ms) r (suc i) zero h b = absurd (omega arith)
rising_at (m ∷ ms) r (suc i) (suc j) h b = rising_at ms r.1 i j (omega arith) (omega arith)

record_place : (n : ℕ) (ms : List Interpretation) (rest : List ℕ) (i : ℕ) → i < length ms
    → take (record_size n) (drop (11 + i * record_size n) (listing_of n ms ++ rest)) ≡ record_of n (get_or ms i [])
unfolding listing_of be16 be32
record_place n ms rest i h =
    let w : ℕ = record_size n in
    let rs : List (List ℕ) = map (record_of n) ms in
    let wide : Wide (record_size n) (map (record_of n) ms) = λ r k. sized r (Memᴰ.of_map (record_of n) ms k) in
    let l : length (flat (map (record_of n) ms)) ≡ length ms * record_size n = records-length n ms in
    let s : suc i * record_size n ≤ length ms * record_size n = mul-le-mul_right (record_size n) h in
    let e : suc i * record_size n ≡ record_size n + i * record_size n = omega arith in
    let d : drop (i * record_size n) (flat (map (record_of n) ms) ++ rest) ≡ drop (i * record_size n) (flat (map (record_of n) ms)) ++ rest = drop-append-le (i * record_size n) (flat (map (record_of n) ms)) rest (omega arith) in
    ap (take (record_size n)) (behind i ∙ d)
    ∙ take-append-le (record_size n) (drop (i * record_size n) (flat (map (record_of n) ms))) rest (simp length-drop (omega arith))
    ∙ flat_at (record_size n) (map (record_of n) ms) wide i (omega (arith, length-map ms (record_of n)))
    ∙ at i ms h
  where
    sized : (r : List ℕ) → (m : Interpretation) × m ∈ ms × (record_of n m ≡ r) → length r ≡ record_size n
    sized r v = sym (ap length v.2) ∙ record_length n v.0

    behind : (i : ℕ) → drop (11 + i * record_size n) (listing_of n ms ++ rest) ≡ drop (i * record_size n) (flat (map (record_of n) ms) ++ rest)
    behind i = sym (drop-drop (i * record_size n) 11 (listing_of n ms ++ rest))

    at : (i : ℕ) (xs : List Interpretation) → i < length xs → get_or (map (record_of n) xs) i [] ≡ record_of n (get_or xs i [])
    at i [] h = absurd (omega arith)
    at zero (x ∷ xs) h = refl
    at (suc i) (x ∷ xs) h = at i xs (omega arith)

-- ---- one granted call
module _ (c : Call) (k g : ℕ) (w : Told c k g) where
  abbrev P : Program
  P = program_of c.book c.layer c.off

  formed : WellFormed P
  formed = accepted-formed c.book w.accepted c.layer c.off

  atoms-facts : P.atoms ≡ facts c
  unfolding program_at
  atoms-facts = refl

  ranges : (0 < facts c) × (facts c ≤ max_atoms)
  ranges =
      let r = atoms_are c.book w.accepted (atom_count c.book) refl in
      (subst (λ (n : ℕ). 0 < n) r.0 r.1, subst (λ (n : ℕ). n ≤ max_atoms) r.0 r.2)

  atoms_few : P.atoms ≤ max_atoms
  atoms_few = subst (λ (n : ℕ). n ≤ max_atoms) (sym atoms-facts) ranges.1

  k_le : k ≤ 2 ^ g
  k_le = omega (arith, w.count, models_le P formed atoms_few, ap (λ (x : ℕ). 2 ^ x) w.branch)

  k_small : k ≤ 1048576
  k_small = omega (arith, k_le, pow-le-pow_right {n = 2} (omega arith) w.few)

  -- a member of the list is a stable model, and every stable model is a member
  model_of : (m : Interpretation) → m ∈ stable_models P → Model c m
  unfolding stable_models
  model_of m j =
      let v : m ∈ interpretations P.atoms × T (stable P m) = filter-from (stable P) (interpretations P.atoms) j in
      stable_sound P m (interpretations-length P.atoms m v.0) v.1

  member_of : (m : Interpretation) → Model c m → m ∈ stable_models P
  unfolding stable_models
  member_of m x = filter_into (stable P) (interpretations_has P.atoms m x.size) (stable_complete P m x)

  models_rise : Rising ◌⊏◌ (stable_models P)
  unfolding stable_models
  models_rise = filter-rising ◌⊏◌ (stable P) (interpretations P.atoms) (interpretations-rising P.atoms)

  -- record i is that of model i
  at : (i : ℕ) → i < k → record_at c i ≡ record_of (facts c) (get_or (stable_models P) i [])
  unfolding listing
  at i h =
      ap (λ (b : List ℕ). take (record_size (facts c)) (drop (11 + i * record_size (facts c)) b)) w.bytes
      ∙ subst (λ (n : ℕ). take (record_size n) (drop (11 + i * record_size n) (listing_of P.atoms (stable_models P) ++ drop (length (listing_of P.atoms (stable_models P))) c.buffer)) ≡ record_of n (get_or (stable_models P) i []))
      atoms-facts (record_place P.atoms (stable_models P) (drop (length (listing_of P.atoms (stable_models P))) c.buffer) i (omega (arith, w.count)))

  model_size : (i : ℕ) → i < k → length (get_or (stable_models P) i []) ≡ facts c
  model_size i h = stable_models-length P (get_or (stable_models P) i []) (entry_in (stable_models P) i [] (omega (arith, w.count))) ∙ atoms-facts

  rises : (i j : ℕ) → i < j → j < k → bytes_before (record_at c i) (record_at c j) ≡ true
  rises i j h b =
      ap₂ bytes_before (at i (omega arith)) (at j b)
      ∙ record_rises (facts c) (get_or (stable_models P) i []) (get_or (stable_models P) j []) (model_size i (omega arith)) (model_size j b) (rising_at (stable_models P) models_rise i j h (omega (arith, w.count)))

  apart : (i j : ℕ) → i < j → j < k → record_at c i ≡ record_at c j → ⊥
  apart i j h b e =
      let t : bytes_before (record_at c j) (record_at c j) ≡ true = subst (λ (r : List ℕ). bytes_before r (record_at c j) ≡ true) e (rises i j h b) in
      false≢true (sym (bytes_asym (record_at c j) (record_at c j) t) ∙ t)

  same_place : (i j : ℕ) → i < k → j < k → record_at c i ≡ record_at c j → i ≡ j
  same_place i j h b e = go (dec_lt i j) (dec_lt j i)
    where
      go : Dec (i < j) → Dec (j < i) → i ≡ j
      go (yes q) d = absurd (apart i j q b e)
      go (no q) (yes r) = absurd (apart j i r h (sym e))
      go (no q) (no r) = omega arith

  count_in_head : u32_at (after c) 7 ≡ k
  unfolding u32_at listing listing_of be16 be32
  count_in_head = ap (λ (b : List ℕ). u32_at b 7) w.bytes ∙ field_read (length (stable_models P)) (omega (arith, k_small, w.count)) ∙ sym w.count

  version_in_head : get_or (after c) 0 0 ≡ 1
  unfolding listing listing_of
  version_in_head = ap (λ (b : List ℕ). get_or b 0 0) w.bytes

  size_is : 11 + length (stable_models P) * record_size P.atoms ≡ 11 + k * record_size (facts c)
  size_is = ap₂ (λ (x n : ℕ). 11 + x * record_size n) (sym w.count) atoms-facts

  size_fits : 11 + k * record_size (facts c) ≤ max_listing
  size_fits = omega (arith, records_fit (facts c) k (record_size (facts c)) ranges.1 k_small refl)

  length_in_head : u32_at (after c) 1 ≡ 11 + k * record_size (facts c)
  unfolding u32_at listing listing_of be16 be32
  length_in_head = ap (λ (b : List ℕ). u32_at b 1) w.bytes ∙ field_read (11 + length (stable_models P) * record_size P.atoms) (omega (arith, size_is, size_fits)) ∙ size_is

  facts_in_head : u16_at (after c) 5 ≡ facts c
  unfolding u16_at listing listing_of be16 be32
  facts_in_head = ap (λ (b : List ℕ). u16_at b 5) w.bytes ∙ omega (arith, ranges.1, atoms-facts)

  records-differ : (m o : Interpretation) → Model c m → Model c o → record_of (facts c) m ≡ record_of (facts c) o → m ≡ o
  records-differ m o x y e = record_same (facts c) m o (x.size ∙ atoms-facts) (y.size ∙ atoms-facts) e

  lists : Lists c k g
  lists = record {
    no_other = λ i h.
        let m : Interpretation = get_or (stable_models P) i [] in
        (m, model_of m (entry_in (stable_models P) i [] (omega (arith, w.count))), at i h);
    every = λ m x.
        let q = index_of (stable_models P) m (member_of m x) in
        let h : q.0 < k = omega (arith, q.1, w.count) in
        (q.0, h, at q.0 h ∙ ap (record_of (facts c)) q.2);
    once = same_place;
    distinct = records-differ;
    rising = rises;
    head_count = count_in_head;
    head_version = version_in_head;
    head_length = length_in_head;
    head_facts = facts_in_head;
    bounded = k_le;
    branching_is = w.branch;
  }

  listed_is : listed c k ≡ listing P
  unfolding listing
  listed_is =
      ap (take (11 + k * record_size (facts c))) w.bytes
      ∙ take_at (listing_of P.atoms (stable_models P)) (drop (length (listing_of P.atoms (stable_models P))) c.buffer) (11 + k * record_size (facts c))
      (listing-length P.atoms (stable_models P) ∙ size_is)

-- Conditions (ii) to (v): a granted listing has exactly one record for every stable model.
pub lists-exactly : ListsExactly
lists-exactly c k g e = lists c k g (told c k g e)

-- Condition (i): two granted listings are equal exactly when n and the sets of stable models are.
pub equal-exactly : EqualExactly
unfolding program_at
equal-exactly c d k g j h a b =
    let v : Told c k g = told c k g a in
    let w : Told d j h = told d j h b in
    let both = listings_decide (program_of c.book c.layer c.off) (program_of d.book d.layer d.off) (ranges c k g v).0 (ranges c k g v).1 (ranges d j h w).1 in
    (λ e. both.0 (sym (listed_is c k g v) ∙ e ∙ listed_is d j h w), λ x. listed_is c k g v ∙ both.1 x ∙ sym (listed_is d j h w))

-- the numbers of a granted answer are small
pub granted-small : (c : Call) (k g : ℕ) → Granted c k g → (k ≤ 1048576) × (g ≤ max_branching)
granted-small c k g e = let w : Told c k g = told c k g e in (k_small c k g w, w.few)

-- record i of a granted listing is that of model i
pub record_listed : (c : Call) (k g : ℕ) → Granted c k g → (i : ℕ) → i < length (stable_models (program_of c.book c.layer c.off)) → record_at c i ≡ record_of (facts c) (get_or (stable_models (program_of c.book c.layer c.off)) i [])
record_listed c k g e i h = let w : Told c k g = told c k g e in at c k g w i (omega (arith, w.count))
