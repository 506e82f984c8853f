-- A group of settings is left out: the test by masks, why no model of the group comes before the one in hand, and that the one in hand is
-- then the first of both. Used by comes_first and search_first. Assumes nothing.
use mathlib.Core.Path.{◌≡◌, refl, sym, ap, subst, ◌∙◌}
use mathlib.Core.Logic.{◌⊎◌, inl, inr}
use mathlib.Core.Bool.{Bool, true, false, not, false≢true}
use mathlib.Core.List.Memᴰ
use mathlib.Core.List.{List, [], ◌∷◌}
use Prim.Native.Nat.{ℕ, zero, suc, ◌-◌, ◌<◌, ◌≤◌}
use native.Mathlib.Decide.{dec_lt}
use native.Mathlib.Omega.{arith}
use lib.Bits.{bit_and, bit_xor}
use borrow.Author.Tests.{eqb-false, not-true}
use lib.Dec.{T, eqb}
use lib.ListN.{length, get_or, take}
use Rattle.base.proofs.Members.{◌∈◌}
use Rattle.layers.specs.Masks.{bit_of}
use Rattle.layers.proofs.BitLaws.{without, and_first, and_second, and_both, some-bit, zero_bit}
use Rattle.insertion.specs.Sorted.{insert_past, insert_by, insert_all}
use Rattle.insertion.proofs.ByteOrder.{before_by_first, before_by_rest}
use Rattle.models.specs.Program.{Program}
use Rattle.models.specs.StableModels.{Interpretation, atom_holds, StableModel}
use Rattle.models.specs.Branching.{branching_atoms}
use Rattle.models.specs.Listing.{record_of}
use Rattle.models.proofs.InterpretationLaws.{◌⊏◌}
use Rattle.records.proofs.OrderLaws.{record_rises}
use Rattle.base.proofs.EntryLaws.{entry_in}
use Rattle.bans.specs.Bans.{barred}
use Rattle.leaf.specs.Found.{at_setting, found_by}
use Rattle.leaf.specs.Searchable.{Searchable}
use Rattle.leaf.proofs.FoundLaws.{found_decided}
use Rattle.search.specs.Decided.{DecidedAt, Decided}
use Rattle.search.proofs.AllowedLaws.{barred-formed, barred-listed, barred-size}
use Rattle.std.specs.Prelude.{Option, Some, None, MatchOption}
use Rattle.first.specs.declared.Held.{Held}
use Rattle.first.specs.InHand.{far, closer, first_among, Sure, Known, Outlined, InHand, Takes, Apart, SameBefore, Later, at_a_fact, at_the_end, Behind, farther, as_far}
use Rattle.first.proofs.LowestLaws.{Lowest, lowest, xor_same, xor_first}
use Rattle.first.proofs.InHandLaws.{insert_all_first}
use Rattle.table.specs.declared.Row.{Row}
use Rattle.table.specs.declared.Span.{Span}

-- ---- the test by masks
pub not-zero : (x : ℕ) → not (eqb x 0) ≡ true → x ≡ 0 → ⊥
not-zero x e = eqb-false x 0 (not-true (eqb x 0) e)

module _ (held : Held) (standing d : ℕ) (is : d ≡ bit_and (bit_xor standing held.standing) held.ahead) where
  bits_are : (j : ℕ) → bit_of d j ≡ 1 → bit_of (bit_and (bit_xor standing held.standing) held.ahead) j ≡ 1
  bits_are j e = subst (λ (x : ℕ). bit_of x j ≡ 1) is e

  same_at : (j : ℕ) → (bit_of d j ≡ 1 → ⊥) → bit_of held.ahead j ≡ 1 → bit_of standing j ≡ bit_of held.standing j
  same_at j z a = xor_same standing held.standing j (λ x. z (subst (λ (y : ℕ). bit_of y j ≡ 1) (sym is) (and_both (bit_xor standing held.standing) held.ahead j x a)))

  pub later_at_the_end : d ≡ 0 → held.alone ≡ true → Later held standing
  later_at_the_end z y = at_the_end y (λ k j h a. same_at j (λ e. zero_bit d j z e) a)

  pub later_at_a_fact : (d ≡ 0 → ⊥) → (bit_and (bit_xor d (bit_and d (d - 1))) standing ≡ 0 → ⊥) → Later held standing
  later_at_a_fact some first = at_a_fact (record {
    place = l.place;
    ahead = and_second (bit_xor standing held.standing) held.ahead l.place (bits_are l.place l.is_set);
    stands = stands;
    not_held = xor_first standing held.standing l.place (and_first (bit_xor standing held.standing) held.ahead l.place (bits_are l.place l.is_set)) stands;
    same = λ j h a. same_at j (λ e. omega (arith, e, l.under j h)) a;
  })
    where
      l : Lowest d
      l = lowest d (omega arith)

      stands : bit_of standing l.place ≡ 1
      stands =
          let v : (i : ℕ) × (bit_of (bit_and (bit_xor d (bit_and d (d - 1))) standing) i ≡ 1) = some-bit (suc (bit_and (bit_xor d (bit_and d (d - 1))) standing)) (bit_and (bit_xor d (bit_and d (d - 1))) standing) (omega arith) (omega arith) in
          let e : v.0 ≡ l.place = l.only v.0 (sym (without d (d - 1) v.0) ∙ and_first (bit_xor d (bit_and d (d - 1))) standing v.0 v.1) in
          subst (λ (k : ℕ). bit_of standing k ≡ 1) e (and_second (bit_xor d (bit_and d (d - 1))) standing v.0 v.1)

-- ---- the first fact at which two states differ
record FirstFact (k m : Interpretation) : Type 0 where
  fact : ℕ
  not_first : T (atom_holds k fact) → ⊥
  second : T (atom_holds m fact)
  same : (f : ℕ) → f < fact → atom_holds k f ≡ atom_holds m f

under_first : (a : Bool) (k m : Interpretation) → FirstFact k m → FirstFact (a ∷ k) (a ∷ m)
unfolding atom_holds
under_first a k m d = record { fact = suc d.fact; not_first = d.not_first; second = d.second; same = same }
  where
    same : (f : ℕ) → f < suc d.fact → atom_holds (a ∷ k) f ≡ atom_holds (a ∷ m) f
    same zero h = refl
    same (suc f) h = d.same f (omega arith)

first_fact : (k m : Interpretation) → k ⊏ m → FirstFact k m
unfolding atom_holds
first_fact [] m p = absurd p
first_fact (a ∷ k) [] p = absurd p
first_fact (false ∷ k) (false ∷ m) p = under_first false k m (first_fact k m p)
first_fact (true ∷ k) (true ∷ m) p = under_first true k m (first_fact k m p)
first_fact (false ∷ k) (true ∷ m) p = record { fact = 0; not_first = λ t. t; second = tt; same = λ f h. absurd (omega arith) }
first_fact (true ∷ k) (false ∷ m) p = absurd p

-- ---- no model of the group comes before the one in hand
module _ {atoms : List ℕ} {sure : List Bool} {b : Interpretation} {held : Held} (out : Outlined atoms sure b held) (standing : ℕ) (m : Interpretation)
    (has : (i : ℕ) → bit_of standing i ≡ 1 → T (atom_holds m (get_or atoms i 0))) (surely : (f : ℕ) → T (atom_holds sure f) → T (atom_holds m f)) where
  -- what is known of the one in hand stands in the model too
  known-stands : (k f : ℕ) → k ≤ length atoms → SameBefore held standing k → T (atom_holds b f) → Known atoms sure held.ahead k f → T (atom_holds m f)
  known-stands k f h same t (inl a) =
      let e : T (atom_holds b (get_or atoms a.place 0)) = subst (λ (x : ℕ). T (atom_holds b x)) (sym a.atom_is) t in
      let s : bit_of standing a.place ≡ 1 = same a.place a.before a.bit ∙ out.standing_has a.place (omega (arith, a.before)) e in
      subst (λ (x : ℕ). T (atom_holds m x)) a.atom_is (has a.place s)
  known-stands k f h same t (inr s) = surely f s

  never-before : Later held standing → m ⊏ b → ⊥
  never-before later p = go later (first_fact m b p)
    where
      go : Later held standing → FirstFact m b → ⊥
      go (at_the_end y same) d = d.not_first (known-stands (length atoms) d.fact (omega arith) (same (length atoms)) d.second (out.alone_in y d.fact d.second))
      go (at_a_fact l) d = place (dec_lt d.fact (get_or atoms l.place 0)) (dec_lt (get_or atoms l.place 0) d.fact)
        where
          ahead : (l.place < length atoms) × ((f : ℕ) → f < get_or atoms l.place 0 → T (atom_holds b f) → Known atoms sure held.ahead l.place f)
          ahead = out.ahead_in l.place l.ahead

          place : Dec (d.fact < get_or atoms l.place 0) → Dec (get_or atoms l.place 0 < d.fact) → ⊥
          place (yes h) _ = d.not_first (known-stands l.place d.fact (omega (arith, ahead.0)) l.same d.second (ahead.1 d.fact h d.second))
          place (no _) (yes h) =
              let t : T (atom_holds b (get_or atoms l.place 0)) = subst T (d.same (get_or atoms l.place 0) h) (has l.place l.stands) in
              let e : bit_of held.standing l.place ≡ 1 = out.standing_has l.place ahead.0 t in
              omega (arith, e, l.not_held)
          place (no g) (no h) =
              let e : get_or atoms l.place 0 ≡ d.fact = omega arith in
              d.not_first (subst (λ (x : ℕ). T (atom_holds m x)) e (has l.place l.stands))

-- ---- so the one in hand is the first
in_order : (k m : Interpretation) → length k ≡ length m → (k ⊏ m) ⊎ ((k ≡ m) ⊎ (m ⊏ k))
in_order [] [] e = inr (inl refl)
in_order [] (b ∷ m) e = absurd (omega arith)
in_order (a ∷ k) [] e = absurd (omega arith)
in_order (false ∷ k) (true ∷ m) e = inl tt
in_order (true ∷ k) (false ∷ m) e = inr (inr tt)
in_order (true ∷ k) (true ∷ m) e = go (in_order k m (omega arith))
  where
    go : (k ⊏ m) ⊎ ((k ≡ m) ⊎ (m ⊏ k)) → (k ⊏ m) ⊎ ((true ∷ k ≡ true ∷ m) ⊎ (m ⊏ k))
    go (inl p) = inl p
    go (inr (inl p)) = inr (inl (ap (λ (l : Interpretation). true ∷ l) p))
    go (inr (inr p)) = inr (inr p)
in_order (false ∷ k) (false ∷ m) e = go (in_order k m (omega arith))
  where
    go : (k ⊏ m) ⊎ ((k ≡ m) ⊎ (m ⊏ k)) → (k ⊏ m) ⊎ ((false ∷ k ≡ false ∷ m) ⊎ (m ⊏ k))
    go (inl p) = inl p
    go (inr (inl p)) = inr (inl (ap (λ (l : Interpretation). false ∷ l) p))
    go (inr (inr p)) = inr (inr p)

-- the one in hand comes first, or is the same
abbrev NotAfter : Interpretation → ℕ → Interpretation → Interpretation → Type 0
NotAfter wanted n b m = (closer wanted n b m ≡ true) ⊎ (b ≡ m)

module _ (wanted : Interpretation) (n : ℕ) (b : Interpretation) where
  -- inserted in front of it or behind it, a model that does not come before it leaves it the first
  stays_first : (m : Interpretation) → NotAfter wanted n b m → take 1 (insert_by (closer wanted n) m (b ∷ [])) ≡ b ∷ []
  unfolding insert_by insert_past
  stays_first m (inl e) = ap (λ (c : Bool). take 1 (insert_past c m b (m ∷ []) [])) e
  stays_first m (inr e) = go (closer wanted n b m)
    where
      go : (c : Bool) → take 1 (insert_past c m b (m ∷ []) []) ≡ b ∷ []
      go true = refl
      go false = ap (λ (x : Interpretation). x ∷ []) (sym e)

  none_first : (ms : List Interpretation) → ((m : Interpretation) → m ∈ ms → NotAfter wanted n b m) → first_among wanted n ms (b ∷ []) ≡ b ∷ []
  unfolding first_among insert_all
  none_first [] f = refl
  none_first (m ∷ ms) f =
      insert_all_first (closer wanted n) ms (insert_by (closer wanted n) m (b ∷ [])) (b ∷ []) (stays_first m (f m (Memᴰ.head refl))) ∙ none_first ms (λ x k. f x (Memᴰ.tail k))

  module _ (size : length b ≡ n) (m : Interpretation) (size' : length m ≡ n) where
    closer_by_distance : far wanted b < far wanted m → closer wanted n b m ≡ true
    closer_by_distance h = before_by_first (far wanted b) (far wanted m) (record_of n b) (record_of n m) h

    -- as close, and not later
    not-later : far wanted b ≤ far wanted m → (m ⊏ b → ⊥) → NotAfter wanted n b m
    not-later h f = go (dec_lt (far wanted b) (far wanted m)) (in_order b m (size ∙ sym size'))
      where
        go : Dec (far wanted b < far wanted m) → (b ⊏ m) ⊎ ((b ≡ m) ⊎ (m ⊏ b)) → NotAfter wanted n b m
        go (yes l) o = inl (closer_by_distance l)
        go (no l) (inl p) = inl (before_by_rest (far wanted b) (far wanted m) (record_of n b) (record_of n m) (omega arith) ∙ record_rises n b m size size' p)
        go (no l) (inr (inl e)) = inr e
        go (no l) (inr (inr p)) = absurd (f p)

-- ---- the models of a group
module _ {book : List ℕ} {rows : List Row} {atoms : List ℕ} {n : ℕ} (w : Searchable book rows atoms n) (bans : List Span) {undecided : List ℕ} (o : Interpretation) {standing denied : ℕ} (s : Decided atoms undecided o standing denied) where
  abbrev B : Program
  B = barred book rows bans n

  abbrev group : List Interpretation
  group = found_by (at_setting B atoms) undecided o

  decided_model : (m : Interpretation) → m ∈ group → StableModel B m × ((f : ℕ) → f ∈ branching_atoms B → (f ∈ undecided → ⊥) → atom_holds m f ≡ atom_holds o f)
  decided_model m k = found_decided B (barred-formed w bans) undecided o m (subst (λ (l : List ℕ). m ∈ found_by (at_setting B l) undecided o) (barred-listed w bans) k)

  -- what is decided is so in each
  decided_at : (m : Interpretation) → m ∈ group → (i : ℕ) → DecidedAt atoms undecided i → atom_holds m (get_or atoms i 0) ≡ atom_holds o (get_or atoms i 0)
  decided_at m k i d = (decided_model m k).1 (get_or atoms i 0) (subst (λ (l : List ℕ). get_or atoms i 0 ∈ l) (barred-listed w bans) (entry_in atoms i 0 d.0)) d.1

  pub group_has : (m : Interpretation) → m ∈ group → (i : ℕ) → bit_of standing i ≡ 1 → T (atom_holds m (get_or atoms i 0))
  group_has m k i e = let d = s.standing_in i e in subst T (sym (decided_at m k i d.0)) d.1

  pub group_lacks : (m : Interpretation) → m ∈ group → (i : ℕ) → bit_of denied i ≡ 1 → T (not (atom_holds m (get_or atoms i 0)))
  group_lacks m k i e = let d = s.denied_in i e in subst (λ (b : Bool). T (not b)) (sym (decided_at m k i d.0)) d.1

  -- the group is left out
  module _ {sure : List Bool} (certain : Sure B sure) (wanted : Interpretation) {left apart : ℕ} (away : Apart wanted undecided group left apart) where
    not_after : {b : Interpretation} {held : Held} → (length b ≡ n) × (held.distance ≡ far wanted b) × Outlined atoms sure b held → Behind held standing apart → (m : Interpretation) → m ∈ group → NotAfter wanted n b m
    not_after {b} {held} v behind m k = go behind
      where
        size' : length m ≡ n
        size' = (decided_model m k).0.size ∙ sym (barred-size w bans)

        at_least : apart ≤ far wanted m
        at_least = omega (arith, away.at_least m k)

        go : Behind held standing apart → NotAfter wanted n b m
        go (farther h) = inl (closer_by_distance wanted n b v.0 m size' (omega (arith, v.1, at_least)))
        go (as_far h later) = not-later wanted n b v.0 m size' (omega (arith, v.1, at_least)) (never-before v.2 standing m (group_has m k) (certain.stands m (decided_model m k).0) later)

    skips : (held : Held) → Behind held standing apart → (part : List ℕ) → Takes atoms sure wanted n group (Some held) part (Some held) part
    skips held behind part old hand h = go hand h
      where
        go : (hand : List Interpretation) → InHand atoms sure wanted n old hand (Some held) part → InHand atoms sure wanted n old (first_among wanted n group hand) (Some held) part
        go [] h = absurd h.held_is
        go (b ∷ []) h =
            subst (λ (l : List Interpretation). InHand atoms sure wanted n old l (Some held) part) (sym (none_first wanted n b group (not_after h.held_is behind))) h
        go (b ∷ c ∷ hand) h = absurd (omega (arith, h.few))

    pub takes_skipped : (held : Option Held) (r : Bool) → MatchOption held (r ≡ false) (λ kept. r ≡ true → Behind kept standing apart) → r ≡ true → (part : List ℕ) → Takes atoms sure wanted n group held part held part
    takes_skipped None r told e part = absurd (false≢true (sym told ∙ e))
    takes_skipped (Some kept) r told e part = skips kept (told e) part
