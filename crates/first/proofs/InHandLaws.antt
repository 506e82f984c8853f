-- What is in hand from model to model: one that comes later leaves it, one that does not takes its place, and two runs of models are one.
-- Assumes nothing.
use mathlib.Core.Path.{◌≡◌, refl, sym, ap, ap₂, subst, ◌∙◌}
use mathlib.Core.Bool.{Bool, true, false}
use mathlib.Core.List.{List, [], ◌∷◌, ◌++◌, append-nil}
use Prim.Native.Nat.{ℕ, ◌+◌, ◌≤◌}
use native.Mathlib.Omega.{arith}
use lib.ListN.{length, take, drop, drop_of_length-le}
use lib.Seq.{take_all}
use Rattle.insertion.specs.Sorted.{insert_past, insert_by, insert_all}
use Rattle.insertion.specs.Runs.{bytes_before}
use Rattle.insertion.proofs.SortedLaws.{insert_all-append}
use Rattle.models.specs.StableModels.{Interpretation}
use Rattle.models.specs.Listing.{record_size, record_of}
use Rattle.std.specs.Prelude.{Option, Some, None}
use Rattle.first.specs.declared.Held.{Held}
use Rattle.first.specs.InHand.{far, closer, first_among, record_held, Outlined, InHand, Takes}

-- ---- the first of an insertion goes by the first alone
module _ {A : Type 0} (less : A → A → Bool) where
  past_first : (c : Bool) (x y : A) (rest rest' ys ys' : List A) → take 1 (insert_past c x y rest ys) ≡ take 1 (insert_past c x y rest' ys')
  unfolding insert_past
  past_first true x y rest rest' ys ys' = refl
  past_first false x y rest rest' ys ys' = refl

  insert_first : (x : A) (l k : List A) → take 1 l ≡ take 1 k → take 1 (insert_by less x l) ≡ take 1 (insert_by less x k)
  unfolding insert_by
  insert_first x [] [] e = refl
  insert_first x [] (z ∷ k) e = absurd (let q : 0 ≡ 1 = ap length e in omega (arith, q))
  insert_first x (y ∷ l) [] e = absurd (let q : 1 ≡ 0 = ap length e in omega (arith, q))
  insert_first x (y ∷ l) (z ∷ k) e =
      past_first (less y x) x y (insert_by less x l) (insert_by less x k) l k
      ∙ ap (λ (w : A). take 1 (insert_past (less w x) x w (insert_by less x k) k)) (head_same y z e)
    where
      head_same : (a b : A) → a ∷ [] ≡ b ∷ [] → a ≡ b
      head_same a b q = cc

  pub insert_all_first : (xs l k : List A) → take 1 l ≡ take 1 k → take 1 (insert_all less xs l) ≡ take 1 (insert_all less xs k)
  unfolding insert_all
  insert_all_first [] l k e = e
  insert_all_first (x ∷ xs) l k e = insert_all_first xs (insert_by less x l) (insert_by less x k) (insert_first x l k e)

pub first_few : {A : Type 0} (l : List A) → length (take 1 l) ≤ 1
first_few [] = omega arith
first_few (x ∷ l) = omega arith

first_whole : {A : Type 0} (l : List A) → length l ≤ 1 → take 1 l ≡ l
first_whole l h = take_all 1 l h

-- ---- what was in hand, with no model, with two runs of models
among_none : (wanted : Interpretation) (n : ℕ) (hand : List Interpretation) → length hand ≤ 1 → first_among wanted n [] hand ≡ hand
unfolding first_among insert_all
among_none wanted n hand h = first_whole hand h

among-append : (wanted : Interpretation) (n : ℕ) (xs ys hand : List Interpretation) → first_among wanted n ys (first_among wanted n xs hand) ≡ first_among wanted n (xs ++ ys) hand
unfolding first_among
among-append wanted n xs ys hand =
    insert_all_first (closer wanted n) ys (take 1 (insert_all (closer wanted n) xs hand)) (insert_all (closer wanted n) xs hand) (first_whole (take 1 (insert_all (closer wanted n) xs hand)) (first_few (insert_all (closer wanted n) xs hand)))
    ∙ sym (ap (take 1) (insert_all-append (closer wanted n) xs ys hand))

module _ (atoms : List ℕ) (sure : List Bool) (wanted : Interpretation) (n : ℕ) where
  pub takes_none : (ms : List Interpretation) → ms ≡ [] → (held : Option Held) (part : List ℕ) → Takes atoms sure wanted n ms held part held part
  takes_none ms e held part old hand h =
      subst (λ (l : List Interpretation). InHand atoms sure wanted n old l held part) (sym (among_none wanted n hand h.few) ∙ ap (λ (l : List Interpretation). first_among wanted n l hand) (sym e)) h

  pub takes_both : (ms xs ys : List Interpretation) → ms ≡ xs ++ ys → {held held₁ held₂ : Option Held} {part part₁ part₂ : List ℕ}
      → Takes atoms sure wanted n xs held part held₁ part₁ → Takes atoms sure wanted n ys held₁ part₁ held₂ part₂ → Takes atoms sure wanted n ms held part held₂ part₂
  takes_both ms xs ys e {held₂ = held₂} {part₂ = part₂} a b old hand h =
      subst (λ (l : List Interpretation). InHand atoms sure wanted n old l held₂ part₂) (among-append wanted n xs ys hand ∙ ap (λ (l : List Interpretation). first_among wanted n l hand) (sym e))
      (b old (first_among wanted n xs hand) (a old hand h))

  pub takes_same : (ms ns : List Interpretation) → ms ≡ ns → {held held' : Option Held} {part part' : List ℕ} → Takes atoms sure wanted n ns held part held' part' → Takes atoms sure wanted n ms held part held' part'
  takes_same ms ns e {held} {held'} {part} {part'} a = subst (λ (l : List Interpretation). Takes atoms sure wanted n l held part held' part') (sym e) a

-- ---- one model
-- its record, written over the whole part
pub record_put : (n : ℕ) (m : Interpretation) (old new : List ℕ) → length old ≡ record_size n → new ≡ take 0 old ++ (record_of n m ++ drop (0 + record_size n) old) → new ≡ record_of n m
record_put n m old new size is = is ∙ ap (λ (l : List ℕ). record_of n m ++ l) (drop_of_length-le old {i = 0 + record_size n} (omega (arith, size))) ∙ append-nil (record_of n m)

module _ (atoms : List ℕ) (sure : List Bool) (wanted : Interpretation) (n : ℕ) (m : Interpretation) (part : List ℕ) (d : ℕ) (far_is : d ≡ far wanted m) where
  -- the order as the code reads it from what is in hand
  read : {old : List ℕ} (held : Held) (b : Interpretation) → InHand atoms sure wanted n old (b ∷ []) (Some held) part → bytes_before (held.distance ∷ part) (d ∷ record_of n m) ≡ closer wanted n b m
  unfolding record_held
  read held b h =
      ap₂ (λ (k : ℕ) (p : List ℕ). bytes_before (k ∷ p) (d ∷ record_of n m)) h.held_is.1 h.part_is
      ∙ ap (λ (k : ℕ). bytes_before (far wanted b ∷ record_of n b) (k ∷ record_of n m)) far_is

  -- it comes after the one in hand
  stays_held : (held : Held) (stays : Bool) → stays ≡ bytes_before (held.distance ∷ part) (d ∷ record_of n m) → stays ≡ true → Takes atoms sure wanted n (m ∷ []) (Some held) part (Some held) part
  unfolding first_among insert_all insert_by insert_past record_held
  stays_held held stays is y old hand h = go hand h
    where
      go : (hand : List Interpretation) → InHand atoms sure wanted n old hand (Some held) part → InHand atoms sure wanted n old (first_among wanted n (m ∷ []) hand) (Some held) part
      go [] h = absurd h.held_is
      go (b ∷ []) h = subst (λ (c : Bool). InHand atoms sure wanted n old (take 1 (insert_past c m b (m ∷ []) [])) (Some held) part) (sym (sym (read held b h) ∙ sym is ∙ y)) h
      go (b ∷ c ∷ hand) h = absurd (omega (arith, h.few))

  pub takes_later : {held : Option Held} {kept : Held} → held ≡ Some kept → (stays : Bool) → stays ≡ bytes_before (kept.distance ∷ part) (d ∷ record_of n m) → stays ≡ true → Takes atoms sure wanted n (m ∷ []) held part (Some kept) part
  takes_later {kept = kept} e stays is y = subst (λ (x : Option Held). Takes atoms sure wanted n (m ∷ []) x part (Some kept) part) (sym e) (stays_held kept stays is y)

  -- it does not: its record is the part
  module _ (first : Held) (f : (first.distance ≡ d) × Outlined atoms sure m first) (l : length m ≡ n) (part' : List ℕ) (e : part' ≡ record_of n m) where
    made : {old : List ℕ} → InHand atoms sure wanted n old (m ∷ []) (Some first) part'
    unfolding record_held
    made = record { few = omega arith; part_is = e; held_is = (l, f.0 ∙ far_is, f.1) }

    goes_first : (held : Held) (stays : Bool) → stays ≡ bytes_before (held.distance ∷ part) (d ∷ record_of n m) → stays ≡ false → Takes atoms sure wanted n (m ∷ []) (Some held) part (Some first) part'
    unfolding first_among insert_all insert_by insert_past
    goes_first held stays is y old hand h = go hand h
      where
        go : (hand : List Interpretation) → InHand atoms sure wanted n old hand (Some held) part → InHand atoms sure wanted n old (first_among wanted n (m ∷ []) hand) (Some first) part'
        go [] h = absurd h.held_is
        go (b ∷ []) h = subst (λ (c : Bool). InHand atoms sure wanted n old (take 1 (insert_past c m b (m ∷ []) [])) (Some first) part') (sym (sym (read held b h) ∙ sym is ∙ y)) made
        go (b ∷ c ∷ hand) h = absurd (omega (arith, h.few))

    takes_only : Takes atoms sure wanted n (m ∷ []) None part (Some first) part'
    unfolding first_among insert_all insert_by insert_past
    takes_only old hand h = go hand h
      where
        go : (hand : List Interpretation) → InHand atoms sure wanted n old hand None part → InHand atoms sure wanted n old (first_among wanted n (m ∷ []) hand) (Some first) part'
        go [] h = made
        go (b ∷ []) h = absurd h.held_is
        go (b ∷ c ∷ hand) h = absurd (omega (arith, h.few))

    pub takes_first : {held : Option Held} {kept : Held} → held ≡ Some kept → (stays : Bool) → stays ≡ bytes_before (kept.distance ∷ part) (d ∷ record_of n m) → stays ≡ false → Takes atoms sure wanted n (m ∷ []) held part (Some first) part'
    takes_first {kept = kept} e stays is y = subst (λ (x : Option Held). Takes atoms sure wanted n (m ∷ []) x part (Some first) part') (sym e) (goes_first kept stays is y)

    -- nothing is in hand
    pub takes_new : (held : Option Held) → ((kept : Held) → held ≡ Some kept → ⊥) → Takes atoms sure wanted n (m ∷ []) held part (Some first) part'
    takes_new None none = takes_only
    takes_new (Some kept) none = absurd (none kept refl)

-- ---- the model of a setting is met, over the branching facts as they are lent
pub takes_met : {atoms lent : List ℕ} {sure : List Bool} {wanted : Interpretation} {n : ℕ} {m : Interpretation} {ms : List Interpretation} {held held' : Option Held} {part part' : List ℕ} → lent ≡ atoms → length m ≡ n → ms ≡ m ∷ []
    → Takes lent sure wanted (length m) (m ∷ []) held part held' part' → Takes atoms sure wanted n ms held part held' part'
takes_met {atoms} {lent} {sure} {wanted} {n} {m} {ms} {held} {held'} {part} {part'} ea el e t =
    takes_same atoms sure wanted n ms (m ∷ []) e
    (subst (λ (l : List ℕ). Takes l sure wanted n (m ∷ []) held part held' part') ea (subst (λ (k : ℕ). Takes lent sure wanted k (m ∷ []) held part held' part') el t))
