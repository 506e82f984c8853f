-- The search finds every stable model, each once: what the listing, the one state and a fact's place rest on. Assumes nothing.
use mathlib.Core.Path.{◌≡◌, refl, sym, subst, ◌∙◌}
use mathlib.Core.Logic.{◌⊎◌, inl, inr}
use mathlib.Core.Bool.{Bool, true, false, ◌&&◌, ◌||◌, beq}
use mathlib.Core.List.Memᴰ
use mathlib.Core.List.{List, [], ◌∷◌, ◌++◌}
use Prim.Native.Nat.{ℕ, zero, suc, ◌^◌, ◌<◌, ◌≤◌}
use native.Mathlib.Nat.{pow-suc}
use native.Mathlib.Decide.{ℕ_discrete}
use native.Mathlib.Omega.{arith}
use lib.Dec.{T, eqb, eqb→eq}
use lib.ListN.{length, set, length-set, length-append}
use lib.Seq.{get_or-set_same, get_or-set_other}
use Rattle.base.specs.Lists.{cons_if, any, filter, up_to}
use Rattle.base.proofs.Members.{◌∈◌, and_left, and_right, and_both, all_at, all_of, any_at, filter-from, filter_into}
use Rattle.base.proofs.Rising.{Rising, filter-rising}
use Rattle.base.proofs.UpTo.{up_to_lt, up_to_has}
use Rattle.format.specs.Book.{Literal, Rule}
use Rattle.models.specs.Program.{Program}
use Rattle.models.specs.StableModels.{Interpretation, atom_holds, stable, StableModel, WellFormed}
use Rattle.models.specs.Branching.{can_reject, branching, branching_atoms, branching_count}
use Rattle.models.specs.Listing.{interpretations}
use Rattle.models.proofs.BranchingLaws.{branching_decides}
use Rattle.models.proofs.InterpretationLaws.{◌⊏◌, asym, interpretations-rising, interpretations-length, interpretations_has}
use Rattle.models.proofs.LeastLaws.{stable_sound, beq_same, beq_refl}
use Rattle.models.proofs.LeafLaws.{alone}
use Rattle.insertion.proofs.Once.{Once, short-once, append-once}
use Rattle.leaf.specs.Found.{agree_on, fits, at_setting, found_by}

-- a setting
set-size : (o : Interpretation) (f size : ℕ) (b : Bool) → length o ≡ size → length (set o f b) ≡ size
set-size o f size b l = length-set o f b ∙ l

set_here : (o : Interpretation) (f : ℕ) (b : Bool) → f < length o → atom_holds (set o f b) f ≡ b
unfolding atom_holds
set_here o f b h = get_or-set_same o f b false h

set_other : (o : Interpretation) (f i : ℕ) (b : Bool) → (i ≡ f → ⊥) → atom_holds (set o f b) i ≡ atom_holds o i
unfolding atom_holds
set_other o f i b d = get_or-set_other o f i b false d

-- the search over any leaf whose models pass the test and agree with the setting on the atoms
module _ (n size : ℕ) (p : Interpretation → Bool) (atoms : List ℕ) (leaf : Interpretation → List Interpretation)
    (small : (f : ℕ) → f ∈ atoms → f < size)
    (one : (o : Interpretation) → length (leaf o) ≤ 1)
    (sound : (o m : Interpretation) → m ∈ leaf o → (length m ≡ n) × T (p m) × ((f : ℕ) → f ∈ atoms → atom_holds m f ≡ atom_holds o f))
    (complete : (o m : Interpretation) → length m ≡ n → T (p m) → ((f : ℕ) → f ∈ atoms → atom_holds m f ≡ atom_holds o f) → m ∈ leaf o) where
  -- m agrees with the setting on the atoms that are decided
  abbrev Agrees : List ℕ → Interpretation → Interpretation → Type 0
  Agrees undecided m o = (f : ℕ) → f ∈ atoms → (f ∈ undecided → ⊥) → atom_holds m f ≡ atom_holds o f

  found_from : (undecided : List ℕ) (o m : Interpretation) → m ∈ found_by leaf undecided o → (length m ≡ n) × T (p m) × Agrees undecided m o
  unfolding found_by
  found_from [] o m k = let r = sound o m k in (r.0, r.1, λ f i d. r.2 f i)
  found_from (f ∷ fs) o m k = go (λ b j. found_from fs (set o f b) m j) (Memᴰ.append_cases (found_by leaf fs (set o f false)) k)
    where
      back : (b : Bool) → Agrees fs m (set o f b) → Agrees (f ∷ fs) m o
      back b a i k d = a i k (λ j. d (Memᴰ.tail j)) ∙ set_other o f i b (λ e. d (Memᴰ.head e))

      go : ((b : Bool) → m ∈ found_by leaf fs (set o f b) → (length m ≡ n) × T (p m) × Agrees fs m (set o f b))
          → m ∈ found_by leaf fs (set o f false) ⊎ m ∈ found_by leaf fs (set o f true) → (length m ≡ n) × T (p m) × Agrees (f ∷ fs) m o
      go r (inl j) = let w = r false j in (w.0, w.1, back false w.2)
      go r (inr j) = let w = r true j in (w.0, w.1, back true w.2)

  found_into : (undecided : List ℕ) → ((f : ℕ) → f ∈ undecided → f < size) → (o m : Interpretation) → length o ≡ size
      → length m ≡ n → T (p m) → Agrees undecided m o → m ∈ found_by leaf undecided o
  unfolding found_by
  found_into [] h o m s l t a = complete o m l t (λ f i. a f i (λ j. Memᴰ.not-nil j))
  found_into (f ∷ fs) h o m s l t a =
      go (λ b e. found_into fs (λ i j. h i (Memᴰ.tail j)) (set o f b) m (set-size o f size b s) l t (on b e)) (atom_holds m f) refl
    where
      on : (b : Bool) → atom_holds m f ≡ b → Agrees fs m (set o f b)
      on b e i k d = here (ℕ_discrete i f)
        where
          past : (i ≡ f) ⊎ i ∈ fs → (i ≡ f → ⊥) → ⊥
          past (inl q) ne = ne q
          past (inr j) ne = d j

          here : Dec (i ≡ f) → atom_holds m i ≡ atom_holds (set o f b) i
          here (yes q) = subst (λ (x : ℕ). atom_holds m x ≡ atom_holds (set o f b) x) (sym q) (e ∙ sym (set_here o f b (subst (λ (x : ℕ). f < x) (sym s) (h f (Memᴰ.head refl)))))
          here (no q) = a i k (λ j. past (Memᴰ.cases_cons j) q) ∙ sym (set_other o f i b q)

      go : ((b : Bool) → atom_holds m f ≡ b → m ∈ found_by leaf fs (set o f b)) → (c : Bool) → atom_holds m f ≡ c
          → m ∈ (found_by leaf fs (set o f false) ++ found_by leaf fs (set o f true))
      go r false e = Memᴰ.append_left (found_by leaf fs (set o f true)) (r false e)
      go r true e = Memᴰ.append_right (found_by leaf fs (set o f false)) (r true e)

  -- a model is found under one setting only
  found_apart : (undecided : List ℕ) → Once undecided → ((f : ℕ) → f ∈ undecided → f ∈ atoms) → (o : Interpretation) → length o ≡ size → Once (found_by leaf undecided o)
  unfolding found_by
  found_apart [] w h o s = short-once (leaf o) (one o)
  found_apart (f ∷ fs) w h o s =
      append-once (found_by leaf fs (set o f false)) (found_by leaf fs (set o f true))
      (found_apart fs w.1 (λ i j. h i (Memᴰ.tail j)) (set o f false) (set-size o f size false s))
      (found_apart fs w.1 (λ i j. h i (Memᴰ.tail j)) (set o f true) (set-size o f size true s))
      (λ m i j. subst T (sym (side true m j) ∙ side false m i) tt)
    where
      side : (b : Bool) (m : Interpretation) → m ∈ found_by leaf fs (set o f b) → atom_holds m f ≡ b
      side b m k =
          (found_from fs (set o f b) m k).2 f (h f (Memᴰ.head refl)) w.0
          ∙ set_here o f b (subst (λ (x : ℕ). f < x) (sym s) (small f (h f (Memᴰ.head refl))))

-- at most one for each setting
pub found_le : (leaf : Interpretation → List Interpretation) → ((o : Interpretation) → length (leaf o) ≤ 1) → (undecided : List ℕ) (o : Interpretation)
    → length (found_by leaf undecided o) ≤ 2 ^ length undecided
unfolding found_by
found_le leaf one [] o = one o
found_le leaf one (f ∷ fs) o =
    omega (arith, found_le leaf one fs (set o f false), found_le leaf one fs (set o f true), pow-suc 2 (length fs), length-append (found_by leaf fs (set o f false)) (found_by leaf fs (set o f true)))

-- a rising list all of whose members are equal has at most one
short : (ms : List Interpretation) → Rising ◌⊏◌ ms → ((x y : Interpretation) → x ∈ ms → y ∈ ms → x ≡ y) → length ms ≤ 1
short [] r f = omega arith
short (x ∷ []) r f = omega arith
short (x ∷ y ∷ ms) r f =
    let l : x ⊏ y = r.0 y (Memᴰ.head refl) in
    let e : x ≡ y = f x y (Memᴰ.head refl) (Memᴰ.tail (Memᴰ.head refl)) in
    let k : x ⊏ x = subst (λ (z : Interpretation). x ⊏ z) (sym e) l in
    absurd (asym x x k k)

-- the numbers below n are there once, and so are those that pass a test
up_to-once : (n : ℕ) → Once (up_to n)
unfolding up_to
up_to-once zero = tt
up_to-once (suc n) = append-once (up_to n) (n ∷ []) (up_to-once n) (λ m. Memᴰ.not-nil m, tt) (λ z i j. apart z i (Memᴰ.cases_cons j))
  where
    apart : (z : ℕ) → z ∈ up_to n → (z ≡ n) ⊎ z ∈ [] → ⊥
    apart z i (inl e) = let h : z < n = up_to_lt n z i in omega arith
    apart z i (inr j) = Memᴰ.not-nil j

filter-once : (p : ℕ → Bool) (xs : List ℕ) → Once xs → Once (filter p xs)
unfolding filter cons_if
filter-once p [] w = tt
filter-once p (x ∷ xs) w = go (p x) (filter-once p xs w.1)
  where
    go : (c : Bool) → Once (filter p xs) → Once (cons_if c x (filter p xs))
    go true r = (λ k. w.0 (filter-from p xs k).0, r)
    go false r = r

agree_from : (atoms : List ℕ) (m o : Interpretation) → T (agree_on atoms m o) → (f : ℕ) → f ∈ atoms → atom_holds m f ≡ atom_holds o f
unfolding agree_on
agree_from atoms m o t f k = beq_same (atom_holds m f) (atom_holds o f) (all_at (λ f. beq (atom_holds m f) (atom_holds o f)) t k)

agree_into : (atoms : List ℕ) (m o : Interpretation) → ((f : ℕ) → f ∈ atoms → atom_holds m f ≡ atom_holds o f) → T (agree_on atoms m o)
unfolding agree_on
agree_into atoms m o h =
    all_of (λ f. beq (atom_holds m f) (atom_holds o f)) atoms
    (λ f k. subst (λ (x : Bool). T (beq (atom_holds m f) x)) (h f k) (beq_refl (atom_holds m f)))

-- the search of a program
module _ (P : Program) (w : WellFormed P) where
  abbrev B : List ℕ
  B = branching_atoms P

  -- every branching fact is one of the list
  pub branching-listed : (f : ℕ) → T (branching P f) → f ∈ B
  unfolding branching branching_atoms
  branching-listed f t =
      let u : (r : Rule) × r ∈ P.rules × T (any (λ l. eqb l.atom f && (l.negated || can_reject P r)) r.body) =
      any_at (λ r. any (λ l. eqb l.atom f && (l.negated || can_reject P r)) r.body) P.rules t in
      let v : (l : Literal) × l ∈ u.0.body × T (eqb l.atom f && (l.negated || can_reject P u.0)) =
      any_at (λ l. eqb l.atom f && (l.negated || can_reject P u.0)) u.0.body u.2 in
      let e : v.0.atom ≡ f = eqb→eq v.0.atom f (and_left (eqb v.0.atom f) (v.0.negated || can_reject P u.0) v.2) in
      filter_into (branching P) (up_to_has P.atoms f (subst (λ (x : ℕ). x < P.atoms) e (w.bodies u.0 u.1 v.0 v.1))) t

  pub branching-small : (f : ℕ) → f ∈ B → f < P.atoms
  unfolding branching_atoms
  branching-small f k = up_to_lt P.atoms f (filter-from (branching P) (up_to P.atoms) k).0

  pub setting_from : (o m : Interpretation) → m ∈ at_setting P B o → (length m ≡ P.atoms) × T (stable P m) × ((f : ℕ) → f ∈ B → atom_holds m f ≡ atom_holds o f)
  unfolding at_setting fits
  setting_from o m k =
      let r : m ∈ interpretations P.atoms × T (fits P B o m) = filter-from (fits P B o) (interpretations P.atoms) k in
      (interpretations-length P.atoms m r.0, and_left (stable P m) (agree_on B m o) r.1, agree_from B m o (and_right (stable P m) (agree_on B m o) r.1))

  pub setting_into : (o m : Interpretation) → length m ≡ P.atoms → T (stable P m) → ((f : ℕ) → f ∈ B → atom_holds m f ≡ atom_holds o f) → m ∈ at_setting P B o
  unfolding at_setting fits
  setting_into o m l t a = filter_into (fits P B o) (interpretations_has P.atoms m l) (and_both (stable P m) (agree_on B m o) t (agree_into B m o a))

  setting_rises : (o : Interpretation) → Rising ◌⊏◌ (at_setting P B o)
  unfolding at_setting
  setting_rises o = filter-rising ◌⊏◌ (fits P B o) (interpretations P.atoms) (interpretations-rising P.atoms)

  -- a setting has at most one stable model
  pub setting_one : (o : Interpretation) → length (at_setting P B o) ≤ 1
  setting_one o = short (at_setting P B o) (setting_rises o) (λ x y k j. same x y (setting_from o x k) (setting_from o y j))
    where
      same : (x y : Interpretation) → (length x ≡ P.atoms) × T (stable P x) × ((f : ℕ) → f ∈ B → atom_holds x f ≡ atom_holds o f)
          → (length y ≡ P.atoms) × T (stable P y) × ((f : ℕ) → f ∈ B → atom_holds y f ≡ atom_holds o f) → x ≡ y
      same x y u v =
          branching_decides P w x y (stable_sound P x u.0 u.1) (stable_sound P y v.0 v.1)
          (λ f t. u.2 f (branching-listed f t) ∙ sym (v.2 f (branching-listed f t)))

  -- if no other state can be a stable model of the setting, it is the one or there is none: what the code has to show
  pub setting_is : (o c : Interpretation) → length c ≡ P.atoms
      → ((m : Interpretation) → StableModel P m → ((f : ℕ) → T (branching P f) → atom_holds m f ≡ atom_holds o f) → m ≡ c)
      → at_setting P B o ≡ cons_if (fits P B o c) c []
  unfolding at_setting fits
  setting_is o c l only =
      sym (alone P.atoms (fits P B o) c l
      (λ m k t. only m (stable_sound P m k (and_left (stable P m) (agree_on B m o) t)) (λ f b. agree_from B m o (and_right (stable P m) (agree_on B m o) t) f (branching-listed f b))))

  -- and if no state can be, there is none
  pub setting_none : (o : Interpretation) → ((m : Interpretation) → StableModel P m → ((f : ℕ) → T (branching P f) → atom_holds m f ≡ atom_holds o f) → ⊥) → at_setting P B o ≡ []
  setting_none o never = go (at_setting P B o) (λ m k. setting_from o m k)
    where
      go : (ms : List Interpretation) → ((m : Interpretation) → m ∈ ms → (length m ≡ P.atoms) × T (stable P m) × ((f : ℕ) → f ∈ B → atom_holds m f ≡ atom_holds o f)) → ms ≡ []
      go [] h = refl
      go (m ∷ ms) h =
          let v = h m (Memᴰ.head refl) in
          absurd (never m (stable_sound P m v.0 v.1) (λ f t. v.2 f (branching-listed f t)))

  -- what is found is stable, and agrees with the setting on the atoms that are decided
  pub found_decided : (undecided : List ℕ) (o m : Interpretation) → m ∈ found_by (at_setting P B) undecided o
      → StableModel P m × ((f : ℕ) → f ∈ B → (f ∈ undecided → ⊥) → atom_holds m f ≡ atom_holds o f)
  found_decided undecided o m k =
      let r = found_from P.atoms P.atoms (stable P) B (at_setting P B) branching-small setting_one setting_from setting_into undecided o m k in
      (stable_sound P m r.0 r.1, r.2)

  pub branching-once : Once B
  unfolding branching_atoms
  branching-once = filter-once (branching P) (up_to P.atoms) (up_to-once P.atoms)

  module _ (o : Interpretation) (size : ℕ) (s : length o ≡ size) (wide : P.atoms ≤ size) where
    abbrev found : List Interpretation
    found = found_by (at_setting P B) B o

    lt_size : (f : ℕ) → f ∈ B → f < size
    lt_size f k = let h : f < P.atoms = branching-small f k in omega arith

    -- what is found is stable, every stable model is found, and none is found twice
    pub found_stable : (m : Interpretation) → m ∈ found → (length m ≡ P.atoms) × T (stable P m)
    found_stable m k = let r = found_from P.atoms size (stable P) B (at_setting P B) lt_size setting_one setting_from setting_into B o m k in (r.0, r.1)

    pub stable_found : (m : Interpretation) → length m ≡ P.atoms → T (stable P m) → m ∈ found
    stable_found m l t =
        found_into P.atoms size (stable P) B (at_setting P B) lt_size setting_one setting_from setting_into B lt_size o m s l t (λ f k d. absurd (d k))

    pub found_once : Once found
    found_once = found_apart P.atoms size (stable P) B (at_setting P B) lt_size setting_one setting_from setting_into B branching-once (λ f k. k) o s

    -- k ≤ 2^g
    pub found_count : length found ≤ 2 ^ branching_count P
    unfolding branching_count
    found_count = found_le (at_setting P B) setting_one B o
