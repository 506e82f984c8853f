-- One call of the search: a leaf, or two halves with one fact decided each way. Used by visit_setting and search. Assumes nothing.
use mathlib.Core.Path.{◌≡◌, refl, sym, ap, ap₂, subst, ◌∙◌}
use mathlib.Core.Logic.{∥∥₁_map}
use mathlib.Core.Bool.{Bool, true, false, not}
use mathlib.Core.List.{List, [], ◌∷◌, ◌++◌}
use Prim.Native.Nat.{ℕ, zero, suc, ◌+◌, ◌-◌, ◌^◌, ◌<◌, ◌≤◌}
use native.Mathlib.Nat.{pow-suc}
use native.Mathlib.Omega.{arith}
use lib.Pow.{pow_pos}
use lib.ListN.{length, get_or, take, drop, set}
use lib.Seq.{take_all, set-set}
use Rattle.base.specs.Lists.{cons_if, all, any}
use Rattle.format.specs.Book.{Literal}
use Rattle.models.specs.Program.{Program}
use Rattle.models.specs.StableModels.{Interpretation, holds}
use Rattle.search.specs.declared.Goal.{Goal}
use Rattle.search.specs.declared.Visit.{Visit}
use Rattle.leaf.specs.Found.{at_setting, found_by}
use Rattle.search.specs.Visits.{Searched}
use Rattle.table.specs.Rows.{row_count}
use Rattle.table.specs.Tabled.{tabled}
use Rattle.table.proofs.TabledLaws.{tabled-free}
use Rattle.bans.specs.Bans.{bodies_of, barred}
use Rattle.std.specs.Prelude.{MatchOption}
use Rattle.std.specs.Bool.{then_some}
use Rattle.search.specs.declared.space.Space.{Space}
use Rattle.search.specs.Space.{space_atoms, models_at}
use Rattle.tester.specs.Masks.{RejectedMasks}
use Rattle.setting.specs.Setting.{setting_of}
use Rattle.rejecting.specs.declared.RejectingMasks.{RejectingMasks}
use Rattle.rejecting.specs.Rejecting.{RejectsAt}
use Rattle.rejecting.proofs.RejectedLaws.{rejected_at}
use Rattle.leaf.specs.Searchable.{Searchable}
use Rattle.leaf.proofs.FoundLaws.{setting_one}
use Rattle.leaf.proofs.SearchableLaws.{masks_again}
use Rattle.search.proofs.ReadyLaws.{space_searchable}
use Rattle.search.proofs.AllowedLaws.{setting_allowed, setting_without, barred-formed, barred-listed}
use Rattle.search.proofs.VisitLaws.{searched-none}
use Rattle.table.specs.declared.Row.{Row}
use Rattle.table.specs.declared.Span.{Span}

-- no more than so many models, so that the count fits
abbrev pub limit : ℕ
limit = 4294967296

at_leaf : (leaf : Interpretation → List Interpretation) (undecided : List ℕ) (o : Interpretation) → length undecided ≡ 0 → found_by leaf undecided o ≡ leaf o
unfolding found_by
at_leaf leaf [] o e = refl
at_leaf leaf (f ∷ fs) o e = absurd (omega arith)

-- ---- a setting, with what the plan lends: its facts, its rows that reject and its constraints
module _ (s : Space) (standing : ℕ) {atoms : List ℕ} (ea : atoms ≡ space_atoms s) where
  abbrev book : List ℕ
  book = s.table.book.now

  abbrev rows : List Row
  rows = s.table.rows.now

  pub leaf_table : (k : ℕ) → k ≡ s.plan.now.n → Searchable book rows atoms k
  leaf_table k ek = subst (λ (l : List ℕ). Searchable book rows l k) (sym ea) (subst (Searchable book rows (space_atoms s)) (sym ek) (space_searchable s))

  pub leaf_masks : {rejecting : List RejectingMasks} → rejecting ≡ s.plan.now.rejecting → {rejects : List ℕ} → RejectsAt rejecting standing rejects → RejectedMasks book rows (setting_of atoms standing) rejects (row_count rows)
  leaf_masks er {rejects} r =
      subst (λ (l : List ℕ). RejectedMasks book rows (setting_of l standing) rejects (row_count rows)) (sym ea)
      (masks_again (∥∥₁_map s.ready (λ ready.
      rejected_at s.plan.now.n ready.table.formed (omega (arith, ready.table.size, ready.table.few)) ready.table.table ready.table.listed standing ready.planned.rejecting_masks
      (subst (λ (l : List RejectingMasks). RejectsAt l standing rejects) er r))))

  -- the model of the rules alone over k facts is `m`, if there is one, and stands as `state`
  module _ (k : ℕ) (ek : k ≡ s.plan.now.n) (ok : Bool) (m : Interpretation) (is : at_setting (tabled book rows k) atoms (setting_of atoms standing) ≡ cons_if ok m []) where
    abbrev bodies : List (List Literal)
    bodies = bodies_of book s.bans.spans.now

    abbrev P : Program
    P = tabled book rows s.plan.now.n

    free : P.constraints ≡ []
    free = tabled-free book rows s.plan.now.n

    at_n : at_setting P (space_atoms s) (setting_of (space_atoms s) standing) ≡ cons_if ok m []
    at_n = subst (λ (l : List ℕ). at_setting P l (setting_of l standing) ≡ cons_if ok m []) ea (subst (λ (x : ℕ). at_setting (tabled book rows x) atoms (setting_of atoms standing) ≡ cons_if ok m []) ek is)

    pub found_none : ok ≡ false → models_at s standing ≡ []
    unfolding cons_if
    found_none e = setting_without P bodies free (space_atoms s) (setting_of (space_atoms s) standing) (at_n ∙ ap (λ (c : Bool). cons_if c m []) e)

    module _ (e : ok ≡ true) (state : Interpretation) (es : state ≡ m) (r : Bool) (er : r ≡ any (all (holds state)) (bodies_of s.bans.book.now s.bans.spans.now)) where
      allowed : models_at s standing ≡ cons_if (not r) state []
      unfolding cons_if
      allowed =
          setting_allowed P bodies free (space_atoms s) (setting_of (space_atoms s) standing) state (at_n ∙ ap (λ (c : Bool). cons_if c m []) e ∙ ap (λ (x : Interpretation). x ∷ []) (sym es)) r
          (er ∙ ap (λ (b : List ℕ). any (all (holds state)) (bodies_of b s.bans.spans.now)) s.same_book)

      pub found_one : r ≡ false → models_at s standing ≡ state ∷ []
      unfolding cons_if
      found_one n = allowed ∙ ap (λ (c : Bool). cons_if (not c) state []) n

      pub found_forbidden : r ≡ true → models_at s standing ≡ []
      unfolding cons_if
      found_forbidden y = allowed ∙ ap (λ (c : Bool). cons_if (not c) state []) y

-- a test decides whether there is a value
pub then_some_cases : {A : Type 0} (b : Bool) (x : A) (N : Type 0) (Y : A → Type 0) → (b ≡ false → N) → (b ≡ true → Y x) → MatchOption (then_some b x) N Y
then_some_cases true x N Y n y = y refl
then_some_cases false x N Y n y = n refl

-- nothing is to be found
pub none-searched : (goal : Goal) (n : ℕ) (ms : List Interpretation) → ms ≡ [] → (v : Visit) (p : List ℕ) → Searched goal n ms v p v p
none-searched goal n ms e v p = subst (λ (l : List Interpretation). Searched goal n l v p v p) (sym e) (searched-none goal n v p)

module _ (leaf : Interpretation → List Interpretation) (undecided : List ℕ) (o : Interpretation) where
  -- no fact is left: the setting itself
  pub found_at_leaf : length undecided ≡ 0 → found_by leaf undecided o ≡ leaf o
  found_at_leaf empty = at_leaf leaf undecided o empty

  module _ (some : length undecided ≡ 0 → ⊥) where
    -- the undecided facts after the first, as the code cuts them
    abbrev pub later : List ℕ
    later = take (length undecided - 1) (drop 1 undecided)

    pub later-length : length undecided ≡ suc (length later)
    later-length = go undecided some
      where
        go : (fs : List ℕ) → (length fs ≡ 0 → ⊥) → length fs ≡ suc (length (take (length fs - 1) (drop 1 fs)))
        go [] h = absurd (h refl)
        go (f ∷ fs) h = ap (λ (l : List ℕ). suc (length l)) (sym (take_all (length (f ∷ fs) - 1) fs (omega arith)))

    halves : (f : ℕ) → f ≡ get_or undecided 0 0 → found_by leaf undecided o ≡ found_by leaf later (set o f false) ++ found_by leaf later (set (set o f false) f true)
    unfolding found_by
    halves f e = go undecided some e
      where
        go : (fs : List ℕ) → (length fs ≡ 0 → ⊥) → f ≡ get_or fs 0 0
            → found_by leaf fs o ≡ found_by leaf (take (length fs - 1) (drop 1 fs)) (set o f false) ++ found_by leaf (take (length fs - 1) (drop 1 fs)) (set (set o f false) f true)
        go [] h q = absurd (h refl)
        go (g ∷ fs) h q =
            let t : take (length (g ∷ fs) - 1) fs ≡ fs = take_all (length (g ∷ fs) - 1) fs (omega arith) in
            rw (t, q, set-set o g false true) refl

    -- the two halves, with the first undecided fact decided each way
    pub both_halves : (o₁ : Interpretation) → set o (get_or undecided 0 0) false ≡ o₁ → (o₂ : Interpretation) → set (set o (get_or undecided 0 0) false) (get_or undecided 0 0) true ≡ o₂
        → found_by leaf undecided o ≡ found_by leaf later o₁ ++ found_by leaf later o₂
    both_halves o₁ e₁ o₂ e₂ = halves (get_or undecided 0 0) refl ∙ ap₂ (λ (x y : Interpretation). found_by leaf later x ++ found_by leaf later y) e₁ e₂

-- at most one model for each setting, in the code's words
pub leaf_one : (b : List ℕ) (rs : List Row) (bans : List Span) (atoms : List ℕ) (n : ℕ) → Searchable b rs atoms n → (o : Interpretation) → length (at_setting (barred b rs bans n) atoms o) ≤ 1
leaf_one b rs bans atoms n w o =
    subst (λ (fs : List ℕ). length (at_setting (barred b rs bans n) fs o) ≤ 1) (sym (barred-listed w bans)) (setting_one (barred b rs bans n) (barred-formed w bans) o)

pub count_fits : (c k : ℕ) → c + 2 ^ k ≤ limit → c < limit
count_fits c k h = omega (arith, pow_pos k)

-- a half has half of the settings
pub half_fits : (c d k : ℕ) → (k ≡ 0 → ⊥) → d ≤ c + 2 ^ (k - 1) → c + 2 ^ k ≤ limit → d + 2 ^ (k - 1) ≤ limit
half_fits c d zero some h b = absurd (some refl)
half_fits c d (suc k) some h b = let z : suc k - 1 ≡ k = omega arith in omega (arith, ap (λ (x : ℕ). 2 ^ x) z, pow-suc 2 k)
