-- Listing the marked facts, one after the other, gives the branching facts, rising. Used by branching_atoms. Assumes nothing.
use mathlib.Core.Path.{◌≡◌, refl, sym, ap, ◌∙◌}
use mathlib.Core.Bool.{Bool, true, false, cond}
use mathlib.Core.List.{List, [], ◌∷◌, ◌++◌, append-nil}
use Prim.Native.Nat.{ℕ, ◌+◌, ◌<◌, ◌≤◌}
use native.Mathlib.Numerals.{add-one}
use native.Mathlib.Omega.{arith}
use borrow.Author.Tests.{lt-ltb}
use lib.ListN.{length, get_or, length-append}
use Rattle.std.specs.Prelude.{Some}
use Rattle.base.specs.Bounds.{max_atoms, max_branching}
use Rattle.base.specs.Lists.{cons_if, filter, up_to, put_behind}
use Rattle.models.specs.Program.{Program}
use Rattle.models.specs.StableModels.{atom_holds, overrides}
use Rattle.models.specs.Branching.{can_reject, branching, branching_atoms, branching_count}
use Rattle.table.specs.declared.Row.{Row}
use Rattle.table.specs.Table.{Tabulates}
use Rattle.table.specs.Tabled.{tabled}
use Rattle.branching.specs.Marks.{BranchingMarks}

-- the branching facts below f are counted, and listed as long as there is a place for them
pub record ListedTo (P : Program) (f : ℕ) (atoms : List ℕ) (count : ℕ) : Type 0 where
  pub few : count ≤ f
  pub count_is : count ≡ length (filter (branching P) (up_to f))
  pub listed : count ≤ max_branching → atoms ≡ filter (branching P) (up_to f)

filter-append : (p : ℕ → Bool) (xs ys : List ℕ) → filter p (xs ++ ys) ≡ filter p xs ++ filter p ys
unfolding filter cons_if
filter-append p [] ys = refl
filter-append p (x ∷ xs) ys = go (p x) (filter-append p xs ys)
  where
    go : (c : Bool) → filter p (xs ++ ys) ≡ filter p xs ++ filter p ys → cons_if c x (filter p (xs ++ ys)) ≡ cons_if c x (filter p xs) ++ filter p ys
    go true e = ap (λ (l : List ℕ). x ∷ l) e
    go false e = e

filter_next : (p : ℕ → Bool) (f : ℕ) → filter p (up_to (f + 1)) ≡ filter p (up_to f) ++ cons_if (p f) f []
unfolding up_to filter
filter_next p f = ap (λ (k : ℕ). filter p (up_to k)) (add-one f) ∙ filter-append p (up_to f) (f ∷ [])

module _ (P : Program) where
  pub listed_start : ListedTo P 0 [] 0
  unfolding filter up_to
  listed_start = record { few = omega arith; count_is = refl; listed = λ h. refl }

  module _ (f : ℕ) (atoms : List ℕ) (count : ℕ) (w : ListedTo P f atoms count) where
    next : (c : Bool) → branching P f ≡ c → filter (branching P) (up_to (f + 1)) ≡ filter (branching P) (up_to f) ++ cons_if c f []
    next c e = filter_next (branching P) f ∙ ap (λ (d : Bool). filter (branching P) (up_to f) ++ cons_if d f []) e

    -- a place is left for it, if all have one
    pub listed_yes : branching P f ≡ true → ListedTo P (f + 1) (put_behind atoms max_branching (Some f)) (count + 1)
    unfolding cons_if
    listed_yes e = record {
      few = omega (arith, w.few);
      count_is = ap (λ (k : ℕ). k + 1) w.count_is ∙ sym (ap length (next true e) ∙ length-append (filter (branching P) (up_to f)) (f ∷ []));
      listed = λ h.
          let all : atoms ≡ filter (branching P) (up_to f) = w.listed (omega arith) in
          let room : length atoms < max_branching = omega (arith, ap length all, w.count_is) in
          ap (λ (b : Bool). cond b (atoms ++ (f ∷ [])) atoms) (lt-ltb (length atoms) max_branching room)
          ∙ ap (λ (l : List ℕ). l ++ (f ∷ [])) all ∙ sym (next true e);
    }

    pub listed_no : branching P f ≡ false → ListedTo P (f + 1) atoms count
    unfolding cons_if
    listed_no e =
        let q : filter (branching P) (up_to f) ≡ filter (branching P) (up_to (f + 1)) = sym (next false e ∙ append-nil (filter (branching P) (up_to f))) in
        record { few = omega (arith, w.few); count_is = w.count_is ∙ ap length q; listed = λ h. w.listed h ∙ q }

  module _ (f : ℕ) (atoms : List ℕ) (count : ℕ) (e : f ≡ P.atoms) (w : ListedTo P f atoms count) where
    pub listed_all : count ≤ max_branching → atoms ≡ branching_atoms P
    unfolding branching_atoms
    listed_all h = w.listed h ∙ ap (λ (k : ℕ). filter (branching P) (up_to k)) e

    pub listed_many : count ≡ branching_count P
    unfolding branching_atoms branching_count
    listed_many = w.count_is ∙ ap (λ (k : ℕ). length (filter (branching P) (up_to k))) e

-- what is marked branches, however many facts there are
pub marked-branches : (book : List ℕ) (rows : List Row) (n : ℕ) (marks : List Bool) → BranchingMarks (tabled book rows 0) marks → (f : ℕ) → f < max_atoms → (c : Bool) → get_or marks f false ≡ c
    → branching (tabled book rows n) f ≡ c
unfolding atom_holds branching can_reject overrides tabled
marked-branches book rows n marks m f h c e = sym (m.marked f h) ∙ e

pub table_alone : (book : List ℕ) (rows : List Row) (n : ℕ) → Tabulates (tabled book rows n) book rows → Tabulates (tabled book rows 0) book rows
unfolding overrides tabled
table_alone book rows n w = record { fits = w.fits; rules = w.rules; sound = w.sound; full = w.full; exact = w.exact }
