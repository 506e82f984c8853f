-- What is worked out once a call, before the search: the table of the rules and the branching facts; and what a setting of these
-- assumes. Assumes nothing.
use Rattle.std.specs.Prelude.{◌≡◌, ◌⊎◌, Bool, false, not, ◌&&◌, ℕ, ◌<◌, ◌≤◌, T, eqb, length, get_or}
use mathlib.Core.List.{List, map, Memᴰ}
use Rattle.base.specs.Bounds.{max_atoms, max_rules, max_branching}
use Rattle.base.specs.Lists.{any, up_to}
use Rattle.format.specs.Book.{Literal}
use Rattle.models.specs.StableModels.{Interpretation, atom_holds, negative, WellFormed}
use Rattle.models.specs.Branching.{branching_atoms}
use Rattle.table.specs.Rows.{row_count}
use Rattle.table.specs.Table.{Tabulates}
use Rattle.table.specs.Tabled.{tabled}
use Rattle.filling.specs.Marks.{literal_marked, FollowsFrom, Apart, Fills}
use Rattle.tester.specs.Masks.{RejectedMasks}
use Rattle.setting.specs.Setting.{setting_of}
use Rattle.table.specs.declared.Row.{Row}

pub record Searchable (book : List ℕ) (rows : List Row) (atoms : List ℕ) (n : ℕ) : Type 0 where
  pub formed : WellFormed (tabled book rows n)
  pub table : Tabulates (tabled book rows n) book rows
  pub listed : atoms ≡ branching_atoms (tabled book rows n)
  pub rows_few : row_count rows ≤ max_rules
  pub atoms_few : length atoms ≤ max_branching
  pub size : n ≡ (tabled book rows n).atoms
  pub some : 0 < n
  pub few : n ≤ max_atoms

-- each of these atoms is a fact below n
abbrev pub Below : List ℕ → ℕ → Type 0
Below atoms n = (i : ℕ) → i < length atoms → get_or atoms i 0 < n

-- the branching atoms as a search has them: few, each a fact below n, and each once
pub record Choices (atoms : List ℕ) (n : ℕ) : Type 0 where
  pub few : length atoms ≤ max_branching
  pub low : Below atoms n
  pub once : (i j : ℕ) → i < length atoms → j < length atoms → get_or atoms i 0 ≡ get_or atoms j 0 → i ≡ j
  pub facts_few : n ≤ max_atoms

-- of these atoms, those that the setting denies
pub record Denied (atoms : List ℕ) (setting : Interpretation) (start : List Bool) : Type 0 where
  pub sound : (f : ℕ) → T (atom_holds start f) → Memᴰ f atoms × T (not (atom_holds setting f))
  pub full : (f : ℕ) → Memᴰ f atoms → T (not (atom_holds setting f)) → T (atom_holds start f)

-- the same, as marks, of the setting of a mask
unfoldable pub denied_of : List ℕ → ℕ → List Bool
denied_of atoms standing = map (λ f. any (eqb f) atoms && not (atom_holds (setting_of atoms standing) f)) (up_to max_atoms)

-- of the start, those of whose facts no rule is rejected
pub record Undisputed (rejects : List ℕ) (start assumed : List Bool) : Type 0 where
  pub among : (f : ℕ) → T (atom_holds assumed f) → T (atom_holds start f)
  pub clear : (f : ℕ) → T (atom_holds assumed f) → get_or rejects f 0 ≡ 0

-- of the first n atoms, those that the start has are marked
abbrev pub Covered : List ℕ → List Bool → List Bool → ℕ → Type 0
Covered atoms start q n = (i : ℕ) → i < n → T (atom_holds start (get_or atoms i 0)) → T (atom_holds q (get_or atoms i 0))

-- a test computes p: whatever it may answer of an atom is p of it
abbrev pub Computes : (ℕ → Bool → Type 0) → (ℕ → Bool) → Type 0
Computes answers p = (f : ℕ) (r : Bool) → answers f r → r ≡ p f

-- one of these atoms is of the start and passes a test
unfoldable pub denies_any : List ℕ → List Bool → (ℕ → Bool) → Bool
denies_any atoms start p = any (λ f. atom_holds start f && p f) atoms

-- one of these atoms is of the start and reached
unfoldable pub reaches_denied : List ℕ → List Bool → List Bool → Bool
reaches_denied atoms start p = any (λ f. atom_holds start f && atom_holds p f) atoms

-- the marks q and, of the first n atoms, those that the start has
pub record Joined (atoms : List ℕ) (start q joined : List Bool) (n : ℕ) : Type 0 where
  pub sound : (f : ℕ) → T (atom_holds joined f) → T (atom_holds q f) ⊎ T (atom_holds start f)
  pub keeps : (f : ℕ) → T (atom_holds q f) → T (atom_holds joined f)
  pub full : Covered atoms start joined n

-- marks from which the filling from a start may go on: they follow from it, and no fact is marked both ways
pub record Begun (book : List ℕ) (rows : List Row) (rejects : List ℕ) (start p q : List Bool) : Type 0 where
  pub sound : (l : Literal) → T (literal_marked p q l) → FollowsFrom book rows rejects start l
  pub apart : Apart p q

-- Negations that are reached before anything disputed is assumed: they follow from a part of the start of whose facts no rule is
-- rejected.
pub record Early (book : List ℕ) (rows : List Row) (rejects : List ℕ) (start early : List Bool) : Type 0 where
  pub assumed : List Bool
  pub undisputed : Undisputed rejects start assumed
  pub follows : (f : ℕ) → T (atom_holds early f) → FollowsFrom book rows rejects assumed (negative f)

-- The only state that can be stable at a setting: the facts that are reached from all that the setting denies, without a conflict.
pub record OnlyState (book : List ℕ) (rows : List Row) (rejects atoms : List ℕ) (setting : Interpretation) (state early : List Bool) : Type 0 where
  pub masks : RejectedMasks book rows setting rejects (row_count rows)
  pub start : List Bool
  pub denied : Denied atoms setting start
  pub before : Early book rows rejects start early
  pub negations : List Bool
  pub filled : Fills book rows rejects start state negations false
