-- What an interpretation does to the rows: which are rejected, as masks of layers at each name, which atoms are supported, and
-- which rows are violated. Assumes nothing.
use Rattle.table.specs.declared.Row.{Row}
use Rattle.std.specs.Prelude.{◌≡◌, Bool, true, false, not, List, ℕ, ◌<◌, ◌≤◌, T, length, get_or}
use Rattle.base.specs.Bounds.{max_atoms, max_names}
use Rattle.layers.specs.Masks.{bit_of}
use Rattle.models.specs.StableModels.{Interpretation, atom_holds, positive, complement, holds, body_holds}
use Rattle.table.specs.Names.{literal_named}
use Rattle.table.specs.Rows.{row_at, overridden, alive}

-- a row before n whose body holds, whose head is opposite to name h, and which overrides rules of layer i
pub record Rejection (book : List ℕ) (rows : List Row) (m : Interpretation) (n h i : ℕ) : Type 0 where
  pub row : ℕ
  pub before : row < n
  pub facing : literal_named h ≡ complement (row_at book rows row).head
  pub holds_in : T (body_holds m (row_at book rows row))
  pub bit : bit_of (overridden rows row) i ≡ 1

-- bit i at name h: a row before n rejects the rules of layer i with that head
pub record RejectedMasks (book : List ℕ) (rows : List Row) (m : Interpretation) (rejects : List ℕ) (n : ℕ) : Type 0 where
  pub size : length rejects ≡ max_names
  pub sound : (h i : ℕ) → bit_of (get_or rejects h 0) i ≡ 1 → Rejection book rows m n h i
  pub full : (h i : ℕ) → Rejection book rows m n h i → h < max_names → bit_of (get_or rejects h 0) i ≡ 1

-- a row before n whose body holds, with atom f as its plain head
pub record Support (book : List ℕ) (rows : List Row) (m : Interpretation) (n f : ℕ) : Type 0 where
  pub row : ℕ
  pub before : row < n
  pub head_is : (row_at book rows row).head ≡ positive f
  pub holds_in : T (body_holds m (row_at book rows row))

-- the atoms that a row before n supports, as far as there is a place for them; rejected rows count
pub record Supported (book : List ℕ) (rows : List Row) (m : Interpretation) (atoms : List Bool) (n : ℕ) : Type 0 where
  pub few : length atoms ≤ max_atoms
  pub sound : (f : ℕ) → T (atom_holds atoms f) → Support book rows m n f
  pub full : (f : ℕ) → Support book rows m n f → f < length atoms → T (atom_holds atoms f)

-- a row before n that is alive and whose body holds, but not its head
pub record Violation (book : List ℕ) (rows : List Row) (rejects : List ℕ) (m : Interpretation) (n : ℕ) : Type 0 where
  pub row : ℕ
  pub before : row < n
  pub lives : T (alive rejects (row_at book rows row))
  pub holds_in : T (body_holds m (row_at book rows row))
  pub fails_in : T (not (holds m (row_at book rows row).head))

-- one pass over the rows: the supported atoms, or a violated row
pub record Supports (book : List ℕ) (rows : List Row) (rejects : List ℕ) (m : Interpretation) (atoms : List Bool) (violated : Bool) (n : ℕ) : Type 0 where
  pub support : violated ≡ false → Supported book rows m atoms n
  pub violation : violated ≡ true → Violation book rows rejects m n

-- the atoms below n that are not among these
pub record Others (atoms others : List Bool) (n : ℕ) : Type 0 where
  pub sound : (f : ℕ) → T (atom_holds others f) → (f < n) × T (not (atom_holds atoms f))
  pub full : (f : ℕ) → f < n → T (not (atom_holds atoms f)) → T (atom_holds others f)
