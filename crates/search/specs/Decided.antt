-- How far the recursion is: the atoms that are left to decide, and those decided, as masks. Assumes nothing.
use Rattle.std.specs.Prelude.{◌≡◌, Bool, true, false, not, ℕ, ◌-◌, ◌^◌, ◌<◌, ◌≤◌, T, length, get_or, drop, bit_or}
use mathlib.Core.List.{List, Memᴰ}
use Rattle.base.specs.Bounds.{max_atoms}
use Rattle.layers.specs.Masks.{bit_of}
use Rattle.models.specs.StableModels.{Interpretation, atom_holds}
use Rattle.setting.specs.Setting.{setting_of}
use Rattle.search.specs.declared.Turn.{Turn}

-- the i-th atom is decided
abbrev pub DecidedAt : List ℕ → List ℕ → ℕ → Type 0
DecidedAt atoms undecided i = (i < length atoms) × (Memᴰ (get_or atoms i 0) undecided → ⊥)

-- The undecided atoms are the last ones. A bit of `standing` is one of a decided atom that stands in the setting o, a bit of `denied`
-- one of a decided atom that does not.
pub record Decided (atoms undecided : List ℕ) (o : Interpretation) (standing denied : ℕ) : Type 0 where
  pub size : length o ≡ max_atoms
  pub few : length undecided ≤ length atoms
  pub last : undecided ≡ drop (length atoms - length undecided) atoms
  pub standing_in : (i : ℕ) → bit_of standing i ≡ 1 → DecidedAt atoms undecided i × T (atom_holds o (get_or atoms i 0))
  pub denied_in : (i : ℕ) → bit_of denied i ≡ 1 → DecidedAt atoms undecided i × T (not (atom_holds o (get_or atoms i 0)))

-- the last `left` atoms, which are not decided yet
abbrev pub undecided : List ℕ → ℕ → List ℕ
undecided atoms left = drop (length atoms - left) atoms

-- one fact fewer is left: the i-th is decided to stand, or not to
abbrev pub decided_turn : Turn → ℕ → Bool → Turn
decided_turn turn i true = record turn { left = turn.left - 1; standing = bit_or turn.standing (2 ^ i) }
decided_turn turn i false = record turn { left = turn.left - 1; denied = bit_or turn.denied (2 ^ i) }

-- how far the recursion is: so many atoms are left, and the masks have the others as the setting of `standing` decides them
pub record Turned (atoms : List ℕ) (turn : Turn) : Type 0 where
  pub few : turn.left ≤ length atoms
  pub decided : Decided atoms (undecided atoms turn.left) (setting_of atoms turn.standing) turn.standing turn.denied
