-- The header of a book, once its sections are whole. Assumes nothing.
use Rattle.std.specs.Prelude.{◌≡◌, false, List, ℕ}
use Rattle.format.specs.Book.{atom_count, layer_count, rule_section}
use Rattle.format.specs.Sections.{has_broken_section}

-- a book whose sections are whole, and what its header says: facts n, layers L, and where the rule section starts
pub record HeaderOf (s : List ℕ) (atoms layers rules : ℕ) : Type 0 where
  pub whole : has_broken_section s ≡ false
  pub atoms_are : atoms ≡ atom_count s
  pub layers_are : layers ≡ layer_count s
  pub rules_at_lem : rules ≡ rule_section s
