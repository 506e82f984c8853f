-- One setting of the search: what its stable model is worked out from, and the models that the rules alone have there.
-- Assumes nothing.
use Rattle.std.specs.Prelude.{List, ℕ}
use Rattle.models.specs.StableModels.{Interpretation}
use Rattle.table.specs.Rows.{row_count}
use Rattle.table.specs.Tabled.{tabled}
use Rattle.tester.specs.Masks.{RejectedMasks}
use Rattle.setting.specs.Setting.{setting_of}
use Rattle.leaf.specs.Found.{at_setting}
use Rattle.leaf.specs.Searchable.{Searchable}
use Rattle.leaf.specs.declared.Leaf.{Leaf}

-- the table and its branching facts over n facts can be searched, and the masks are of what the setting rejects
pub record LeafReady (leaf : Leaf) (n : ℕ) : Type 0 where
  pub table : Searchable leaf.rules.table.book.now leaf.rules.table.rows.now leaf.setting.atoms.now n
  pub masks : RejectedMasks leaf.rules.table.book.now leaf.rules.table.rows.now (setting_of leaf.setting.atoms.now leaf.setting.standing) leaf.rules.rejects.now (row_count leaf.rules.table.rows.now)

-- the stable models of the setting: there is at most one
abbrev pub leaf_models : Leaf → ℕ → List Interpretation
leaf_models leaf n = at_setting (tabled leaf.rules.table.book.now leaf.rules.table.rows.now n) leaf.setting.atoms.now (setting_of leaf.setting.atoms.now leaf.setting.standing)
