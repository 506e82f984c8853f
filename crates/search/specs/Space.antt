-- What a search goes through: a table of rules, constraints and a plan of both, the program that these stand for, and its models, at one
-- setting and at all settings that a turn leaves. Assumes nothing.
use Rattle.std.specs.Prelude.{List, ℕ}
use Rattle.models.specs.Program.{Program}
use Rattle.models.specs.StableModels.{Interpretation}
use Rattle.bans.specs.Bans.{barred}
use Rattle.setting.specs.Setting.{setting_of}
use Rattle.leaf.specs.Found.{at_setting, found_by}
use Rattle.search.specs.declared.space.Space.{Space}
use Rattle.search.specs.declared.Turn.{Turn}
use Rattle.search.specs.Decided.{undecided}

-- the branching facts
abbrev pub space_atoms : Space → List ℕ
space_atoms s = s.plan.now.atoms

-- the program that the table and the constraints stand for
abbrev pub space_program : Space → Program
space_program s = barred s.table.book.now s.table.rows.now s.bans.spans.now s.plan.now.n

-- the stable models of the setting of a mask: there is at most one
abbrev pub models_at : Space → ℕ → List Interpretation
models_at s standing = at_setting (space_program s) (space_atoms s) (setting_of (space_atoms s) standing)

-- the stable models of all settings that a turn leaves
abbrev pub models_left : Space → Turn → List Interpretation
models_left s turn = found_by (at_setting (space_program s) (space_atoms s)) (undecided (space_atoms s) turn.left) (setting_of (space_atoms s) turn.standing)
