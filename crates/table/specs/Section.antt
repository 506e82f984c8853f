-- The records of the rules' section, one after the other. Assumes nothing.
use Rattle.std.specs.Prelude.{◌≡◌, [], ◌∷◌, Option, Some, None}
use Rattle.table.specs.declared.section.RuleRecord.{RuleRecord}
use Rattle.table.specs.declared.section.RuleSection.{RuleSection}
use Rattle.table.specs.Records.{rule_at, rules_from}

-- the next record of a section, and what is left of it
abbrev pub GivesRecord : RuleSection → Option RuleRecord → RuleSection → Type 0
GivesRecord s None t = rules_from s.book.now s.first ≡ []
GivesRecord s (Some r) t = (r.book ≡ s.book) × (t.book ≡ s.book) × (rules_from s.book.now s.first ≡ rule_at s.book.now r.at ∷ rules_from s.book.now t.first)
