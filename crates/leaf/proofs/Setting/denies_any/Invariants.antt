-- The facts left decide, whatever the test computes.
use Rattle.std.proofs.Common.{ℕ, Bool}
use Rattle.leaf.specs.Searchable.{denied_of, Computes}
use Rattle.leaf.proofs.GoingOnLaws.{DenyFrom}
use Rattle.leaf.proofs.Setting.denies_any.Given as goal

abbrev pub invariant-loop-i : goal.invariant-loop-i
invariant-loop-i g l = (p : ℕ → Bool) → Computes (goal.F-post g l.test) p → DenyFrom l.self.atoms.now (denied_of l.self.atoms.now l.self.standing) p l.i
