-- Of the facts passed those are marked that the setting denies and of which no rule is rejected.
use Rattle.leaf.specs.Searchable.{denied_of, Undisputed}
use Rattle.leaf.proofs.Setting.assume.Given as goal

abbrev pub invariant-loop-i : goal.invariant-loop-i
invariant-loop-i l = Undisputed l.rejects (denied_of l.self.atoms.now l.self.standing) l.negative
