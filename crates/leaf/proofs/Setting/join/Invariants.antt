-- Of the facts passed, those that the setting denies are marked.
use Rattle.leaf.specs.Searchable.{denied_of, Joined}
use Rattle.leaf.proofs.Setting.join.Given as goal

abbrev pub invariant-loop-i : goal.invariant-loop-i
invariant-loop-i l = Joined l.self.atoms.now (denied_of l.self.atoms.now l.self.standing) l.initial.negative l.negative l.i
