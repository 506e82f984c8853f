-- The measure is three times the bytes left, and how many levels stand below: a call goes a level down or passes a byte.
-- The loops: the operands so far are a condition, and its code is written.
use Prim.Native.Nat.{◌+◌, ◌*◌}
use lib.ListN.{length}
use Rattle.grammar.specs.Reader.{disjunction, conjunction}
use Rattle.condition.proofs.ReaderLaws.{Operands}
use Rattle.condition.proofs.Reader.+or_and_bracket.Given as goal

abbrev pub decreases-or_level : goal.decreases-or_level
decreases-or_level l = 3 * length l.self.now.rest.now + 2

abbrev pub decreases-and_level : goal.decreases-and_level
decreases-and_level l = 3 * length l.self.now.rest.now + 1

abbrev pub decreases-bracket_level : goal.decreases-bracket_level
decreases-bracket_level l = 3 * length l.self.now.rest.now

abbrev pub invariant-or_level-loop-self : goal.invariant-or_level-loop-self
invariant-or_level-loop-self l = Operands disjunction l.fn.self l.self

abbrev pub decreases-or_level-loop-self : goal.decreases-or_level-loop-self
decreases-or_level-loop-self l = length l.self.rest.now

abbrev pub invariant-and_level-loop-self : goal.invariant-and_level-loop-self
invariant-and_level-loop-self l = Operands conjunction l.fn.self l.self

abbrev pub decreases-and_level-loop-self : goal.decreases-and_level-loop-self
decreases-and_level-loop-self l = length l.self.rest.now
