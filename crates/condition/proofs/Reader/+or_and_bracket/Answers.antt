-- The readers meet their contracts (ReaderLaws).
use Rattle.grammar.specs.Reader.{bracket, disjunction, conjunction}
use Rattle.condition.proofs.ReaderLaws.{outcome_from, operands_end, operands_none, shut_or_none}
use Rattle.condition.proofs.Reader.+or_and_bracket.Goals as goal

pub or_level-returns-in_err-and_level-2 : goal.or_level-returns-in_err-and_level-2
or_level-returns-in_err-and_level-2 t c =
    rw c.from_residual-in_err-and_level-2.ensures (operands_none disjunction c.args.self.now c.loop-self.self c.passes.new.self c.loop-self.invariant c.loop-self-test.ensures c.in_err-and_level-2.ensures)

pub or_level-returns : goal.or_level-returns
or_level-returns t c =
    operands_end disjunction c.loop-self.invariant c.loop-self-test.ensures

pub and_level-returns-in_err-bracket_level-2 : goal.and_level-returns-in_err-bracket_level-2
and_level-returns-in_err-bracket_level-2 t c =
    rw c.from_residual-in_err-bracket_level-2.ensures (operands_none conjunction c.args.self.now c.loop-self.self c.passes.new.self c.loop-self.invariant c.loop-self-test.ensures c.in_err-bracket_level-2.ensures)

pub and_level-returns : goal.and_level-returns
and_level-returns t c =
    operands_end conjunction c.loop-self.invariant c.loop-self-test.ensures

pub bracket_level-returns-then-passes-2 : goal.bracket_level-returns-then-passes-2
bracket_level-returns-then-passes-2 t c =
    rw c.then_some.ensures (outcome_from bracket c.passes-then-passes-2.new.self _ c.if-passes.ensures.0
    (shut_or_none c.passes.new.self c.passes-2.new.self c.or_level.new.self c.passes-then-passes-2.new.self c.passes-then-passes-2.result c.if-passes-2.ensures c.in_ok-or_level.ensures c.passes-then-passes-2.ensures))
