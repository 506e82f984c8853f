-- The turns so far give the closure through the layers passed; with all of them passed it is whole.
use Rattle.layers.proofs.WarshallLaws.{turn_hit, turn_miss, turns_more, full}
use borrow.Author.Rules.{rules}
use Rattle.layers.proofs.transitive_closure.Goals as goal
use Rattle.layers.proofs.transitive_closure.Goals.{then-bit_of, else-bit_of}

pub loop-i-preserved : goal.loop-i-preserved
loop-i-preserved c =
    elim c.if-bit_of.branch [
      | then-bit_of w ↦ rw w.m-is (turn_hit c.loop-k.m c.loop-i.m c.loop-k.k c.loop-i.i c.loop-i.invariant (search rules) c.bit_of.result c.bit_of.ensures w.if-bit_of.true)
      | else-bit_of w ↦ rw w.m-is (turn_miss c.loop-k.m c.loop-i.m c.loop-k.k c.loop-i.i c.loop-i.invariant c.bit_of.result c.bit_of.ensures w.if-bit_of.false)
    ]

pub loop-k-preserved : goal.loop-k-preserved
loop-k-preserved c =
    turns_more c.args.start c.args.count c.requires.0 c.requires.1 c.loop-k.m c.loop-i.m c.loop-k.k c.loop-i.i c.loop-k.invariant (search rules) c.loop-i.invariant (search rules)

pub returns-clause-full : goal.returns-clause-full
returns-clause-full c =
    full c.args.start c.args.count c.requires.0 c.requires.1 c.loop-k.m c.loop-k.k c.loop-k.invariant (search rules)
