-- The answer is that of the bytes from j on, and each turn takes their first bytes away or ends on them.
use Rattle.std.proofs.Common.{length, arith}
use Rattle.first.proofs.PrecedesLaws.{size_few, at_end, decides_here, goes_on}
use Rattle.first.proofs.precedes.Goals as goal

pub overflow_mul-j : goal.overflow_mul-j
overflow_mul-j c =
    omega (arith, c.requires.0, c.requires.1, c.loop-j-test.true, size_few (length c.args.m.now))

pub record_byte-byte-requires : goal.record_byte-byte-requires
record_byte-byte-requires c =
    omega (arith, c.requires.0, c.requires.1, c.loop-j-test.true, size_few (length c.args.m.now))

pub returns-then-mine-byte : goal.returns-then-mine-byte
returns-then-mine-byte c =
    decides_here (length c.args.m.now) c.args.m.now c.args.part.now c.requires.1 c.loop-j.j c.loop-j-test.true c.record_byte-byte.result c.record_byte-byte.ensures c.loop-j.invariant c.if-mine-byte.true

pub loop-j-preserved : goal.loop-j-preserved
loop-j-preserved c =
    goes_on (length c.args.m.now) c.args.m.now c.args.part.now c.requires.1 c.loop-j.j c.loop-j-test.true c.record_byte-byte.result c.record_byte-byte.ensures c.loop-j.invariant c.if-mine-byte.false

pub returns : goal.returns
returns c =
    at_end (length c.args.m.now) c.args.m.now c.args.part.now c.requires.1 c.loop-j.j c.loop-j-test.false c.loop-j.invariant
