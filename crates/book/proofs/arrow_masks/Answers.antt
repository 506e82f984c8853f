-- Two equal arrows are met where the bit is there already.
use Rattle.book.proofs.MaskLaws.{next_walked}
use Rattle.book.proofs.arrow_masks.Goals as goal

pub loop-rec-preserved : goal.loop-rec-preserved
loop-rec-preserved c =
    next_walked c.loop-rec.invariant _ _ c.in-Some.ensures.steps _ _ c.from-i.ensures c.from-j.ensures c.bit_of.result c.bit_of.ensures c.if-bit_of.false _ c.set_bit.ensures
