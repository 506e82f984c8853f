-- What the masks and the arrows not yet walked have together stays the same.
use Rattle.book.proofs.MaskLaws.{Walked}
use Rattle.book.proofs.arrow_masks.Given as goal

abbrev pub invariant-loop-rec : goal.invariant-loop-rec
invariant-loop-rec l = Walked l.part l.rec-iterator.0.now l.m
