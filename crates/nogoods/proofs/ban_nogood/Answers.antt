-- The masks are those of the constraint's body.
use borrow.Author.Tests.{not-false}
use Rattle.nogoods.proofs.NogoodLaws.{ban_within}
use Rattle.nogoods.proofs.ban_nogood.Goals as goal

pub returns : goal.returns
returns c =
    ban_within c.args.book.now c.args.bits.now c.args.ban _ c.span_bytes.ensures c.body_masks-body.ensures (not-false _ c.if-not-body.false)
