-- The body's masks with the head's bit in the mask of the opposite sign.
use borrow.Author.Tests.{not-false}
use Rattle.nogoods.proofs.NogoodLaws.{nogood_plain, nogood_negated}
use Rattle.nogoods.proofs.row_nogood.Goals as goal

pub returns-then-head : goal.returns-then-head
returns-then-head c =
    nogood_negated c.args.row.table.book.now c.args.row.table.rows.now c.args.rejectable.now c.args.bits.now c.args.row.j c.args.row.inside c.requires (not-false _ c.if-not-body.false) c.alive.result c.alive.ensures c.if-not-alive.false c.head.result c.head.ensures.0 c.literal_named-head.result c.literal_named-head.ensures _ c.in_ok-bit.ensures c.if-head.true

pub returns : goal.returns
returns c =
    nogood_plain c.args.row.table.book.now c.args.row.table.rows.now c.args.rejectable.now c.args.bits.now c.args.row.j c.args.row.inside c.requires (not-false _ c.if-not-body.false) c.alive.result c.alive.ensures c.if-not-alive.false c.head.result c.head.ensures.0 c.literal_named-head.result c.literal_named-head.ensures _ c.in_ok-bit.ensures c.if-head.false
