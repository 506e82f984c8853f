-- A whole section has room for its fields. Assumes nothing.
use Rattle.std.proofs.Common.{sym, ◌∙◌, arith}
use Rattle.format.proofs.SectionLaws.{section_inside}
use Rattle.format.proofs.broken_section.Goals as goal

pub be32-second-requires : goal.be32-second-requires
be32-second-requires c = omega (arith, section_inside c.args.book.now 8 (sym c.whole_section.ensures ∙ c.if-not-whole_section.false))

pub be32-requires : goal.be32-requires
be32-requires c = omega (arith, section_inside c.args.book.now _ (sym c.whole_section-2.ensures ∙ c.if-not-whole_section-2.false))
