-- The row adds its head and the opposite is marked, or a mark more stands in one of the two arrays.
use Rattle.filling.proofs.TryingLaws.{tried_clash, tried_low, tried_high}
use Rattle.filling.proofs.RuleRow.add_head.Goals as goal

pub returns-then-name : goal.returns-then-name
returns-then-name c =
    tried_clash c.requires c.args.self.now.row.j c.args.self.now.row.inside c.if-not-adds.ensures c.head-h.result c.head-h.ensures.0 c.opposite.result c.opposite.ensures.0 _ c.head-h.ensures.1 c.if-name.ensures

pub returns-then-h-lt-MAX_ATOMS : goal.returns-then-h-lt-MAX_ATOMS
returns-then-h-lt-MAX_ATOMS c =
    tried_low c.requires c.args.self.now.row.j c.args.self.now.row.inside c.if-not-adds.ensures c.head-h.result c.head-h.ensures.0 c.opposite.result c.opposite.ensures.0 c.if-name.ensures c.if-h-lt-MAX_ATOMS.true

pub returns-else-h-lt-MAX_ATOMS : goal.returns-else-h-lt-MAX_ATOMS
returns-else-h-lt-MAX_ATOMS c =
    tried_high c.requires c.args.self.now.row.j c.args.self.now.row.inside c.if-not-adds.ensures c.head-h.result c.head-h.ensures.0 c.opposite.result c.opposite.ensures.0 c.if-name.ensures c.if-h-lt-MAX_ATOMS.false
