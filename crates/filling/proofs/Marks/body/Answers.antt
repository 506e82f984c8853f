-- The watched literal decides where it is not marked; else all are tried.
use mathlib.Core.Bool.{not}
use mathlib.Core.Path.{◌∙◌, ap}
use Rattle.std.proofs.Common.{rules, tests}
use Rattle.std.proofs.lemmas.Iterator.Search.{all_from_yields_List}
use Rattle.base.specs.Lists.{all}
use Rattle.format.proofs.Walks.{literals_yielded}
use Rattle.filling.specs.Marks.{literal_marked}
use Rattle.filling.proofs.MarkLaws.{literal_fails}
use Rattle.filling.proofs.Marks.body.Goals as goal

pub returns-then-not-literal : goal.returns-then-not-literal
returns-then-not-literal c =
    literal_fails (literal_marked c.args.self.now.positive.now c.args.self.now.negative.now) c.args.body.now c.args.watch c.if-watch-body.true c.literal.result (c.literal.ensures ∙ ap (literal_marked c.args.self.now.positive.now c.args.self.now.negative.now) c.literal_at.ensures) (ap not c.if-not-literal.true)

pub returns : goal.returns
unfolding all
returns c = all_from_yields_List (literal_marked c.args.self.now.positive.now c.args.self.now.negative.now) c.all.new.self _ _ c.all.ensures.ran (literals_yielded c.args.body) (λ x b q k. search (rules, tests))
