-- The chain tests the literals of the body's bytes, one after the other.
use Rattle.std.proofs.Common.{rules, tests}
use Rattle.std.proofs.lemmas.Iterator.Search.{all_from_yields_List}
use Rattle.base.specs.Lists.{all}
use Rattle.format.proofs.Walks.{literals_yielded}
use Rattle.models.specs.StableModels.{holds}
use Rattle.table.proofs.body_holds.Goals as goal

pub returns : goal.returns
unfolding all
returns c = all_from_yields_List (holds c.args.m.now) c.all.new.self _ _ c.all.ensures.ran (literals_yielded c.args.body) (λ x b q k. search (rules, tests))
