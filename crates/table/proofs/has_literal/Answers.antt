-- The chain compares the literals of the body's bytes, one after the other.
use Rattle.std.proofs.Common.{rules, tests}
use Rattle.std.proofs.lemmas.Iterator.Search.{any_from_yields_List}
use Rattle.base.specs.Lists.{any}
use Rattle.format.proofs.Walks.{literals_yielded}
use Rattle.models.specs.StableModels.{same_literal}
use Rattle.table.proofs.has_literal.Goals as goal

pub returns : goal.returns
unfolding any same_literal
returns c = any_from_yields_List (same_literal c.args.l) c.any.new.self _ _ c.any.ensures.ran (literals_yielded c.args.body) (λ x b q k. search (rules, tests))
