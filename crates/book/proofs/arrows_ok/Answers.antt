-- The chain tests the records, one after the other.
use Rattle.std.proofs.Common.{rules, tests}
use Rattle.std.proofs.lemmas.Iterator.Search.{all_from_yields_List}
use Rattle.base.specs.Lists.{all}
use Rattle.format.proofs.Walks.{records_yielded}
use Rattle.book.specs.Causes.{arrow_ok}
use Rattle.book.proofs.arrows_ok.Goals as goal

pub returns : goal.returns
unfolding all
returns c =
    all_from_yields_List (arrow_ok c.args.layers) c.all.new.self _ _ c.all.ensures.ran (records_yielded c.args.part) (λ x b q k. search (rules, tests))
