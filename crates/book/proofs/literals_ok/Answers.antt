-- The chain tests the literals, one after the other.
use Rattle.std.proofs.Common.{rules, tests}
use Rattle.std.proofs.lemmas.Iterator.Search.{all_from_yields_List}
use Rattle.base.specs.Lists.{all}
use Rattle.format.proofs.Walks.{literals_yielded}
use Rattle.book.specs.Causes.{atom_below}
use Rattle.book.proofs.literals_ok.Goals as goal

pub returns : goal.returns
unfolding all
returns c =
    all_from_yields_List (atom_below c.args.atoms) c.all.new.self _ _ c.all.ensures.ran (literals_yielded c.args.literals) (λ x b q k. search (rules, tests))
