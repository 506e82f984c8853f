-- `has_cycle` meets its contract: the chain tests the numbers below `count`, one after the other.
use mathlib.Core.Path.{refl, ◌∙◌}
use Rattle.std.proofs.Common.{rules, tests}
use Rattle.std.proofs.lemmas.Iterator.{YieldsList-from_range}
use Rattle.std.proofs.lemmas.Iterator.Search.{any_from_yields_List}
use native.Mathlib.Omega.{arith}
use Rattle.layers.specs.Masks.{marked}
use Rattle.layers.proofs.UpToLaws.{any_range}
use Rattle.layers.proofs.has_cycle.Goals as goal

pub returns : goal.returns
returns c =
    any_from_yields_List (λ i. marked c.args.m.now i i) c.any.new.self _ _ c.any.ensures.ran (YieldsList-from_range 0 c.args.count c.args.count refl (omega arith)) (λ x b q k. search (rules, tests))
    ∙ any_range (λ i. marked c.args.m.now i i) c.args.count
