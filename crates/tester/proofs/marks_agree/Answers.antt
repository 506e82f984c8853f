-- The chain tests the atoms below `n`, one after the other.
use mathlib.Core.Path.{refl, ap, ◌∙◌}
use lib.ListN.{length}
use Rattle.std.proofs.Common.{rules, tests}
use Rattle.std.proofs.lemmas.Iterator.{YieldsList-from_range}
use Rattle.std.proofs.lemmas.Iterator.Search.{all_from_yields_List}
use native.Mathlib.Omega.{arith}
use Rattle.base.specs.Lists.{all}
use Rattle.layers.proofs.UpToLaws.{up_to_range}
use Rattle.tester.specs.Agreement.{marks_agree}
use Rattle.tester.proofs.marks_agree.Goals as goal

pub returns : goal.returns
unfolding all
returns c =
    all_from_yields_List (marks_agree c.args.positive.now c.args.negative.now c.args.m.now) c.all.new.self _ _ c.all.ensures.ran (YieldsList-from_range 0 (length c.args.m.now) (length c.args.m.now) refl (omega arith)) (λ x b q k. search (rules, tests))
    ∙ ap (all (marks_agree c.args.positive.now c.args.negative.now c.args.m.now)) (up_to_range (length c.args.m.now))
