-- The chain tests one nogood after the other.
use Rattle.std.proofs.Common.{rules, tests}
use Rattle.std.proofs.lemmas.Iterator.{cases_from_any, YieldsList-from_slice}
use Rattle.nogoods.specs.Nogoods.{IsDecided}
use Rattle.nogoods.proofs.NogoodLaws.{violated}
use Rattle.nogoods.proofs.has_nogood.Goals as goal

pub returns : goal.returns
returns c =
    violated c.any.result
    (cases_from_any _ _ _ (λ n. IsDecided n c.args.standing c.args.denied) (λ n. Unit {0}) c.any.ensures.ran (YieldsList-from_slice c.args.nogoods.now cc) (λ x q k. search (rules, tests)) (λ x q k. search (rules, tests)))
