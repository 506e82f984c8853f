-- Assumes nothing.
use Rattle.std.proofs.Common.{rules, tests, refl, ◌∙◌, ◌*◌, arith}
use Rattle.std.proofs.lemmas.Iterator.{YieldsList-from_range}
use Rattle.std.proofs.lemmas.Iterator.Search.{any_from_yields_List}
use Rattle.models.specs.Listing.{bit_at}
use Rattle.candidate.proofs.ReadLaws.{spares_decide}
use Rattle.candidate.proofs.bad_candidate.Goals as goal

pub returns-else-candidate-w : goal.returns-else-candidate-w
returns-else-candidate-w c =
    any_from_yields_List (bit_at c.args.candidate.now) c.any.new.self _ _ c.any.ensures.ran (YieldsList-from_range c.args.n (8 * c.record_size-w.result) _ refl refl) (λ x b q k. search (rules, tests))
    ∙ spares_decide c.args.n c.record_size-w.result c.args.candidate.now c.record_size-w.ensures.0 (omega arith)
