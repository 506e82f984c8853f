-- The chain tests the bodies, one after the other. Each lies in the book, as the closure asks.
use mathlib.Core.Path.{◌∙◌}
use Rattle.std.proofs.Common.{rules, tests}
use Rattle.std.proofs.lemmas.Iterator.{YieldsList-from_slice}
use Rattle.std.proofs.lemmas.Iterator.Adapters.{serves_from_places}
use Rattle.std.proofs.lemmas.Iterator.Search.{any_from_yields_List}
use Rattle.base.specs.Lists.{all}
use Rattle.format.specs.Book.{literals_of}
use Rattle.models.specs.StableModels.{holds}
use Rattle.table.specs.Rows.{span_bytes}
use Rattle.bans.proofs.BanLaws.{ban_fits, any_body}
use Rattle.bans.proofs.banned.Goals as goal

pub any-requires-clause-callable : goal.any-requires-clause-callable
any-requires-clause-callable c =
    let fits = ban_fits c.args.book.now c.args.spans.now c.requires in
    serves_from_places (YieldsList-from_slice c.args.spans.now (search rules)) (λ x q r. search rules) (λ x k h e _ _ _ _ _ _ _ _ _. fits x.now k h e)

pub returns : goal.returns
returns c =
    any_from_yields_List (λ ban. all (holds c.args.m.now) (literals_of (span_bytes c.args.book.now ban))) c.any.new.self _ _ c.any.ensures.ran (YieldsList-from_slice c.args.spans.now (search rules)) (λ x b q k. search (rules, tests))
    ∙ any_body (all (holds c.args.m.now)) c.args.book.now c.args.spans.now
