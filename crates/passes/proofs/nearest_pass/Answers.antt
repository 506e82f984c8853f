-- The search from no fact decided, with nothing in hand (FirstLaws).
use Rattle.std.proofs.Common.{rules}
use Rattle.tester.proofs.TestLaws.{room_for}
use Rattle.search.proofs.ReadyLaws.{space_searchable}
use Rattle.first.proofs.SureLaws.{sure_barred}
use Rattle.passes.proofs.PassLaws.{start_turned}
use Rattle.passes.proofs.FirstLaws.{nearest_told, start_apart}
use Rattle.passes.proofs.nearest_pass.Goals as goal

pub sure_facts-requires : goal.sure_facts-requires
sure_facts-requires c =
    let w = space_searchable c.args.space.now in
    room_for w.table w.formed w.size w.few _ _ c.requires.sure_len.0 (search rules)

pub search_first-requires-clause-turned : goal.search_first-requires-clause-turned
search_first-requires-clause-turned c = start_turned c.args.space.now c.start.ensures

pub search_first-requires-clause-sure : goal.search_first-requires-clause-sure
search_first-requires-clause-sure c = sure_barred (space_searchable c.args.space.now) c.args.space.now.bans.spans.now (search rules) c.sure_facts.ensures

pub search_first-requires-clause-apart : goal.search_first-requires-clause-apart
search_first-requires-clause-apart c = start_apart c.args.space.now c.start.ensures c.args.wanted.now c.requires.sure_len.1

pub returns : goal.returns
returns c = nearest_told c.args.space.now c.start.ensures c.search_first.ensures
