-- The table of the layer, its constraints and the branching facts, and the plan of them (SetUpLaws).
use Rattle.std.proofs.Common.{rules}
use Rattle.passes.proofs.SetUpLaws.{tabulates, listed, refused, listed_low, not_too_many, plan_ready, plan_alike}
use Rattle.passes.proofs.set_up.Goals as goal

pub branching_atoms-g-requires-clause-tabulates : goal.branching_atoms-g-requires-clause-tabulates
branching_atoms-g-requires-clause-tabulates c =
    tabulates c.args.driving.now _ c.prepare.ensures.front c.atom_count-n.result c.atom_count-n.ensures.0

pub make_plan-requires-clause-facts_low : goal.make_plan-requires-clause-facts_low
make_plan-requires-clause-facts_low c =
    let few = listed c.args.driving.now _ c.prepare.ensures.front c.atom_count-n.result c.atom_count-n.ensures.0 c.branching_atoms-g.ensures c.if-g-gt-MAX_BRANCHING.false in
    listed_low c.args.driving.now _ c.prepare.ensures.front c.atom_count-n.result c.atom_count-n.ensures.0 few c.atom_count-n.ensures.2

pub returns : goal.returns
returns c =
    let table = c.prepare.ensures.front in
    let l = listed c.args.driving.now _ table c.atom_count-n.result c.atom_count-n.ensures.0 c.branching_atoms-g.ensures c.if-g-gt-MAX_BRANCHING.false in
    record {
      rows_room = c.prepare.ensures.room;
      bans_room = c.prepare_bans.ensures.room;
      ready = plan_ready c.args.driving.now _ table c.atom_count-n.result c.atom_count-n.ensures.0 l c.make_plan.new.plan c.make_plan.ensures.facts _ c.make_plan.ensures.planned c.atom_count-n.ensures.1 c.atom_count-n.ensures.2;
      alike = plan_alike c.args.driving.now _ table c.atom_count-n.result c.atom_count-n.ensures.0 l c.make_plan.new.plan c.make_plan.ensures.facts _ c.prepare_bans.ensures.front;
      few = not_too_many c.args.driving.now _ table c.atom_count-n.result c.atom_count-n.ensures.0 l;
    }

pub returns-then-g-gt-MAX_BRANCHING : goal.returns-then-g-gt-MAX_BRANCHING
returns-then-g-gt-MAX_BRANCHING c =
    let many = refused c.args.driving.now _ c.prepare.ensures.front c.atom_count-n.result c.atom_count-n.ensures.0 c.branching_atoms-g.ensures c.if-g-gt-MAX_BRANCHING.true in
    search (rules, many)
