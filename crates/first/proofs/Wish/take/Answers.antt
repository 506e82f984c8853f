-- The state met leaves the one in hand (`takes_later`) or takes its place (`takes_first`, `takes_new`).
use Rattle.std.proofs.Common.{rules, refl, ◌≡◌, length}
use Rattle.models.specs.Listing.{record_of}
use Rattle.first.proofs.InHandLaws.{takes_later, takes_first, takes_new, record_put}
use Rattle.first.proofs.Wish.take.Goals as goal
use Rattle.first.proofs.Wish.take.Goals.{in_default-via-in-None-1, in_default-via-in-Some+else-stays}

pub returns : goal.returns
returns c =
    takes_later c.args.met.atoms.now c.args.self.now.sure.now c.args.self.now.wanted.now _ c.args.met.state.now c.args.part.now c.distance-d.result c.distance-d.ensures c.in-Some.is c.stays.result c.stays.ensures c.if-stays.true

pub returns-2 : goal.returns-2
returns-2 c =
    let e : c.put_state.new.part ≡ record_of (length c.args.met.state.now) c.args.met.state.now = record_put _ _ _ _ c.requires.part_len c.put_state.ensures in
    elim c.in_default.branch [
      | in_default-via-in-Some+else-stays w ↦ takes_first c.args.met.atoms.now c.args.self.now.sure.now c.args.self.now.wanted.now _ c.args.met.state.now c.args.part.now c.distance-d.result c.distance-d.ensures _ c.outline.ensures refl _ e w.in-Some.is w.stays.result w.stays.ensures w.if-stays.false
      | in_default-via-in-None-1 w ↦ takes_new c.args.met.atoms.now c.args.self.now.sure.now c.args.self.now.wanted.now _ c.args.met.state.now c.args.part.now c.distance-d.result c.distance-d.ensures _ c.outline.ensures refl _ e c.args.held (search rules)
    ]
