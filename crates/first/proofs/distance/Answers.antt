-- The distance over the facts passed so far is counted.
use Rattle.std.proofs.Common.{arith}
use Rattle.models.specs.StableModels.{atom_holds}
use Rattle.first.proofs.ApartLaws.{distance_none, distance_le, distance-more, distance-same}
use Rattle.first.proofs.distance.Goals as goal
use Rattle.first.proofs.distance.Goals.{then-w-m, else-w-m}

pub loop-f-init : goal.loop-f-init
loop-f-init c = distance_none c.args.wanted.now c.args.m.now

pub overflow_add-d : goal.overflow_add-d
overflow_add-d c =
    omega (arith, c.requires.0, c.requires.1, c.loop-f.invariant, distance_le c.args.wanted.now c.args.m.now c.loop-f.f)

pub loop-f-preserved : goal.loop-f-preserved
unfolding atom_holds
loop-f-preserved c =
    elim c.if-w-m.branch [
      | then-w-m w ↦ rw w.d-is (distance-more c.args.wanted.now c.args.m.now c.loop-f.d c.loop-f.f c.loop-f.invariant w.if-w-m.true)
      | else-w-m w ↦ rw w.d-is (distance-same c.args.wanted.now c.args.m.now c.loop-f.d c.loop-f.f c.loop-f.invariant w.if-w-m.false)
    ]
