-- The marks passed are kept.
use Rattle.std.proofs.Common.{refl, rules, arith}
use lib.ListN.{length-set}
use Rattle.leaf.proofs.ModelLaws.{copied_more, copied_all}
use Rattle.leaf.proofs.copy_marks.Goals as goal

pub loop-f-init : goal.loop-f-init
loop-f-init c =
    (refl, λ g h. absurd (omega arith))

pub loop-f-preserved : goal.loop-f-preserved
loop-f-preserved c =
    (simp length-set c.loop-f.invariant.0, copied_more c.args.marks.now c.loop-f.kept c.loop-f.f (search rules) c.loop-f.invariant.1)

pub returns : goal.returns
returns c =
    copied_all c.args.marks.now c.loop-f.kept c.loop-f.f (search rules) (search rules) c.loop-f.invariant.1
