-- The masks are those of the literals read so far.
use Rattle.setting.specs.RuleMasks.{BodyMasked}
use Rattle.setting.proofs.body_masks.Given as goal

abbrev pub invariant-loop-literal : goal.invariant-loop-literal
invariant-loop-literal l = BodyMasked l.bits l.yielded l.masks
