-- The masks have exactly what the entries passed reject at the setting.
use Rattle.std.proofs.Common.{take}
use Rattle.rejecting.specs.Rejecting.{RejectsAt}
use Rattle.rejecting.proofs.reject_at.Given as goal

abbrev pub invariant-loop-row : goal.invariant-loop-row
invariant-loop-row l = RejectsAt (take l.row-index l.rejecting) l.standing l.rejects
