-- No row has been passed, and nothing is rejected.
use Rattle.tester.proofs.MaskLaws.{rejects_start}
use Rattle.tester.proofs.reject.Goals as goal

pub loop-j-init : goal.loop-j-init
loop-j-init c =
    rejects_start _ c.requires
