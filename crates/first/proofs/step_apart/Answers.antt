-- One fact is compared, where the wanted state has it.
use Rattle.std.proofs.Common.{◌∙◌}
use borrow.Author.Tests.{lt-ltb, le-ltb}
use Rattle.models.specs.StableModels.{atom_holds}
use Rattle.first.proofs.ApartLaws.{bit_byte}
use Rattle.first.proofs.step_apart.Goals as goal
use Rattle.first.proofs.step_apart.Goals.{then-f-wanted, else-f-wanted}

pub returns : goal.returns
unfolding atom_holds
returns c =
    c.from.ensures ∙ elim c.if-f-wanted.branch [
      | then-f-wanted w ↦ rw (w.from-is, lt-ltb _ _ w.if-f-wanted.true) (bit_byte _)
      | else-f-wanted w ↦ rw (w.from-is, le-ltb _ _ w.if-f-wanted.false) (bit_byte _)
    ]
