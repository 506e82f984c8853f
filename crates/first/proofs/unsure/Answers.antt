-- A fact that stands is looked up among those that are sure.
use Rattle.std.proofs.Common.{subst}
use lib.Dec.{T}
use Rattle.first.proofs.OutlineLaws.{not_unsure}
use Rattle.models.specs.StableModels.{atom_holds}
use Rattle.first.proofs.unsure.Goals as goal

pub returns-then-m-f : goal.returns-then-m-f
unfolding atom_holds
returns-then-m-f c =
    λ e t. not_unsure (atom_holds c.args.sure.now c.args.f) e

pub returns-else-m-f : goal.returns-else-m-f
unfolding atom_holds
returns-else-m-f c =
    λ e t. absurd (subst T e t)
