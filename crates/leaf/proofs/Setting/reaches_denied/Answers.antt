-- The test is whether a fact is reached.
use Rattle.std.proofs.Common.{rules}
use Rattle.models.specs.StableModels.{atom_holds}
use Rattle.leaf.specs.Searchable.{denies_any, reaches_denied}
use Rattle.leaf.proofs.Setting.reaches_denied.Goals as goal

pub returns : goal.returns
unfolding reaches_denied denies_any
returns c = c.denies_any.ensures (atom_holds c.args.positive.now) (λ f r k. search rules)
