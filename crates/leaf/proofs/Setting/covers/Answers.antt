-- None is unmarked.
use Rattle.std.proofs.Common.{not, rules}
use Rattle.models.specs.StableModels.{atom_holds}
use Rattle.leaf.proofs.GoingOnLaws.{covered_none}
use Rattle.leaf.proofs.Setting.covers.Goals as goal

pub returns : goal.returns
returns c = covered_none c.args.self.atoms.now _ c.args.negative.now c.denies_any.result (c.denies_any.ensures (λ f. not (atom_holds c.args.negative.now f)) (λ f r k. search rules))
