-- The state is the only one that can be stable at the setting. It is not where it does not agree with it, it is where it does and no
-- rejected rule is contested, and else the test decides: the setting rejects what the state does.
use Rattle.std.proofs.Common.{refl, sym, ap, ◌∙◌, Bool, not, []}
use Rattle.base.specs.Lists.{cons_if}
use Rattle.leaf.proofs.ModelLaws.{model_apart, model_tested, model_masks, model_uncontested}
use Rattle.leaf.proofs.Leaf.decide.Goals as goal

pub returns-then-not-agrees : goal.returns-then-not-agrees
returns-then-not-agrees c =
    model_apart c.requires.searchable _ c.requires.only_state refl c.agrees.result c.agrees.ensures (ap not c.if-not-agrees.true)

pub returns-then-clear : goal.returns-then-clear
returns-then-clear c =
    model_uncontested c.requires.searchable _ c.requires.only_state refl c.agrees.result c.agrees.ensures (ap not c.if-not-agrees.false) c.contested-clear.result c.contested-clear.ensures (ap not c.if-clear.true)
    ∙ ap (λ (b : Bool). cons_if b c.args.state.now []) (ap not (sym c.if-clear.true))

pub settles-requires-clause-rejected_masks : goal.settles-requires-clause-rejected_masks
settles-requires-clause-rejected_masks c =
    model_masks c.requires.searchable _ c.requires.only_state refl c.agrees.result c.agrees.ensures (ap not c.if-not-agrees.false)

pub returns-else-clear : goal.returns-else-clear
returns-else-clear c =
    model_tested c.requires.searchable _ c.requires.only_state refl c.agrees.result c.agrees.ensures (ap not c.if-not-agrees.false) c.settles.result c.settles.ensures
