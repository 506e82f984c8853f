-- The masks say which rows the setting rejects (`leaf_masks`); the model of the rules alone counts unless a constraint's body holds in it
-- (`found_one`). The masks are made 0 again: nothing but the entries' names was set (`rejects_uncleared`).
use Rattle.std.proofs.Common.{rules, arith, length, sym, ◌∙◌, ◌≡◌, ◌-◌, ◌≤◌}
use mathlib.Core.Bool.{true≢false}
use borrow.Author.Tests.{not-true, not-false}
use Rattle.base.specs.Bounds.{max_atoms}
use lib.Seq.{take_at}
use Rattle.rejecting.proofs.ClearLaws.{rejects_uncleared}
use Rattle.search.proofs.ReadyLaws.{space_searchable, space_named, lent_choices}
use Rattle.search.proofs.StepLaws.{leaf_table, leaf_masks, found_none, found_one, found_forbidden, then_some_cases}
use Rattle.search.proofs.space.Space.find_model.Goals as goal
use Rattle.search.proofs.space.Space.find_model.Goals.{then-found, else-found}

pub model_at-found-requires-clause-ready : goal.model_at-found-requires-clause-ready
model_at-found-requires-clause-ready c =
    record { table = leaf_table c.args.self.now c.args.standing c.as_slice.ensures.value _ (search rules); masks = leaf_masks c.args.self.now c.args.standing c.as_slice.ensures.value c.as_slice-rejecting.ensures.value c.reject_at.ensures }

pub clear_at-requires-clause-named : goal.clear_at-requires-clause-named
clear_at-requires-clause-named c =
    space_named c.args.self.now c.as_slice-rejecting.ensures.value

pub clear_at-requires-clause-uncleared : goal.clear_at-requires-clause-uncleared
clear_at-requires-clause-uncleared c =
    rejects_uncleared c.reject_at.ensures

pub returns : goal.returns
returns c =
    let size : length c.model_at-found.new.positive ≡ c.args.self.now.plan.now.n - 0 = search rules in
    let whole : length c.model_at-found.new.positive ≡ c.args.self.now.plan.now.n = omega (arith, size) in
    rw c.then_some.ensures (then_some_cases c.if-found.then_some _ _ _
    (λ e. elim c.if-found.branch [
      | then-found w ↦ found_forbidden c.args.self.now c.args.standing c.as_slice.ensures.value _ (search rules) c.model_at-found.result _ c.model_at-found.ensures w.if-found.true _ (take_at _ _ _ whole) w.banned.result w.banned.ensures (not-false w.banned.result (sym w.then_some-is ∙ e))
      | else-found w ↦ found_none c.args.self.now c.args.standing c.as_slice.ensures.value _ (search rules) c.model_at-found.result _ c.model_at-found.ensures w.if-found.false
    ])
    (λ e. elim c.if-found.branch [
      | then-found w ↦ (found_one c.args.self.now c.args.standing c.as_slice.ensures.value _ (search rules) c.model_at-found.result _ c.model_at-found.ensures w.if-found.true _ (take_at _ _ _ whole) w.banned.result w.banned.ensures (not-true w.banned.result (sym w.then_some-is ∙ e)), search rules)
      | else-found w ↦ absurd (true≢false (sym e ∙ w.then_some-is ∙ w.if-found.false))
    ]))

pub invariant_of-setting : goal.invariant_of-setting
invariant_of-setting c =
    record { choices = lent_choices c.args.self.now c.as_slice.ensures.value }

pub slice_bounds-model_at-end : goal.slice_bounds-model_at-end
slice_bounds-model_at-end c =
    let few : c.args.self.now.plan.now.n ≤ max_atoms = (space_searchable c.args.self.now).few in search rules
