-- A denied fact that was reached is a conflict, and so is what the filling meets: then no stable model agrees with the setting. Else the
-- facts that are reached are the only state that can be one, as the marks gone on from follow from the start and have it among them.
use Rattle.std.proofs.Common.{rules, refl, sym, subst}
use Rattle.tester.proofs.TestLaws.{room_for}
use Rattle.leaf.specs.Searchable.{Early}
use Rattle.leaf.proofs.ModelLaws.{choices, denied_of_lem, model_conflict, filled-candidate}
use Rattle.leaf.proofs.GoingOnLaws.{denied_conflict, going_on}
use Rattle.leaf.proofs.Leaf.model_from.Goals as goal

pub returns-then-reaches_denied : goal.returns-then-reaches_denied
returns-then-reaches_denied c =
    let d = denied_of_lem (choices c.requires.ready.table _ refl) c.args.self.now.setting.standing in
    model_conflict c.requires.ready.table _ c.requires.ready.masks d (denied_conflict c.requires.begun d c.reaches_denied.result c.reaches_denied.ensures c.requires.ready.table c.if-reaches_denied.true) _

pub join-requires : goal.join-requires
join-requires c =
    (choices c.requires.ready.table _ c.requires.marks_len.0).low

pub fill_on-requires : goal.fill_on-requires
fill_on-requires c =
    room_for c.requires.ready.table.table c.requires.ready.table.formed c.requires.ready.table.size c.requires.ready.table.few _ _ refl (search rules)

pub returns-then-is_err : goal.returns-then-is_err
returns-then-is_err c =
    let d = denied_of_lem (choices c.requires.ready.table _ refl) c.args.self.now.setting.standing in
    let grown = going_on c.requires.begun d c.reaches_denied.result c.reaches_denied.ensures c.if-reaches_denied.false c.join.ensures c.fill_on.ensures in
    model_conflict c.requires.ready.table _ c.requires.ready.masks d (grown.clash (sym c.if-is_err.ensures.value)) _

pub decide-requires-clause-only_state : goal.decide-requires-clause-only_state
decide-requires-clause-only_state c =
    let d = denied_of_lem (choices c.requires.ready.table _ refl) c.args.self.now.setting.standing in
    let filled = going_on c.requires.begun d c.reaches_denied.result c.reaches_denied.ensures c.if-reaches_denied.false c.join.ensures c.fill_on.ensures in
    let before = subst (Early _ _ _ _) (sym c.copy_marks.ensures) c.requires.early in
    filled-candidate c.requires.ready.masks d before filled (sym c.if-is_err.ensures.value)
