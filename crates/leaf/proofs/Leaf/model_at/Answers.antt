-- A conflict from a part of what the setting denies is one from all of it, and no stable model agrees with the setting. Where the
-- filling comes to mark the rest of what is denied it is the filling from all of that; else `model_from` goes on from its marks.
use Rattle.std.proofs.Common.{rules, refl, sym}
use Rattle.tester.proofs.TestLaws.{room_for}
use Rattle.leaf.proofs.ModelLaws.{choices, denied_of_lem, model_conflict, early_conflict, early_marks, covered_candidate}
use Rattle.leaf.proofs.GoingOnLaws.{early_begun}
use Rattle.leaf.proofs.Leaf.model_at.Goals as goal

pub assume-requires : goal.assume-requires
assume-requires c =
    (choices c.requires.ready.table _ c.requires.marks_len.0).low

pub fill-requires : goal.fill-requires
fill-requires c =
    room_for c.requires.ready.table.table c.requires.ready.table.formed c.requires.ready.table.size c.requires.ready.table.few _ _ refl (search rules)

pub returns-then-is_err : goal.returns-then-is_err
returns-then-is_err c =
    let d = denied_of_lem (choices c.requires.ready.table _ refl) c.args.self.now.setting.standing in
    model_conflict c.requires.ready.table _ c.requires.ready.masks d (early_conflict c.assume.ensures c.fill.ensures (sym c.if-is_err.ensures.value)) _

pub decide-requires-clause-only_state : goal.decide-requires-clause-only_state
decide-requires-clause-only_state c =
    let d = denied_of_lem (choices c.requires.ready.table _ refl) c.args.self.now.setting.standing in
    covered_candidate c.assume.ensures c.fill.ensures c.requires.ready.masks d c.covers.result c.covers.ensures c.if-covers.true (sym c.if-is_err.ensures.value)

pub model_from-requires-clause-begun : goal.model_from-requires-clause-begun
model_from-requires-clause-begun c =
    early_begun c.assume.ensures c.fill.ensures (sym c.if-is_err.ensures.value)

pub model_from-requires-clause-early : goal.model_from-requires-clause-early
model_from-requires-clause-early c =
    early_marks c.assume.ensures c.fill.ensures
