-- A violated row or a conflict rules stability out; else what is filled from the defaults is what is derived, and the comparison
-- decides.
use mathlib.Core.Path.{refl, sym, subst}
use lib.ListN.{length}
use Rattle.table.proofs.TabledLaws.{tabled-atoms, tabled-free}
use Rattle.tester.specs.Masks.{Others}
use Rattle.tester.proofs.TestLaws.{room_for, violated_unstable, conflict_unstable, agree_stable}
use borrow.Author.Rules.{rules}
use Rattle.tester.proofs.settles.Goals as goal

pub returns-then-is_err : goal.returns-then-is_err
returns-then-is_err c =
    violated_unstable c.requires.tabulates c.requires.rejected_masks c.requires.well_formed (sym (tabled-atoms _ _ _)) (c.supported.ensures.violation (sym c.if-is_err.ensures.value))

pub fill-requires : goal.fill-requires
fill-requires c =
    room_for c.requires.tabulates c.requires.well_formed (sym (tabled-atoms _ _ _)) c.requires.m_few _ _ (search rules) (search rules)

pub returns-then-is_err-2 : goal.returns-then-is_err-2
returns-then-is_err-2 c =
    conflict_unstable c.requires.tabulates c.requires.rejected_masks c.requires.well_formed (sym (tabled-atoms _ _ _)) (search rules) (c.supported.ensures.support (sym c.if-is_err.ensures.value)) (subst (Others _ _) {y = length c.args.m.now} (search rules) c.mark_defaults.ensures) c.fill.ensures refl (sym c.if-is_err-2.ensures.value)

pub returns : goal.returns
returns c =
    agree_stable c.requires.tabulates c.requires.rejected_masks c.requires.well_formed (sym (tabled-atoms _ _ _)) (search rules) (c.supported.ensures.support (sym c.if-is_err.ensures.value)) (subst (Others _ _) {y = length c.args.m.now} (search rules) c.mark_defaults.ensures) c.fill.ensures refl (sym c.if-is_err-2.ensures.value) (tabled-free c.args.rules.now.table.book.now c.args.rules.now.table.rows.now _) c.marks_agree.result c.marks_agree.ensures
