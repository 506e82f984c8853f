-- The invariant: the entries so far stand for the rules passed that count, and there is room for those that are left.
use mathlib.Core.Path.{refl, ◌∙◌}
use native.Mathlib.Omega.{arith}
use Rattle.table.proofs.WalkLaws.{walk_start, free, walk_skip, walk_more, walk_end}
use Rattle.table.proofs.section.gather.Goals as goal

pub loop-record-init : goal.loop-record-init
loop-record-init g c =
    rw c.into_iter-record-iterator.ensures.into_iter_gives
    (record { same_book = refl; walked = walk_start _ _ _ _ _ _ c.told-out c.args.rules.records })

pub listed : goal.listed
listed g c =
    let w = c.loop-record.invariant in
    omega (arith, c.type_inv.out, free _ _ _ _ _ w.walked (rw w.same_book at c.in-Some.ensures.steps.2))

pub bounds-out-count : goal.bounds-out-count
bounds-out-count g c =
    let w = c.loop-record.invariant in
    free _ _ _ _ _ w.walked (rw w.same_book at c.in-Some.ensures.steps.2)

pub loop-record-preserved-in-Some-entry_of : goal.loop-record-preserved-in-Some-entry_of
loop-record-preserved-in-Some-entry_of g c =
    let w = c.loop-record.invariant in
    let s = c.in-Some.ensures.steps in
    let got = rw (s.0, w.same_book) at c.in-Some-entry_of.ensures in
    record { same_book = s.1 ∙ w.same_book; walked = walk_more _ _ _ _ _ w.walked (rw w.same_book at s.2) c.in-Some-entry_of.entry got.1 got.0 }

pub loop-record-preserved : goal.loop-record-preserved
loop-record-preserved g c =
    let w = c.loop-record.invariant in
    let s = c.in-Some.ensures.steps in
    record { same_book = s.1 ∙ w.same_book; walked = walk_skip _ _ _ _ _ w.walked (rw w.same_book at s.2) (rw (s.0, w.same_book) at c.in_default.ensures) }

pub returns : goal.returns
returns g c =
    let w = c.loop-record.invariant in
    record {
      room = omega (arith, w.walked.room, w.walked.size);
      front = walk_end _ _ _ _ _ w.walked (rw w.same_book at c.in-None.ensures.steps);
    }
