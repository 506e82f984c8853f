-- `merge` meets its contract: a run that is empty leaves nothing to do; else the cut, the turn of the inner pieces and the two
-- halves make the whole, by `joined` of JoinLaws. Assumes nothing.
use Rattle.std.proofs.Common.{arith}
use Rattle.merging.proofs.JoinLaws.{joined_first, joined_second, high-size, joined}
use Rattle.merging.proofs.+merge.Goals as goal
use Rattle.merging.proofs.+merge.Goals.{then-n-eq0-via-then-n-eq0, then-n-eq0-via-else-n-eq0+then-m-eq0}

pub returns-then-n-eq0 : goal.returns-then-n-eq0
returns-then-n-eq0 t c =
    elim c.then-n-eq0.branch [ then-n-eq0-via-then-n-eq0 w ↦ joined_second _ _ _ _ w.if-n-eq0.true | then-n-eq0-via-else-n-eq0+then-m-eq0 w ↦ joined_first _ _ _ _ w.if-m-eq0.true ]

pub merge-requires-2 : goal.merge-requires-2
merge-requires-2 t c =
    (omega (arith, c.decreases, c.find_cut-i.ensures.low_some, c.find_cut-i.ensures.first_within, c.find_cut-i.ensures.second_within), (c.requires.0, high-size _ _ _ _ _ _ c.requires.0 c.requires.1 c.find_cut-i.ensures _ c.rotate.ensures _ c.merge.ensures))

pub returns : goal.returns
returns t c = joined _ _ _ _ _ _ c.requires.0 c.requires.1 c.find_cut-i.ensures _ c.rotate.ensures _ c.merge.ensures _ c.merge-2.ensures
