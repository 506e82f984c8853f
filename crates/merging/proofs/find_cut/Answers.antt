-- `find_cut` meets its contract: each of its four answers parts the records, by a law of CutLaws. Assumes nothing.
use Rattle.std.proofs.Common.{◌∙◌}
use Rattle.merging.proofs.CutLaws.{meet_told, ends_told, cut_rising, cut_falling, cut_first, cut_second}
use Rattle.merging.proofs.find_cut.Goals as goal

pub returns-then-not-record_before : goal.returns-then-not-record_before
returns-then-not-record_before c = cut_rising _ _ _ _ c.requires (meet_told _ _ _ _ c.requires _ c.record_before.ensures ∙ c.if-not-record_before.true)

pub returns-then-not-record_before-2 : goal.returns-then-not-record_before-2
returns-then-not-record_before-2 c = cut_falling _ _ _ _ c.requires (ends_told _ _ _ _ c.requires _ c.record_before-2.ensures ∙ c.if-not-record_before-2.true)

pub returns-then-m-n : goal.returns-then-m-n
returns-then-m-n c =
    cut_first _ _ _ _ c.requires c.place-j.result c.if-m-n.true (meet_told _ _ _ _ c.requires _ c.record_before.ensures ∙ c.if-not-record_before.false)
    (ends_told _ _ _ _ c.requires _ c.record_before-2.ensures ∙ c.if-not-record_before-2.false) c.place-j.ensures

pub returns : goal.returns
returns c = cut_second _ _ _ _ c.requires c.place-i.result c.if-m-n.false c.place-i.ensures
