-- Where records are listed, the two runs are merged (`combines_listed`).
use Rattle.search.proofs.KeptLaws.{end_fits, width_some, lent_size, combines_listed, combines_others}
use Rattle.search.proofs.Goal.combine.Goals as goal

pub slice_bounds-merge-end : goal.slice_bounds-merge-end
slice_bounds-merge-end c =
    end_fits c.args.self.now c.args.n c.args.from c.args.mid c.args.end c.record_size-w.result c.args.part.now c.in-List.is c.record_size-w.ensures.0 c.requires.n_nonzero.2 c.requires.n_nonzero.3 c.requires.room_for

pub merge-requires : goal.merge-requires
merge-requires c =
    (width_some c.args.self.now c.args.n c.args.from c.args.mid c.args.end c.record_size-w.result c.args.part.now c.in-List.is c.record_size-w.ensures.0 c.requires.n_nonzero.2 c.requires.n_nonzero.3 c.requires.room_for c.requires.n_nonzero.0, lent_size c.args.self.now c.args.n c.args.from c.args.mid c.args.end c.record_size-w.result c.args.part.now c.in-List.is c.record_size-w.ensures.0 c.requires.n_nonzero.2 c.requires.n_nonzero.3 c.requires.room_for)

pub returns-in-List : goal.returns-in-List
returns-in-List c =
    combines_listed c.args.self.now c.args.n c.args.from c.args.mid c.args.end c.record_size-w.result c.args.part.now c.in-List.is c.record_size-w.ensures.0 c.requires.n_nonzero.2 c.requires.n_nonzero.3 c.requires.room_for _ c.merge.ensures

pub returns-in_default : goal.returns-in_default
returns-in_default c =
    combines_others c.args.self.now c.args.n c.args.from c.args.mid c.args.end c.args.part.now c.in_default.not-List
