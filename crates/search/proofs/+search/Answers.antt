-- A call that need not go on, one in which nothing can be found (`none_promised`), a leaf, and two halves with the first fact that is left
-- decided each way (TurnLaws).
use Rattle.std.proofs.Common.{rules, refl, sym, ap, ◌∙◌, ◌-◌, ℕ, List, length, arith}
use Rattle.search.specs.declared.Turn.{Turn}
use Rattle.search.proofs.VisitLaws.{searched-stopped}
use Rattle.search.proofs.StepLaws.{none-searched}
use Rattle.search.proofs.ReadyLaws.{space_searchable}
use Rattle.search.proofs.TurnLaws.{none_promised, leaf_kept, leaf_searched, turned_first, turned_second, first_kept, first_fits, second_kept, second_left, combine_counts, combine_room, both_searched}
use Rattle.search.proofs.+search.Goals as goal
use Rattle.search.proofs.+search.Goals.{then-stops-via-then-stops, then-stops-via-else-stops+then-not-promising}

pub returns-then-stops : goal.returns-then-stops
returns-then-stops t c =
    elim c.then-stops.branch [
      | then-stops-via-then-stops w ↦ searched-stopped c.args.goal.now c.args.space.now.plan.now.n _ c.args.v c.args.part.now (sym c.stops.ensures ∙ w.if-stops.true)
      | then-stops-via-else-stops+then-not-promising w ↦ none-searched c.args.goal.now c.args.space.now.plan.now.n _ (none_promised c.args.space.now c.requires.turned w.promising.result w.promising.ensures w.if-not-promising.true) c.args.v c.args.part.now
    ]

pub visit_setting-requires-clause-kept : goal.visit_setting-requires-clause-kept
visit_setting-requires-clause-kept t c =
    leaf_kept c.args.space.now c.requires.turned c.if-turn-eq0.true c.args.goal.now c.args.v c.args.part.now c.requires.kept

pub returns-then-turn-eq0 : goal.returns-then-turn-eq0
returns-then-turn-eq0 t c =
    leaf_searched c.args.space.now c.requires.turned c.if-turn-eq0.true c.args.goal.now c.args.v c.args.part.now _ _ c.visit_setting.ensures

pub search-half-requires : goal.search-half-requires
search-half-requires t c =
    let some = c.if-turn-eq0.false in
    (omega (arith, some, c.decreases, ap (λ (u : Turn). u.left) c.decided.ensures), (turned_first c.args.space.now c.requires.turned some _ (ap (λ (l : List ℕ). length l - c.args.turn.left) c.as_slice.ensures.value) c.decided.ensures refl, (first_kept c.args.space.now c.requires.turned some _ (ap (λ (l : List ℕ). length l - c.args.turn.left) c.as_slice.ensures.value) c.decided.ensures refl c.args.goal.now c.args.v c.args.part.now c.requires.kept, first_fits c.args.space.now c.requires.turned some _ (ap (λ (l : List ℕ). length l - c.args.turn.left) c.as_slice.ensures.value) c.decided.ensures refl c.args.v.count c.requires.left_bound)))

pub search-both-requires : goal.search-both-requires
search-both-requires t c =
    let some = c.if-turn-eq0.false in
    (omega (arith, some, c.decreases, ap (λ (u : Turn). u.left) c.decided-2.ensures), (turned_second c.args.space.now c.requires.turned some _ (ap (λ (l : List ℕ). length l - c.args.turn.left) c.as_slice.ensures.value) c.decided.ensures c.decided-2.ensures, (second_kept c.args.space.now c.requires.turned some _ (ap (λ (l : List ℕ). length l - c.args.turn.left) c.as_slice.ensures.value) c.decided.ensures c.decided-2.ensures c.args.goal.now c.args.v c.args.part.now c.requires.kept _ _ c.search-half.ensures (search rules), second_left c.args.space.now c.requires.turned some _ (ap (λ (l : List ℕ). length l - c.args.turn.left) c.as_slice.ensures.value) c.decided.ensures c.decided-2.ensures c.args.goal.now c.args.v c.args.part.now c.requires.kept _ _ c.search-half.ensures c.requires.left_bound)))

pub combine-requires-clause-n_nonzero : goal.combine-requires-clause-n_nonzero
combine-requires-clause-n_nonzero t c =
    let some = c.if-turn-eq0.false in
    let counts = combine_counts c.args.space.now c.requires.turned some _ (ap (λ (l : List ℕ). length l - c.args.turn.left) c.as_slice.ensures.value) c.decided.ensures c.decided-2.ensures c.args.goal.now c.args.v c.args.part.now c.requires.kept _ _ c.search-half.ensures _ _ c.search-both.ensures c.requires.left_bound in
    ((space_searchable c.args.space.now).some, (space_searchable c.args.space.now).few, counts.0, counts.1, counts.2)

pub combine-requires-clause-room_for : goal.combine-requires-clause-room_for
combine-requires-clause-room_for t c =
    let some = c.if-turn-eq0.false in
    combine_room c.args.space.now c.requires.turned some _ (ap (λ (l : List ℕ). length l - c.args.turn.left) c.as_slice.ensures.value) c.decided.ensures c.decided-2.ensures c.args.goal.now c.args.v c.args.part.now c.requires.kept _ _ c.search-half.ensures _ _ c.search-both.ensures (search rules)

pub returns : goal.returns
returns t c =
    let some = c.if-turn-eq0.false in
    both_searched c.args.space.now c.requires.turned some _ (ap (λ (l : List ℕ). length l - c.args.turn.left) c.as_slice.ensures.value) c.decided.ensures c.decided-2.ensures c.args.goal.now c.args.v c.args.part.now c.requires.kept _ _ c.search-half.ensures _ _ c.search-both.ensures _ c.combine.ensures
