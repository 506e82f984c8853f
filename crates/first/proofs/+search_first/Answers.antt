-- A group in which no state comes before the one in hand (`takes_skipped`), one in which nothing can be found (`none_promised`), a leaf, and
-- two halves with the first fact that is left decided each way (TurnLaws, ApartLaws).
use Rattle.std.proofs.Common.{rules, refl, sym, ap, ◌∙◌, ◌-◌, ℕ, List, length, get_or, arith}
use Rattle.search.specs.declared.Turn.{Turn}
use Rattle.search.proofs.AllowedLaws.{barred-size}
use Rattle.search.proofs.ReadyLaws.{space_searchable}
use Rattle.search.proofs.TurnLaws.{none_promised, leaf_is, turned_first, turned_second, halves_are}
use Rattle.first.proofs.InHandLaws.{takes_none, takes_same, takes_both}
use Rattle.first.proofs.LaterLaws.{takes_skipped}
use Rattle.first.proofs.ApartLaws.{step_small, apart_first, apart_second}
use Rattle.first.proofs.+search_first.Goals as goal
use Rattle.first.proofs.+search_first.Goals.{then-left_out-via-then-left_out, then-left_out-via-else-left_out+then-not-promising}

pub returns-then-left_out : goal.returns-then-left_out
returns-then-left_out t c =
    elim c.then-left_out.branch [
      | then-left_out-via-then-left_out w ↦ takes_skipped (space_searchable c.args.space.now) c.args.space.now.bans.spans.now _ c.requires.turned.decided c.requires.sure c.args.wish.now.wanted.now c.requires.apart c.args.held c.left_out.result c.left_out.ensures w.if-left_out.true c.args.part.now
      | then-left_out-via-else-left_out+then-not-promising w ↦ takes_none _ _ _ _ _ (none_promised c.args.space.now c.requires.turned w.promising.result w.promising.ensures w.if-not-promising.true) c.args.held c.args.part.now
    ]

pub visit_first-requires-clause-sure_len : goal.visit_first-requires-clause-sure_len
visit_first-requires-clause-sure_len t c =
    (c.requires.sure.size ∙ sym (barred-size (space_searchable c.args.space.now) c.args.space.now.bans.spans.now), c.requires.wanted_len_bound)

pub returns-then-turn-eq0 : goal.returns-then-turn-eq0
returns-then-turn-eq0 t c =
    takes_same _ _ _ _ _ _ (leaf_is c.args.space.now c.requires.turned c.if-turn-eq0.true) c.visit_first.ensures

pub overflow_add-denied : goal.overflow_add-denied
overflow_add-denied t c =
    omega (arith, c.requires.apart.few, c.step_apart.ensures, step_small c.step_apart.result _ c.step_apart.ensures)

pub search_first-half-requires : goal.search_first-half-requires
search_first-half-requires t c =
    let some = c.if-turn-eq0.false in
    (omega (arith, some, c.decreases, ap (λ (u : Turn). u.left) c.decided.ensures), (turned_first c.args.space.now c.requires.turned some _ (ap (λ (l : List ℕ). length l - c.args.turn.left) c.as_slice-atoms.ensures.value) c.decided.ensures refl, (c.requires.sure, (c.requires.wanted_len_bound, (apart_first c.args.space.now c.requires.turned some _ (ap (λ (l : List ℕ). length l - c.args.turn.left) c.as_slice-atoms.ensures.value) c.args.wish.now.wanted.now c.requires.apart c.decided.ensures refl _ (ap (λ (l : List ℕ). get_or l (length c.as_slice-atoms.result.now - c.args.turn.left) 0) c.as_slice-atoms.ensures.value) c.step_apart.result c.step_apart.ensures, c.requires.part_len)))))

pub overflow_add-stands : goal.overflow_add-stands
overflow_add-stands t c =
    omega (arith, c.requires.apart.few, c.step_apart-2.ensures, step_small c.step_apart-2.result _ c.step_apart-2.ensures)

pub search_first-requires : goal.search_first-requires
search_first-requires t c =
    let some = c.if-turn-eq0.false in
    (omega (arith, some, c.decreases, ap (λ (u : Turn). u.left) c.decided-2.ensures), (turned_second c.args.space.now c.requires.turned some _ (ap (λ (l : List ℕ). length l - c.args.turn.left) c.as_slice-atoms.ensures.value) c.decided.ensures c.decided-2.ensures, (c.requires.sure, (c.requires.wanted_len_bound, (apart_second c.args.space.now c.requires.turned some _ (ap (λ (l : List ℕ). length l - c.args.turn.left) c.as_slice-atoms.ensures.value) c.args.wish.now.wanted.now c.requires.apart c.decided.ensures c.decided-2.ensures _ (ap (λ (l : List ℕ). get_or l (length c.as_slice-atoms.result.now - c.args.turn.left) 0) c.as_slice-atoms.ensures.value) c.step_apart-2.result c.step_apart-2.ensures, search rules)))))

pub returns : goal.returns
returns t c =
    takes_both _ _ _ _ _ _ _ (halves_are c.args.space.now c.requires.turned c.if-turn-eq0.false _ (ap (λ (l : List ℕ). length l - c.args.turn.left) c.as_slice-atoms.ensures.value) c.decided.ensures c.decided-2.ensures) c.search_first-half.ensures c.search_first.ensures
