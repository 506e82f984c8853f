-- The entries of the rows passed are there, and the facts are as they were; the constraints' nogoods come last.
use mathlib.Core.Path.{refl, subst}
use mathlib.Core.List.{List}
use Prim.Native.Nat.{ℕ}
use native.Mathlib.Omega.{arith}
use Rattle.bans.specs.Bans.{BansFit}
use Rattle.plan.specs.Plan.{NogoodsPut}
use Rattle.plan.proofs.PlanLaws.{same_refl, plan_start, plan_end}
use Rattle.plan.proofs.make_plan.Goals as goal

pub loop-j-init : goal.loop-j-init
loop-j-init c =
    (plan_start c.args.table.book.now c.args.table.rows.now c.atom_bits-bits.result c.rejectable_masks-rejectable.result _ c.clear.ensures c.clear-2.ensures c.clear-3.ensures, same_refl _)

pub returns-clause-planned : goal.returns-clause-planned
returns-clause-planned c =
    let same = c.requires.same_book in
    plan_end c.loop-j.invariant.0 (omega (arith, c.loop-j-test.false, c.loop-j.auto.j-end, c.len-j-end.ensures)) c.loop-j.invariant.1.atoms_same
    (rw c.as_slice.ensures.value at c.atom_bits-bits.ensures) c.rejectable_masks-rejectable.ensures (subst (λ (b : List ℕ). BansFit b c.args.bans.spans.now) same c.args.bans.fit) _ refl refl refl
    (subst (λ (b : List ℕ). NogoodsPut b c.args.bans.spans.now c.atom_bits-bits.result c.loop-j.plan.nogoods c.put_bans.new.nogoods) same c.put_bans.ensures.put) c.put_bans.ensures.few
