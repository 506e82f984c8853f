-- The setting's model, if there is one, is met.
use Rattle.std.proofs.Common.{rules, arith, sym, subst, List, ℕ}
use Rattle.first.specs.InHand.{StandingHas}
use Rattle.first.proofs.InHandLaws.{takes_none}
use Rattle.search.proofs.ReadyLaws.{space_searchable}
use Rattle.first.proofs.OutlineLaws.{found_has}
use Rattle.first.proofs.visit_first.Goals as goal

pub invariant_of-met : goal.invariant_of-met
invariant_of-met c =
    record {
      atoms_few = search rules;
      state_few = omega (arith, (space_searchable c.args.space.now).few, c.in-Some.ensures.1);
      standing_has = subst (λ (l : List ℕ). StandingHas l c.in-Some.state.now c.args.standing) (sym c.as_slice.ensures.value)
          (found_has (space_searchable c.args.space.now) c.args.space.now.bans.spans.now c.args.standing _ c.in-Some.ensures.0);
    }

pub returns-in-None : goal.returns-in-None
returns-in-None c =
    takes_none _ _ _ _ _ c.in-None.ensures c.args.held c.args.part.now
