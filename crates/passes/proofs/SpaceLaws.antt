-- What the program of a space is known to be. Assumes nothing.
use mathlib.Core.Path.{◌≡◌, ap, subst}
use Prim.Native.Nat.{ℕ, ◌<◌, ◌≤◌}
use lib.ListN.{length}
use Rattle.base.specs.Bounds.{max_atoms, max_branching}
use Rattle.models.specs.StableModels.{WellFormed}
use Rattle.models.specs.Branching.{branching_atoms, branching_count}
use Rattle.search.specs.declared.space.Space.{Space}
use Rattle.search.specs.Space.{space_atoms, space_program}
use Rattle.search.proofs.ReadyLaws.{space_searchable}
use Rattle.search.proofs.AllowedLaws.{barred-formed, barred-listed, barred-size}

module _ (s : Space) where
  pub space_formed : WellFormed (space_program s)
  space_formed = barred-formed (space_searchable s) s.bans.spans.now

  -- the plan has its number of facts, and its branching facts
  pub space_size : s.plan.now.n ≡ (space_program s).atoms
  space_size = barred-size (space_searchable s) s.bans.spans.now

  pub space_listed : space_atoms s ≡ branching_atoms (space_program s)
  space_listed = barred-listed (space_searchable s) s.bans.spans.now

  pub space_count : length (space_atoms s) ≡ branching_count (space_program s)
  unfolding branching_count
  space_count = ap length space_listed

  -- there are some facts, few enough, and few enough that branch
  pub space_some : 0 < s.plan.now.n
  space_some = (space_searchable s).some

  pub plan_few : s.plan.now.n ≤ max_atoms
  plan_few = (space_searchable s).few

  pub space_few : (space_program s).atoms ≤ max_atoms
  space_few = subst (λ (k : ℕ). k ≤ max_atoms) space_size plan_few

  pub branching_few : length (space_atoms s) ≤ max_branching
  branching_few = (space_searchable s).atoms_few
