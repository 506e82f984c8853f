-- What a space is known to be. Assumes nothing.
use mathlib.Core.Path.{◌≡◌, refl, sym, subst}
use native.Mathlib.Omega.{arith}
use Prim.Native.Nat.{ℕ}
use Rattle.base.specs.Bounds.{max_atoms}
use Rattle.leaf.proofs.ModelLaws.{choices}
use mathlib.Core.Logic.{∥∥₁_map, ∥∥₁_elim}
use mathlib.Core.List.{List}
use Rattle.std.proofs.Props.{props}
use Rattle.rejecting.specs.declared.RejectingMasks.{RejectingMasks}
use Rattle.rejecting.specs.Rejecting.{Named}
use Rattle.rejecting.proofs.RejectingLaws.{rejecting_named}
use Rattle.leaf.specs.Searchable.{Searchable, Choices}
use Rattle.leaf.proofs.SearchableLaws.{searchable_again}
use Rattle.search.specs.declared.space.Space.{Space}
use Rattle.search.specs.Space.{space_atoms}

module _ (s : Space) where
  -- its table can be searched
  pub space_searchable : Searchable s.table.book.now s.table.rows.now (space_atoms s) s.plan.now.n
  space_searchable = searchable_again (∥∥₁_map s.ready (λ r. r.table))

  -- its branching facts are few, lawful, and each there once
  space_choices : Choices (space_atoms s) max_atoms
  space_choices =
      let k = choices space_searchable _ refl in
      record { few = k.few; low = λ i h. omega (arith, k.low i h, k.facts_few); once = k.once; facts_few = omega arith }

  pub lent_choices : {lent : List ℕ} → lent ≡ space_atoms s → Choices lent max_atoms
  lent_choices e = subst (λ (l : List ℕ). Choices l max_atoms) (sym e) space_choices

  -- each row that rejects has a name
  pub space_named : {rejecting : List RejectingMasks} → rejecting ≡ s.plan.now.rejecting → Named rejecting
  space_named e = ∥∥₁_elim s.ready (Prim.hlevel props) (λ r. subst Named (sym e) (rejecting_named r.planned.rejecting_masks))
