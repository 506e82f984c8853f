-- The plan of a search: the branching facts, and three kinds of entries. It is made once a call; the search is lent it. Assumes nothing.
use Rattle.std.specs.Prelude.{◌≡◌, List, [], ℕ, ◌+◌, ◌≤◌, length}
use Rattle.table.specs.declared.Row.{Row}
use Rattle.table.specs.declared.Span.{Span}
use Rattle.bans.specs.Bans.{BansFit}
use Rattle.setting.specs.RuleMasks.{MasksMade, RuleMasks}
use Rattle.nogoods.specs.Nogoods.{max_nogoods, NogoodsTo, Nogoods}
use Rattle.nogoods.specs.declared.Nogood.{Nogood}
use Rattle.rejecting.specs.Rejecting.{Rejecting, RejectingMade}
use Rattle.plan.specs.declared.Plan.{Plan}

-- there is no entry of any kind
pub record IsEmptyPlan (p : Plan) : Type 0 where
  pub no_fact : p.n ≡ 0
  pub no_atom : p.atoms ≡ []
  pub no_head : p.heads ≡ []
  pub no_nogood : p.nogoods ≡ []
  pub no_rejecting : p.rejecting ≡ []

-- the facts of one plan are those of another
pub record SameFacts (p q : Plan) : Type 0 where
  pub facts_same : q.n ≡ p.n
  pub atoms_same : q.atoms ≡ p.atoms

-- the entries of the first j rows are there, and none of a constraint
pub record PlanTo (book : List ℕ) (rows : List Row) (bits rejectable : List ℕ) (p : Plan) (j : ℕ) : Type 0 where
  pub masks_made : MasksMade book rows p.atoms p.heads j
  pub nogoods_made : NogoodsTo book rows [] rejectable bits p.nogoods
  pub nogoods_few : length p.nogoods ≤ max_nogoods
  pub rejecting_made : RejectingMade book rows p.atoms p.rejecting j

-- one row on; the facts are as they were
pub record PlanStep (book : List ℕ) (rows : List Row) (bits rejectable : List ℕ) (p : Plan) (j : ℕ) (q : Plan) : Type 0 where
  pub made : PlanTo book rows bits rejectable q (j + 1)
  pub same : SameFacts p q

-- the nogoods of these constraints are among the entries, beside those of rows
abbrev pub NogoodsPut : List ℕ → List Span → List ℕ → List Nogood → List Nogood → Type 0
NogoodsPut book bans bits before after = (rows : List Row) (rejectable : List ℕ) → NogoodsTo book rows [] rejectable bits before → NogoodsTo book rows bans rejectable bits after

-- The plan of a table's rows and of these constraints over these branching facts, as a search is lent it.
pub record Planned (book : List ℕ) (rows : List Row) (bans : List Span) (atoms : List ℕ) (p : Plan) : Type 0 where
  pub atoms_are : p.atoms ≡ atoms
  pub rule_masks : RuleMasks book rows atoms p.heads
  pub nogood_masks : Nogoods book rows bans atoms p.nogoods
  pub nogoods_few : length p.nogoods ≤ max_nogoods
  pub rejecting_masks : Rejecting book rows atoms p.rejecting
  pub bans_fit : BansFit book bans
