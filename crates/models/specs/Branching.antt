-- Document 01, "Branching facts". Assumes nothing.
use Rattle.std.specs.Prelude.{Bool, ◌&&◌, ◌||◌, List, ℕ, eqb, length}
use Rattle.base.specs.Lists.{any, filter, up_to}
use Rattle.format.specs.Book.{Rule}
use Rattle.models.specs.Program.{Program}
use Rattle.models.specs.StableModels.{overrides}

module _ (P : Program) where
  -- the rule's opposite head is the head of a rule of a layer below, and it does not lean on itself: its body decides a displacement
  unfoldable pub can_reject : Rule → Bool
  can_reject t = any (overrides P t) P.rules

  -- Document 01: a fact branches if it is negated in a rule's body, or stands with either sign in the body of a rule that can displace.
  unfoldable pub branching : ℕ → Bool
  branching f = any (λ r. any (λ l. eqb l.atom f && (l.negated || can_reject r)) r.body) P.rules

  -- the branching facts, rising
  unfoldable pub branching_atoms : List ℕ
  branching_atoms = filter branching (up_to P.atoms)

  -- Document 01: g, their number
  unfoldable pub branching_count : ℕ
  branching_count = length branching_atoms
