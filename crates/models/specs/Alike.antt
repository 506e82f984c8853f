-- When two programs are alike: as many facts, the same rules, the same displacements among them, and the same constraints. Neither order
-- nor repetition counts, be it of rules, of constraints or of the literals of a body. proofs/AlikeLaws.antt: they have the same stable
-- models, in the same order, and the same branching facts. Assumes nothing.
use Rattle.std.specs.Prelude.{◌≡◌, ◌↔◌}
use mathlib.Core.List.{List, Memᴰ}
use Rattle.format.specs.Book.{Literal, Rule}
use Rattle.models.specs.Program.{Program}
use Rattle.models.specs.StableModels.{overrides}

-- the same literals, in whatever order and however often
abbrev pub SameBody : List Literal → List Literal → Type 0
SameBody one other = (l : Literal) → Memᴰ l one ↔ Memᴰ l other

-- the same rule, but for how its body is written
pub record SameRule (r t : Rule) : Type 0 where
  pub layer_same : r.layer ≡ t.layer
  pub head_same : r.head ≡ t.head
  pub body_same : SameBody r.body t.body

-- the rule, or the body, is among those of a list
abbrev pub HasRule : List Rule → Rule → Type 0
HasRule rules r = (t : Rule) × Memᴰ t rules × SameRule r t

abbrev pub HasBody : List (List Literal) → List Literal → Type 0
HasBody bodies body = (other : List Literal) × Memᴰ other bodies × SameBody body other

pub record Alike (P Q : Program) : Type 0 where
  pub atoms_same : P.atoms ≡ Q.atoms
  pub to : (r : Rule) → Memᴰ r P.rules → HasRule Q.rules r
  pub from : (r : Rule) → Memᴰ r Q.rules → HasRule P.rules r
  pub constraints_to : (body : List Literal) → Memᴰ body P.constraints → HasBody Q.constraints body
  pub constraints_from : (body : List Literal) → Memᴰ body Q.constraints → HasBody P.constraints body
  pub overrides_same : (t r : Rule) → Memᴰ t P.rules → Memᴰ r P.rules → overrides P t r ≡ overrides Q t r
