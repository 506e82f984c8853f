-- What a driven layer sees of a book. Every later definition takes this, and not the whole book: what happens at a layer
-- follows from the number of facts, the relevant rules, the relevant constraints, and which of the rules' layers lie below which.
-- Assumes nothing.
use Rattle.std.specs.Prelude.{◌≡◌, ◌⊎◌, Bool, not, ◌&&◌, ◌||◌, List, map, ℕ, T, eqb}
use Rattle.base.specs.Lists.{filter}
use Rattle.layers.specs.Layers as layers
use Rattle.layers.specs.Masks.{bit_of}
use Rattle.format.specs.Book.{Literal, Rule, Book, is_constraint}

pub record Program : Type 0 where
  -- document 01: the number n of facts
  pub atoms : ℕ
  -- those with a head; constraints are kept apart, so that displacing, reaching and branching go by these alone
  pub rules : List Rule
  -- document 02, (c): bodies that must never hold
  pub constraints : List (List Literal)
  pub below : ℕ → ℕ → Bool

-- Document 02, (h): bit i of the set is layer i's, and a layer whose bit is set is switched off for one drive.
unfoldable pub in_set : ℕ → ℕ → Bool
in_set off i = eqb (bit_of off i) 1

-- the driven layer, or one below it
abbrev pub AtOrBelow : Book → ℕ → ℕ → Type 0
AtOrBelow b layer i = (i ≡ layer) ⊎ T (layers.below b.arrows i layer)

-- Document 01: a rule is relevant at the driven layer if its layer is that layer or below it; document 02, (h): and is not switched
-- off. Paths through a layer that is switched off still count.
unfoldable pub relevant : Book → ℕ → ℕ → Rule → Bool
relevant b layer off r = (eqb r.layer layer || layers.below b.arrows r.layer layer) && not (in_set off r.layer)

-- the book as the driven layer sees it: its relevant rules, in their order, and the bodies of its relevant constraints
unfoldable pub program_at : Book → ℕ → ℕ → Program
program_at b layer off = record {
  atoms = b.atoms;
  rules = filter (λ r. relevant b layer off r && not (is_constraint r)) b.rules;
  constraints = map (λ r. r.body) (filter (λ r. relevant b layer off r && is_constraint r) b.rules);
  below = layers.below b.arrows;
}

-- the same facts and rules with other constraints
unfoldable pub constrained : Program → List (List Literal) → Program
constrained P bodies = record { atoms = P.atoms; rules = P.rules; constraints = bodies; below = P.below }
