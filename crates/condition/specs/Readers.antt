-- What the reader of a condition takes: a byte, or a condition at one of the levels. Assumes nothing.
use Rattle.std.specs.Prelude.{◌≡◌, Bool, true, false, List, ◌∷◌, ◌++◌, ℕ, ◌+◌, ◌≤◌, length, Some, None}
use Rattle.std.specs.declared.option.Option.{Option}
use Rattle.grammar.specs.Conditions.{Condition}
use Rattle.grammar.specs.Reader.{Task, Took}
use Rattle.condition.specs.declared.Reader.{Reader}
use Rattle.condition.specs.Code.{postfix}

-- the next byte was c, and it was passed; or it is another, and nothing was
abbrev pub Passes : ℕ → Reader → Reader → Bool → Type 0
Passes c old new true = (old.rest.now ≡ c ∷ new.rest.now) × (new.code ≡ old.code)
Passes c old new false = (new ≡ old) × ((s : List ℕ) → old.rest.now ≡ c ∷ s → ⊥)

-- a condition was read, and its code stands behind the codes before
pub record Written (k : Task) (old new : Reader) : Type 0 where
  pub tree : Condition
  pub took : Took k old.rest.now tree new.rest.now
  pub wrote : new.code ≡ old.code ++ postfix tree
  pub room : length new.code + length new.rest.now ≤ length old.code + length old.rest.now

-- a reading and its code, or nothing that stands there can be read
abbrev pub Outcome : Task → Reader → Reader → Option (Unit {0}) → Type 0
Outcome k old new (Some u) = Written k old new
Outcome k old new None = (w : Condition) (u : List ℕ) → Took k old.rest.now w u → ⊥
