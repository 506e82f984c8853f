-- What a reader that goes through a condition from the left comes to, with the tree that it has so far. Assumes nothing.
use Rattle.std.specs.Prelude.{◌≡◌, List, ◌∷◌, ◌++◌, ℕ, ◌≤◌, length}
use Rattle.grammar.specs.Conditions.{Condition, Atom, Not, And, Or, Bracket, bar, ampersand, exclamation, opening, closing, Digit, Digits, max_digits}

-- the two operators that stand between operands
pub data Operator : Type 0 where
  disjunction conjunction : Operator

abbrev pub byte_of : Operator → ℕ
byte_of disjunction = bar
byte_of conjunction = ampersand

-- what stands before an operand at its level: nothing, or a condition and the operator
pub data Before : Type 0 where
  nothing : Before
  after : Condition → Before

abbrev pub joined : Operator → Before → Condition → Condition
joined o nothing b = b
joined disjunction (after a) b = Or a b
joined conjunction (after a) b = And a b

-- what is to be read: operands of an operator, what goes on behind the operands so far, or an operand of `&`
pub data Task : Type 0 where
  from : Operator → Before → Task
  on : Operator → Condition → Task
  bracket : Task

abbrev pub operand : Operator → Task
operand disjunction = from conjunction nothing
operand conjunction = bracket

-- the bytes do not go on with this one; nor with a digit
abbrev pub Stops : ℕ → List ℕ → Type 0
Stops c s = (t : List ℕ) → s ≡ c ∷ t → ⊥

abbrev pub NoDigit : List ℕ → Type 0
NoDigit s = (c : ℕ) (t : List ℕ) → s ≡ c ∷ t → Digit c → ⊥

-- reading for a task at these bytes gives a condition, and leaves the bytes behind it
pub data Took : Task → List ℕ → Condition → List ℕ → Type 0 where
  operand_took : {o : Operator} {p : Before} {s t u : List ℕ} {a b w : Condition} → Took (operand o) s b t → a ≡ joined o p b → Took (on o a) t w u → Took (from o p) s w u
  operator_stop : {o : Operator} {s : List ℕ} {a : Condition} → Stops (byte_of o) s → Took (on o a) s a s
  operator_go : {o : Operator} {s t u : List ℕ} {a w : Condition} → s ≡ byte_of o ∷ t → Took (from o (after a)) t w u → Took (on o a) s w u
  not_took : {s t u : List ℕ} {a : Condition} → s ≡ exclamation ∷ t → Took bracket t a u → Took bracket s (Not a) u
  shut_took : {s t v u : List ℕ} {a : Condition} → s ≡ opening ∷ t → Took (from disjunction nothing) t a v → v ≡ closing ∷ u → Took bracket s (Bracket a) u
  name_took : {s t u : List ℕ} {f : ℕ} → s ≡ t ++ u → Digits 0 t f → 1 ≤ length t → length t ≤ max_digits → NoDigit u → Took bracket s (Atom f) u
