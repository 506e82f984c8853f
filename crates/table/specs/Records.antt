-- What one walk over the rules' records gathers: an entry for each rule that counts, in their order. Assumes nothing.
use Rattle.std.specs.Prelude.{◌≡◌, Bool, true, false, ◌&&◌, List, [], ◌∷◌, map, ℕ, ◌+◌, ◌-◌, ◌<◌, ◌≤◌, length, get_or, take, drop, Option, Some, None}
use Rattle.base.specs.Bounds.{max_atoms, max_layers, max_rules}
use Rattle.base.specs.Lists.{filter}
use Rattle.format.specs.Book.{Literal, Rule, literal_of, literals_of, rule_of, records, is_falsity}
use Rattle.table.specs.declared.Row.{Row}
use Rattle.table.specs.declared.Span.{Span}
use Rattle.table.specs.Rows.{span_bytes, row_rule, in_mask, RowFits, SpanFits}

-- the rule of the record at an offset, and its head
abbrev pub head_at : List ℕ → ℕ → Literal
head_at s at = literal_of (get_or s (at + 2) 0) (get_or s (at + 3) 0)

unfoldable pub rule_at : List ℕ → ℕ → Rule
rule_at s at = record { layer = get_or s (at + 1) 0; head = head_at s at; body = literals_of (take (get_or s at 0 - 3) (drop (at + 4) s)) }

-- a whole record at an offset, with a layer within the bounds and, unless it is a constraint, a head within them
pub record RuleAt (s : List ℕ) (at : ℕ) : Type 0 where
  pub long : 3 ≤ get_or s at 0
  pub ends : at + 1 + get_or s at 0 ≤ length s
  pub layer_low : get_or s (at + 1) 0 < max_layers
  pub atom_low : is_falsity (head_at s at) ≡ false → (head_at s at).atom < max_atoms

-- the rules of the records from an offset on
abbrev pub rules_from : List ℕ → ℕ → List Rule
rules_from s at = map rule_of (records (drop at s))

-- an entry that stands for the rule, where the rule is taken
abbrev pub Gives : {E : Type 0} → Bool → (E → Type 0) → Option E → Type 0
Gives taken stands None = taken ≡ false
Gives taken stands (Some e) = (taken ≡ true) × stands e

-- entries and rules, one for one
abbrev pub Stand : {E : Type 0} → (E → Rule → Type 0) → List E → List Rule → Type 0
Stand stands [] [] = Unit {0}
Stand stands [] (r ∷ rs) = ⊥
Stand stands (e ∷ es) [] = ⊥
Stand stands (e ∷ es) (r ∷ rs) = stands e r × Stand stands es rs

-- the entries stand for the rules that pass the mask and are taken, in order
pub record Gathered {E : Type 0} (takes : Rule → Bool) (stands : List ℕ → E → Rule → Type 0) (book : List ℕ) (first mask : ℕ) (out : List E) : Type 0 where
  pub room : length out ≤ max_rules
  pub entries : Stand (stands book) out (filter (λ r. in_mask mask r && takes r) (rules_from book first))

-- a row of the rule
abbrev pub RowOf : List ℕ → Row → Rule → Type 0
RowOf book row r = (row_rule book row ≡ r) × RowFits book row

-- where the rule's body stands
abbrev pub BodyOf : List ℕ → Span → Rule → Type 0
BodyOf book span r = (literals_of (span_bytes book span) ≡ r.body) × SpanFits book span
