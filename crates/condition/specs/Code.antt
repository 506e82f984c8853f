-- Postfix code of a condition, what running it comes to, how high its stack gets, and the loop over the text.
-- Assumes nothing.
use Rattle.std.specs.Prelude.{Bool, true, not, ◌&&◌, ◌||◌, cond, List, [], ◌∷◌, ◌++◌, ℕ, ◌+◌, ◌*◌, ◌-◌, ◌/◌, ◌%◌, ◌^◌, ◌≤◌, max, eqb, ltb}
use Rattle.std.specs.List.{list_all}
use Rattle.models.specs.StableModels.{Interpretation, atom_holds}
use Rattle.models.specs.Listing.{bit_value}
use Rattle.grammar.specs.Conditions.{Condition, Atom, Not, And, Or, Bracket, opening, closing}
use Rattle.grammar.specs.Reader.{Operator, disjunction, conjunction}
use Rattle.condition.specs.declared.Code.{Code}
use Rattle.condition.specs.declared.Code.TheVariants as code

-- the code of an operator that stands between operands
abbrev pub code_of : Operator → Code
code_of conjunction = code.And
code_of disjunction = code.Or

-- operands first, then the operator
unfoldable pub postfix : Condition → List Code
postfix (Atom f) = code.Name f ∷ []
postfix (Not a) = postfix a ++ (code.Not ∷ [])
postfix (And a b) = postfix a ++ (postfix b ++ (code.And ∷ []))
postfix (Or a b) = postfix a ++ (postfix b ++ (code.Or ∷ []))
postfix (Bracket a) = postfix a

-- A stack of bits is a number, the top in the lowest bit; below the last bit there are zeros.
abbrev pub odd : ℕ → Bool
odd st = eqb (st % 2) 1

unfoldable pub push : ℕ → Bool → ℕ
push st b = 2 * st + bit_value b 1

-- one code: a fact's bit in the state is pushed; an operator takes its operands off the stack and pushes its value
abbrev pub step : Interpretation → Code → ℕ → ℕ
step m code.Not st = push (st / 2) (not (odd st))
step m code.And st = push (st / 4) (odd (st / 2) && odd st)
step m code.Or st = push (st / 4) (odd (st / 2) || odd st)
step m (code.Name f) st = push st (atom_holds m f)

-- the same in a number of 64 bits: those that lie deeper are lost
abbrev pub kept : Interpretation → ℕ → Code → ℕ
kept m st c = step m c st % 2 ^ 64

unfoldable pub run : Interpretation → List Code → ℕ → ℕ
run m [] st = st
run m (c ∷ cs) st = run m cs (step m c st)

-- the condition of this code holds in the state
unfoldable pub code_holds : List Code → Interpretation → Bool
code_holds codes m = odd (run m codes 0)

-- the bits of a stack behind a code, where there were h; at least one
abbrev pub height_by : ℕ → Code → ℕ
height_by h code.Not = h
height_by h code.And = max 1 (h - 1)
height_by h code.Or = max 1 (h - 1)
height_by h (code.Name f) = h + 1

-- the most bits that the stack ever has
unfoldable pub peak : ℕ → List Code → ℕ
peak h [] = h
peak h (c ∷ cs) = max h (peak (height_by h c) cs)

-- the stack fits a number of 64 bits
unfoldable pub StackFits : List Code → Type 0
StackFits codes = peak 1 codes ≤ 64

-- how many brackets are open behind a byte
abbrev pub opened : ℕ → ℕ → ℕ
opened d c = cond (eqb c opening) (d + 1) (cond (eqb c closing) (d - 1) d)

-- the most brackets that are open at once, where d are and at most b were
unfoldable pub deepest : ℕ → ℕ → List ℕ → ℕ
deepest d b [] = b
deepest d b (c ∷ s) = deepest (opened d c) (max b (opened d c)) s

-- whether a code is an operator or of a fact below n, and whether each is
abbrev pub code_below : ℕ → Code → Bool
code_below n code.Not = true
code_below n code.And = true
code_below n code.Or = true
code_below n (code.Name f) = ltb f n

abbrev pub codes_below : ℕ → List Code → Bool
codes_below n codes = list_all (code_below n) codes
