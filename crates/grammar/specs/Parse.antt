-- The decided reading of a text: what a reader from the left comes to (Reader.antt), as a function. proofs/ParseLaws.antt proves that a
-- text has this reading exactly if the grammar gives it one (`ReadExactly`). Assumes nothing.
use Rattle.std.specs.Prelude.{◌≡◌, ◌↔◌, Bool, ◌&&◌, cond, List, [], ◌∷◌, ℕ, zero, suc, ◌+◌, ◌*◌, ◌-◌, eqb, leb, length, Option, Some, None}
use Rattle.grammar.specs.Conditions.{Condition, Atom, Not, Bracket, exclamation, opening, closing, max_digits, Reads, or-level}
use Rattle.grammar.specs.Reader.{byte_of, disjunction, nothing, after, joined, Task, from, on, bracket, operand}

-- a condition and the bytes left behind it, or that what stands there is none
abbrev pub Parsed : Type 0
Parsed = Option (Condition × List ℕ)

abbrev pub taken : Condition → List ℕ → Parsed
taken a u = Some (a, u)

-- where something was taken, what comes of it
unfoldable pub follow : Parsed → (Condition → List ℕ → Parsed) → Parsed
follow (Some (a, u)) next = next a u
follow None next = None

-- the bytes of `0` to `9`
unfoldable pub is_digit : ℕ → Bool
is_digit c = leb 48 c && leb c 57

-- "one to four digits"
unfoldable pub is_name_length : ℕ → Bool
is_name_length k = leb 1 k && leb k max_digits

-- the name v of k digits, with the bytes u behind it
unfoldable pub name_of : ℕ → ℕ → List ℕ → Parsed
name_of k v u = cond (is_name_length k) (taken (Atom v) u) None

-- a name with k digits so far, which give the number v: the digits go as far as they can
unfoldable pub name_from : ℕ → ℕ → List ℕ → Parsed
name_from k v [] = name_of k v []
name_from k v (c ∷ s) = cond (is_digit c) (name_from (suc k) (v * 10 + (c - 48)) s) (name_of k v (c ∷ s))

-- a condition that a bracket has to follow
unfoldable pub shut : Condition → List ℕ → Parsed
shut a [] = None
shut a (c ∷ u) = cond (eqb c closing) (taken (Bracket a) u) None

-- reading for a task at these bytes, in so many steps at most
unfoldable pub parse : ℕ → Task → List ℕ → Parsed
parse zero k s = None
parse (suc n) (from o p) s = follow (parse n (operand o) s) (λ b t. parse n (on o (joined o p b)) t)
parse (suc n) (on o a) [] = taken a []
parse (suc n) (on o a) (c ∷ t) = cond (eqb c (byte_of o)) (parse n (from o (after a)) t) (taken a (c ∷ t))
parse (suc n) bracket [] = None
parse (suc n) bracket (c ∷ t) =
    cond (eqb c exclamation) (follow (parse n bracket t) (λ a u. taken (Not a) u))
    (cond (eqb c opening) (follow (parse n (from disjunction nothing) t) shut) (name_from 0 0 (c ∷ t)))

-- three steps a byte, as there are three levels
abbrev pub steps : List ℕ → ℕ
steps s = 3 * length s + 3

-- a text's one reading, where it is read to its end
unfoldable pub whole : Parsed → Option Condition
whole (Some (a, [])) = Some a
whole (Some (a, c ∷ u)) = None
whole None = None

-- the reading of a text, or that it has none
unfoldable pub reading_of : List ℕ → Option Condition
reading_of s = whole (parse (steps s) (from disjunction nothing) s)

-- a text is read, and as this condition, exactly if the grammar reads it so
abbrev pub ReadExactly : Type 0
ReadExactly = (s : List ℕ) (a : Condition) → (reading_of s ≡ Some a) ↔ Reads or-level a s
