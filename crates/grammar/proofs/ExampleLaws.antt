-- Two worked examples: 3&!14|(2&5), and 1|2|3, which groups from the left and in no other way. Assumes nothing.
use mathlib.Core.Path.{◌≡◌}
use mathlib.Core.List.{List, [], ◌∷◌}
use Prim.Native.Nat.{ℕ, ◌+◌, ◌*◌, ◌-◌, ◌≤◌}
use native.Mathlib.Omega.{arith}
use Rattle.grammar.specs.Conditions.{Condition, Atom, Not, And, Or, Bracket, bracket-level, or-level, none, more, Reads, or_one, or_more, and_one, and_more, negated, bracketed, named}
use Rattle.grammar.proofs.OneReadingLaws.{one_reading}

-- a name of one digit
digit : (c : ℕ) → (48 ≤ c) × (c ≤ 57) → Reads bracket-level (Atom (0 * 10 + (c - 48))) (c ∷ [])
digit c k = named (more k (none _)) (omega arith) (omega arith)

fourteen : Reads bracket-level (Atom 14) (49 ∷ (52 ∷ []))
fourteen = named (more {c = 49} (omega arith, omega arith) (more {c = 52} (omega arith, omega arith) (none 14))) (omega arith) (omega arith)

pub desk_example : Reads or-level (Or (And (Atom 3) (Not (Atom 14))) (Bracket (And (Atom 2) (Atom 5)))) (51 ∷ (38 ∷ (33 ∷ (49 ∷ (52 ∷ (124 ∷ (40 ∷ (50 ∷ (38 ∷ (53 ∷ (41 ∷ [])))))))))))
desk_example =
    or_more (or_one (and_more (and_one (digit 51 (omega arith, omega arith))) (negated fourteen)))
    (and_one (bracketed (or_one (and_more (and_one (digit 50 (omega arith, omega arith))) (digit 53 (omega arith, omega arith))))))

abbrev one_or_two_or_three : List ℕ
one_or_two_or_three = 49 ∷ (124 ∷ (50 ∷ (124 ∷ (51 ∷ []))))

pub grouped_left : Reads or-level (Or (Or (Atom 1) (Atom 2)) (Atom 3)) one_or_two_or_three
grouped_left =
    or_more (or_more (or_one (and_one (digit 49 (omega arith, omega arith)))) (and_one (digit 50 (omega arith, omega arith)))) (and_one (digit 51 (omega arith, omega arith)))

pub grouped_no_other_way : (a : Condition) → Reads or-level a one_or_two_or_three → a ≡ Or (Or (Atom 1) (Atom 2)) (Atom 3)
grouped_no_other_way a h = one_reading a (Or (Or (Atom 1) (Atom 2)) (Atom 3)) one_or_two_or_three h grouped_left
