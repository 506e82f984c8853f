-- How high the stack of a condition's code gets: two bits for each bracket that is open, and three more. Used by `read_condition`.
-- Assumes nothing.
use mathlib.Core.Path.{◌≡◌, refl, sym, ap, ◌∙◌}
use mathlib.Core.List.{List, [], ◌∷◌, ◌++◌, append_assoc, append-nil}
use Prim.Native.Nat.{ℕ, ◌+◌, ◌*◌, ◌-◌, ◌≤◌, max}
use native.Mathlib.Omega.{arith}
use Rattle.grammar.specs.Conditions.{Condition, Atom, Not, And, Or, Bracket, Level, or-level, and-level, bracket-level, Reads, or_one, or_more, and_one, and_more, negated, bracketed, named, depth}
use Rattle.condition.specs.Code.{postfix, height_by, peak}
use Rattle.condition.specs.declared.Code.{Code}
use Rattle.condition.specs.declared.Code.TheVariants as code
use Rattle.condition.specs.Causes.{max_depth}

-- by how many bits a condition's code raises the stack at most
rise : Condition → ℕ
rise (Atom f) = 1
rise (Not a) = rise a
rise (And a b) = max (rise a) (1 + rise b)
rise (Or a b) = max (rise a) (1 + rise b)
rise (Bracket a) = rise a

rise_some : (w : Condition) → 1 ≤ rise w
unfolding rise
rise_some (Atom f) = omega arith
rise_some (Not a) = rise_some a
rise_some (And a b) = omega (arith, rise_some a)
rise_some (Or a b) = omega (arith, rise_some a)
rise_some (Bracket a) = rise_some a

pub peak-least : (h : ℕ) (cs : List Code) → h ≤ peak h cs
unfolding peak
peak-least h [] = omega arith
peak-least h (c ∷ cs) = omega arith

name-peak : (h f : ℕ) (cs : List Code) → peak h (code.Name f ∷ cs) ≡ peak (h + 1) cs
unfolding peak
name-peak h f cs = omega (arith, peak-least (h + 1) cs)

-- an operator of two operands, behind the second
two_peak : (h : ℕ) (c : Code) (cs : List Code) → height_by (h + 1 + 1) c ≡ max 1 (h + 1 + 1 - 1) → peak (h + 1 + 1) (c ∷ cs) ≡ max (h + 2) (peak (h + 1) cs)
unfolding peak
two_peak h c cs e =
    let f : max 1 (h + 1 + 1 - 1) ≡ h + 1 = omega arith in
    let g : h + 1 + 1 ≡ h + 2 = omega arith in
    ap (λ (x : ℕ). max (h + 1 + 1) (peak x cs)) (e ∙ f) ∙ ap (λ (x : ℕ). max x (peak (h + 1) cs)) g

peak-postfix : (w : Condition) (h : ℕ) (cs : List Code) → peak h (postfix w ++ cs) ≡ max (h + rise w) (peak (h + 1) cs)
unfolding peak postfix rise
peak-postfix (Atom f) h cs = name-peak h f cs ∙ omega (arith, peak-least (h + 1) cs)
peak-postfix (Not a) h cs =
    ap (peak h) (append_assoc (postfix a) (code.Not ∷ []) cs) ∙ peak-postfix a h (code.Not ∷ cs) ∙ omega (arith, peak-least (h + 1) cs)
peak-postfix (And a b) h cs =
    ap (peak h) (append_assoc (postfix a) (postfix b ++ (code.And ∷ [])) cs ∙ ap (λ (l : List Code). postfix a ++ l) (append_assoc (postfix b) (code.And ∷ []) cs))
    ∙ peak-postfix a h (postfix b ++ (code.And ∷ cs))
    ∙ ap (λ (x : ℕ). max (h + rise a) x) (peak-postfix b (h + 1) (code.And ∷ cs) ∙ ap (λ (x : ℕ). max (h + 1 + rise b) x) (two_peak h code.And cs refl))
    ∙ omega (arith, rise_some b)
peak-postfix (Or a b) h cs =
    ap (peak h) (append_assoc (postfix a) (postfix b ++ (code.Or ∷ [])) cs ∙ ap (λ (l : List Code). postfix a ++ l) (append_assoc (postfix b) (code.Or ∷ []) cs))
    ∙ peak-postfix a h (postfix b ++ (code.Or ∷ cs))
    ∙ ap (λ (x : ℕ). max (h + rise a) x) (peak-postfix b (h + 1) (code.Or ∷ cs) ∙ ap (λ (x : ℕ). max (h + 1 + rise b) x) (two_peak h code.Or cs refl))
    ∙ omega (arith, rise_some b)
peak-postfix (Bracket a) h cs = peak-postfix a h cs

-- an operand waits at each of the two upper levels
abbrev waiting : Level → ℕ
waiting bracket-level = 1
waiting and-level = 2
waiting or-level = 3

rise_depth : {l : Level} {a : Condition} {s : List ℕ} → Reads l a s → rise a ≤ 2 * depth a + waiting l
unfolding rise depth
rise_depth (or_one h) = omega (arith, rise_depth h)
rise_depth (or_more h k) = omega (arith, rise_depth h, rise_depth k)
rise_depth (and_one h) = omega (arith, rise_depth h)
rise_depth (and_more h k) = omega (arith, rise_depth h, rise_depth k)
rise_depth (negated h) = rise_depth h
rise_depth (bracketed h) = omega (arith, rise_depth h)
rise_depth (named d some few) = omega arith

pub stack-low : {a : Condition} {s : List ℕ} → Reads or-level a s → depth a ≤ max_depth → peak 1 (postfix a) ≤ 64
unfolding peak
stack-low {a} h k = omega (arith, ap (peak 1) (sym (append-nil (postfix a))) ∙ peak-postfix a 1 [], rise_depth h)
