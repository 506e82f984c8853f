-- Running postfix code on a stack of bits comes to the condition's value. Used by `push`, `evaluate` and `read_condition`.
-- Assumes nothing.
use mathlib.Core.Path.{◌≡◌, refl, sym, ap, ap₂, subst, ◌∙◌}
use mathlib.Core.Bool.{Bool, true, false, not, ◌&&◌, ◌||◌}
use mathlib.Core.List.{List, [], ◌∷◌, ◌++◌, append_assoc, append-nil}
use Prim.Native.Nat.{ℕ, zero, suc, ◌+◌, ◌*◌, ◌-◌, ◌/◌, ◌%◌, ◌^◌, ◌≤◌, ◌<◌, max}
use native.Mathlib.Nat.{pow-suc, pow-le-pow_right, mod-eq_of_lt}
use native.Mathlib.Numerals.{add-one}
use native.Mathlib.Omega.{arith}
use mir.Val.{bool_byte}
use lib.Dec.{eqb}
use Rattle.std.specs.List.{fold}
use Rattle.models.specs.StableModels.{Interpretation, atom_holds}
use Rattle.models.specs.Listing.{bit_value}
use Rattle.models.proofs.RecordLaws.{bit_le}
use Rattle.grammar.specs.Conditions.{Condition, Atom, Not, And, Or, Bracket, fits}
use Rattle.condition.specs.declared.Code.{Code}
use Rattle.condition.specs.declared.Code.TheVariants as code
use Rattle.condition.specs.Code.{postfix, odd, push, step, kept, run, code_holds, height_by, peak, StackFits}
use Rattle.condition.proofs.StackLaws.{peak-least}

-- ---- bits
odd_one : (st : ℕ) → st % 2 ≡ 1 → odd st ≡ true
odd_one st e = ap (λ (x : ℕ). eqb x 1) e

odd-zero : (st : ℕ) → st % 2 ≡ 0 → odd st ≡ false
odd-zero st e = ap (λ (x : ℕ). eqb x 1) e

pub pushed : (st : ℕ) (b : Bool) → 2 * st % 2 ^ 64 + bool_byte b ≡ push st b % 2 ^ 64
unfolding push bit_value
pushed st true = omega arith
pushed st false = omega arith

-- ---- how large a stack gets
push-small : (st h : ℕ) (b : Bool) → st < 2 ^ h → push st b < 2 ^ suc h
unfolding push
push-small st h b k = omega (arith, pow-suc 2 h, bit_le b)

-- an operator leaves at least one bit
operator_small : (st h : ℕ) (b : Bool) → 1 ≤ h → st < 2 ^ h → push (st / 4) b < 2 ^ max 1 (h - 1)
operator_small st zero b s k = absurd (omega arith)
operator_small st (suc zero) b s k = let e : st / 4 < 2 ^ 0 = omega arith in push-small (st / 4) 0 b e
operator_small st (suc (suc h)) b s k =
    let e : max 1 (suc (suc h) - 1) ≡ suc h = omega arith in
    subst (λ (x : ℕ). push (st / 4) b < 2 ^ x) (sym e) (push-small (st / 4) h b (omega (arith, pow-suc 2 (suc h), pow-suc 2 h)))

not-small : (st h : ℕ) (b : Bool) → 1 ≤ h → st < 2 ^ h → push (st / 2) b < 2 ^ h
not-small st zero b s k = absurd (omega arith)
not-small st (suc h) b s k = push-small (st / 2) h b (omega (arith, pow-suc 2 h))

step_small : (m : Interpretation) (c : Code) (st h : ℕ) → 1 ≤ h → st < 2 ^ h → step m c st < 2 ^ height_by h c
step_small m code.Not st h s k = not-small st h (not (odd st)) s k
step_small m code.And st h s k = operator_small st h (odd (st / 2) && odd st) s k
step_small m code.Or st h s k = operator_small st h (odd (st / 2) || odd st) s k
step_small m (code.Name f) st h s k = subst (λ (x : ℕ). push st (atom_holds m f) < 2 ^ x) (sym (add-one h)) (push-small st h (atom_holds m f) k)

height_some : (h : ℕ) (c : Code) → 1 ≤ h → 1 ≤ height_by h c
height_some h code.Not s = s
height_some h code.And s = omega arith
height_some h code.Or s = omega arith
height_some h (code.Name f) s = omega arith

-- ---- the fold over the code
-- no bit is lost where the stack fits
fold_run : (m : Interpretation) (cs : List Code) (st h : ℕ) → 1 ≤ h → st < 2 ^ h → peak h cs ≤ 64 → fold (kept m) st cs ≡ run m cs st
unfolding run peak
fold_run m [] st h s k l = refl
fold_run m (c ∷ cs) st h s k l =
    let next : step m c st < 2 ^ height_by h c = step_small m c st h s k in
    let most : height_by h c ≤ 64 = omega (arith, l, peak-least (height_by h c) cs) in
    let whole : kept m st c ≡ step m c st = mod-eq_of_lt (omega (arith, next, pow-le-pow_right {n = 2} (omega arith) most)) in
    ap (λ (x : ℕ). fold (kept m) x cs) whole ∙ fold_run m cs (step m c st) (height_by h c) (height_some h c s) next (omega (arith, l))

pub fold_holds : (codes : List Code) (m : Interpretation) → StackFits codes → odd (fold (kept m) 0 codes) ≡ code_holds codes m
unfolding StackFits code_holds
fold_holds codes m h = ap odd (fold_run m codes 0 1 (omega arith) (omega arith) h)

-- ---- the code of a condition pushes its value
push-odd : (st : ℕ) (b : Bool) → odd (push st b) ≡ b
unfolding push bit_value
push-odd st true = odd_one (2 * st + 1) (omega arith)
push-odd st false = odd-zero (2 * st + 0) (omega arith)

push_half : (st : ℕ) (b : Bool) → push st b / 2 ≡ st
unfolding push
push_half st b = omega (arith, bit_le b)

push_quarter : (st : ℕ) (a b : Bool) → push (push st a) b / 4 ≡ st
unfolding push
push_quarter st a b = omega (arith, bit_le a, bit_le b)

-- the two operands on top
second_odd : (st : ℕ) (a b : Bool) → odd (push (push st a) b / 2) ≡ a
second_odd st a b = ap odd (push_half (push st a) b) ∙ push-odd st a

run-postfix : (m : Interpretation) (w : Condition) (cs : List Code) (st : ℕ) → run m (postfix w ++ cs) st ≡ run m cs (push st (fits m w))
unfolding run postfix fits
run-postfix m (Atom f) cs st = refl
run-postfix m (Not a) cs st =
    ap (λ (l : List Code). run m l st) (append_assoc (postfix a) (code.Not ∷ []) cs) ∙ run-postfix m a (code.Not ∷ cs) st
    ∙ ap (run m cs) (ap₂ push (push_half st (fits m a)) (ap not (push-odd st (fits m a))))
run-postfix m (And a b) cs st =
    ap (λ (l : List Code). run m l st) (append_assoc (postfix a) (postfix b ++ (code.And ∷ [])) cs) ∙ run-postfix m a ((postfix b ++ (code.And ∷ [])) ++ cs) st
    ∙ ap (λ (l : List Code). run m l (push st (fits m a))) (append_assoc (postfix b) (code.And ∷ []) cs) ∙ run-postfix m b (code.And ∷ cs) (push st (fits m a))
    ∙ ap (run m cs) (ap₂ push (push_quarter st (fits m a) (fits m b)) (ap₂ (λ (x y : Bool). x && y) (second_odd st (fits m a) (fits m b)) (push-odd (push st (fits m a)) (fits m b))))
run-postfix m (Or a b) cs st =
    ap (λ (l : List Code). run m l st) (append_assoc (postfix a) (postfix b ++ (code.Or ∷ [])) cs) ∙ run-postfix m a ((postfix b ++ (code.Or ∷ [])) ++ cs) st
    ∙ ap (λ (l : List Code). run m l (push st (fits m a))) (append_assoc (postfix b) (code.Or ∷ []) cs) ∙ run-postfix m b (code.Or ∷ cs) (push st (fits m a))
    ∙ ap (run m cs) (ap₂ push (push_quarter st (fits m a) (fits m b)) (ap₂ (λ (x y : Bool). x || y) (second_odd st (fits m a) (fits m b)) (push-odd (push st (fits m a)) (fits m b))))
run-postfix m (Bracket a) cs st = run-postfix m a cs st

pub code_value : (m : Interpretation) (w : Condition) → odd (run m (postfix w) 0) ≡ fits m w
unfolding run
code_value m w = ap (λ (l : List Code). odd (run m l 0)) (sym (append-nil (postfix w))) ∙ ap odd (run-postfix m w [] 0) ∙ push-odd 0 (fits m w)
