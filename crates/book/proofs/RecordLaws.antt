-- Cause 6, record by record: the tests of the code decide whether a rule's record is good. Used by rule_ok.
-- Assumes nothing.
use mathlib.Core.Path.{◌≡◌, refl, sym, ap, subst, ◌∙◌}
use mathlib.Core.Bool.{Bool, true, false}
use mathlib.Core.List.{List}
use Prim.Native.Nat.{ℕ, ◌+◌, ◌*◌, ◌-◌, ◌/◌, ◌%◌, ◌<◌, ◌≤◌}
use native.Mathlib.Omega.{arith}
use borrow.Author.Tests.{lt-ltb, eq-eqb}
use lib.Dec.{T, eqb, eqb→eq}
use lib.ListN.{length, get_or, take, drop, length-drop}
use lib.Seq.{take_all}
use Rattle.base.specs.Bounds.{max_body}
use Rattle.base.specs.Lists.{all, any, up_to}
use Rattle.format.specs.Book.{literal_of, literals_of, rule_of}
use Rattle.book.specs.Causes.{rule_length, atom_below, head_ok, rule_ok}
use Rattle.base.proofs.UpTo.{passed, failed, up_to_lt, up_to_has}
use Rattle.base.proofs.Members.{any_at, any_of}

-- the length of a rule
off-length : (k : ℕ) → ((b : ℕ) → b < max_body + 1 → k ≡ 3 + 2 * b → ⊥) → rule_length k ≡ false
unfolding rule_length
off-length k h =
    failed (any (λ b. eqb k (3 + 2 * b)) (up_to (max_body + 1)))
    (λ t. let x = any_at (λ b. eqb k (3 + 2 * b)) (up_to (max_body + 1)) t in h x.0 (up_to_lt (max_body + 1) x.0 x.1) (eqb→eq k (3 + 2 * x.0) x.2))

-- by the body's bytes, as the code tests them
pub short_rule : (k : ℕ) → k < 3 → rule_length k ≡ false
short_rule k h = off-length k (λ b i e. omega arith)

pub long_rule : (k : ℕ) → 2 * max_body < k - 3 → rule_length k ≡ false
long_rule k h = off-length k (λ b i e. omega arith)

pub even_rule : (k : ℕ) → 3 ≤ k → ((k - 3) % 2 ≡ 0 → ⊥) → rule_length k ≡ false
even_rule k l h = off-length k (λ b i e. h (omega arith))

pub whole_rule : (k : ℕ) → 3 ≤ k → k - 3 ≤ 2 * max_body → (k - 3) % 2 ≡ 0 → rule_length k ≡ true
unfolding rule_length
whole_rule k h i n =
    passed (any (λ b. eqb k (3 + 2 * b)) (up_to (max_body + 1)))
    (any_of (λ b. eqb k (3 + 2 * b)) (up_to_has (max_body + 1) ((k - 3) / 2) (omega arith)) (subst T (sym (eq-eqb k (3 + 2 * ((k - 3) / 2)) (omega arith))) tt))

-- where all tests but the body's have passed, the body's decides
pub rule_is : (l n : ℕ) (r s : List ℕ) → 3 ≤ length r → s ≡ take (length r - 3) (drop 3 r) → length s ≤ 2 * max_body → length s % 2 ≡ 0 → get_or r 0 0 < l
    → head_ok n (literal_of (get_or r 1 0) (get_or r 2 0)) ≡ true → (t : Bool) → t ≡ all (atom_below n) (literals_of s) → t ≡ rule_ok l n r
unfolding rule_ok rule_of
rule_is l n r s h e b o low f t g =
    let d : s ≡ drop 3 r = e ∙ take_all (length r - 3) (drop 3 r) (simp length-drop (omega arith)) in
    let k : length s ≡ length r - 3 = ap length d ∙ length-drop 3 r in
    g ∙ sym (rw (whole_rule (length r) h (omega arith) (omega arith), lt-ltb (get_or r 0 0) l low, f, d) refl)
