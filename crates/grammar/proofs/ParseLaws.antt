-- The decided reading is the grammar's: what `parse` takes is what a reader from the left comes to (`parse-sound`), and it has steps
-- enough to come to all of it (`parse_complete`). Assumes nothing.
use mathlib.Core.Path.{◌≡◌, refl, sym, ap, subst, ◌∙◌}
use mathlib.Core.Bool.{Bool, true, false, ◌&&◌, cond, false≢true}
use mathlib.Core.List.{List, [], ◌∷◌, ◌++◌}
use Prim.Native.Nat.{ℕ, zero, suc, ◌+◌, ◌*◌, ◌-◌, ◌≤◌, ◌<◌}
use native.Mathlib.Omega.{arith}
use borrow.Author.Tests.{eq-eqb, ne_eqb, eqb-true, eqb-false, le-leb, leb-true}
use lib.Dec.{eqb, leb}
use lib.ListN.{length, length-append}
use Rattle.grammar.specs.Conditions.{Condition, Atom, Not, Bracket, Digit, Digits, none, more, max_digits, Reads, or-level}
use Rattle.grammar.specs.Reader.{Operator, disjunction, conjunction, byte_of, Before, nothing, after, joined, Task, from, on, bracket, operand, NoDigit, Took, operand_took, operator_stop, operator_go, not_took, shut_took, name_took}
use Rattle.std.specs.Prelude.{Option, Some, None}
use Rattle.grammar.specs.Parse.{Parsed, taken, follow, is_digit, is_name_length, name_of, name_from, shut, parse, steps, whole, reading_of, ReadExactly}
use Rattle.grammar.proofs.OneReadingLaws as reading
use Rattle.grammar.proofs.SoundLaws.{read_whole}

-- ---- a test that passed or failed
never : {A : Type 0} {a : Condition} {u : List ℕ} → ◌≡◌ {A = Parsed} None (taken a u) → A
never e = let z : ◌≡◌ {A = ℕ} 0 1 = cc in absurd (omega arith)

taken_same : {a b : Condition} {u v : List ℕ} → taken a u ≡ taken b v → (a ≡ b) × (u ≡ v)
taken_same {a} {b} {u} {v} e =
    let p : ◌≡◌ {A = Condition × List ℕ} (a, u) (b, v) = cc in
    (ap (λ (x : Condition × List ℕ). x.0) p, ap (λ (x : Condition × List ℕ). x.1) p)

both : (a b : Bool) → (a && b) ≡ true → (a ≡ true) × (b ≡ true)
both true b e = (refl, e)
both false b e = let z : ◌≡◌ {A = ℕ} 0 1 = cc in absurd (omega arith)

digit_is : (c : ℕ) → is_digit c ≡ true → Digit c
unfolding is_digit
digit_is c e = let h = both (leb 48 c) (leb c 57) e in (leb-true 48 c h.0, leb-true c 57 h.1)

is_digit_lem : (c : ℕ) → Digit c → is_digit c ≡ true
unfolding is_digit
is_digit_lem c h = rw (le-leb 48 c h.0, le-leb c 57 h.1) refl

no_digit : (c : ℕ) → (Digit c → ⊥) → is_digit c ≡ false
no_digit c n = go (is_digit c) refl
  where
    go : (b : Bool) → is_digit c ≡ b → b ≡ false
    go true e = absurd (n (digit_is c e))
    go false e = refl

length_is : (k : ℕ) → is_name_length k ≡ true → (1 ≤ k) × (k ≤ max_digits)
unfolding is_name_length
length_is k e = let h = both (leb 1 k) (leb k max_digits) e in (leb-true 1 k h.0, leb-true k max_digits h.1)

is_length : (k : ℕ) → 1 ≤ k → k ≤ max_digits → is_name_length k ≡ true
unfolding is_name_length
is_length k some few = rw (le-leb 1 k some, le-leb k max_digits few) refl

-- ---- what is taken is what the reader comes to
-- digits behind k digits that give v: they are a name, and end where no digit follows
record NameTaken (k v : ℕ) (s : List ℕ) (w : Condition) (u : List ℕ) : Type 0 where
  text : List ℕ
  number : ℕ
  split : s ≡ text ++ u
  digits : Digits v text number
  tree : w ≡ Atom number
  some : 1 ≤ k + length text
  few : k + length text ≤ max_digits
  ends : NoDigit u

ends_here : (k v : ℕ) (s : List ℕ) (w : Condition) (u : List ℕ) → NoDigit s → name_of k v s ≡ taken w u → NameTaken k v s w u
unfolding name_of
ends_here k v s w u n e = go (is_name_length k) refl e
  where
    go : (b : Bool) → is_name_length k ≡ b → cond b (taken (Atom v) s) None ≡ taken w u → NameTaken k v s w u
    go true f g =
        let r : s ≡ u = (taken_same g).1 in
        let x : w ≡ Atom v = sym (taken_same g).0 in
        record {
          text = [];
          number = v;
          split = r;
          digits = none v;
          tree = x;
          some = omega (arith, length_is k f);
          few = omega (arith, length_is k f);
          ends = subst NoDigit r n;
        }
    go false f g = never g

name-sound : (k v : ℕ) (s : List ℕ) (w : Condition) (u : List ℕ) → name_from k v s ≡ taken w u → NameTaken k v s w u
unfolding name_from
name-sound k v [] w u e = ends_here k v [] w u (λ c t f d. omega (arith, ap length f)) e
name-sound k v (c ∷ s) w u e = go (name-sound (suc k) (v * 10 + (c - 48)) s w u) (is_digit c) refl e
  where
    go : (name_from (suc k) (v * 10 + (c - 48)) s ≡ taken w u → NameTaken (suc k) (v * 10 + (c - 48)) s w u)
        → (b : Bool) → is_digit c ≡ b → cond b (name_from (suc k) (v * 10 + (c - 48)) s) (name_of k v (c ∷ s)) ≡ taken w u → NameTaken k v (c ∷ s) w u
    go rest true f g =
        let x = rest g in
        record {
          text = c ∷ x.text;
          number = x.number;
          split = ap (λ (l : List ℕ). c ∷ l) x.split;
          digits = more (digit_is c f) x.digits;
          tree = x.tree;
          some = omega (arith, x.some);
          few = omega (arith, x.few);
          ends = x.ends;
        }
    go rest false f g = ends_here k v (c ∷ s) w u (λ d t h j. false≢true (sym f ∙ is_digit_lem c (subst Digit (sym (reading.first_same h)) j))) g

-- a step that followed another
record Followed (p : Parsed) (next : Condition → List ℕ → Parsed) (w : Condition) (u : List ℕ) : Type 0 where
  tree : Condition
  left : List ℕ
  first : p ≡ taken tree left
  then : next tree left ≡ taken w u

followed : (p : Parsed) (next : Condition → List ℕ → Parsed) (w : Condition) (u : List ℕ) → follow p next ≡ taken w u → Followed p next w u
unfolding follow
followed (Some (a, t)) next w u e = record { tree = a; left = t; first = refl; then = e }
followed None next w u e = never e

shut-sound : (a : Condition) (v : List ℕ) (w : Condition) (u : List ℕ) → shut a v ≡ taken w u → (v ≡ 41 ∷ u) × (w ≡ Bracket a)
unfolding shut
shut-sound a [] w u e = never e
shut-sound a (c ∷ v) w u e = go (eqb c 41) refl e
  where
    go : (b : Bool) → eqb c 41 ≡ b → cond b (taken (Bracket a) v) None ≡ taken w u → (c ∷ v ≡ 41 ∷ u) × (w ≡ Bracket a)
    go true f g = let r : v ≡ u = (taken_same g).1 in let x : w ≡ Bracket a = sym (taken_same g).0 in (rw (eqb-true c 41 f, r) refl, x)
    go false f g = never g

parse-sound : (n : ℕ) (k : Task) (s : List ℕ) (w : Condition) (u : List ℕ) → parse n k s ≡ taken w u → Took k s w u
unfolding parse
parse-sound zero k s w u e = never e
parse-sound (suc n) (from o p) s w u e =
    let x = followed (parse n (operand o) s) (λ b t. parse n (on o (joined o p b)) t) w u e in
    operand_took (parse-sound n (operand o) s x.tree x.left x.first) refl (parse-sound n (on o (joined o p x.tree)) x.left w u x.then)
parse-sound (suc n) (on o a) [] w u e =
    let x : a ≡ w = (taken_same e).0 in
    let r : [] ≡ u = (taken_same e).1 in
    subst (λ (c : Condition). Took (on o a) [] c u) x (subst (λ (l : List ℕ). Took (on o a) [] a l) r (operator_stop (λ t f. omega (arith, ap length f))))
parse-sound (suc n) (on o a) (c ∷ t) w u e = go (parse-sound n (from o (after a)) t w u) (eqb c (byte_of o)) refl e
  where
    go : (parse n (from o (after a)) t ≡ taken w u → Took (from o (after a)) t w u) → (b : Bool) → eqb c (byte_of o) ≡ b → cond b (parse n (from o (after a)) t) (taken a (c ∷ t)) ≡ taken w u → Took (on o a) (c ∷ t) w u
    go rest true f g = operator_go (ap (λ (x : ℕ). x ∷ t) (eqb-true c (byte_of o) f)) (rest g)
    go rest false f g =
        let x : a ≡ w = (taken_same g).0 in
        let r : c ∷ t ≡ u = (taken_same g).1 in
        subst (λ (y : Condition). Took (on o a) (c ∷ t) y u) x
        (subst (λ (l : List ℕ). Took (on o a) (c ∷ t) a l) r (operator_stop (λ y h. eqb-false c (byte_of o) f (reading.first_same h))))
parse-sound (suc n) bracket [] w u e = never e
parse-sound (suc n) bracket (c ∷ t) w u e = go (λ k a v. parse-sound n k t a v) (eqb c 33) (eqb c 40) refl refl e
  where
    go : ((k : Task) (a : Condition) (v : List ℕ) → parse n k t ≡ taken a v → Took k t a v) → (b d : Bool) → eqb c 33 ≡ b → eqb c 40 ≡ d
        → cond b (follow (parse n bracket t) (λ a u. taken (Not a) u)) (cond d (follow (parse n (from disjunction nothing) t) shut) (name_from 0 0 (c ∷ t))) ≡ taken w u
        → Took bracket (c ∷ t) w u
    go rest true d f h g =
        let x = followed (parse n bracket t) (λ a u. taken (Not a) u) w u g in
        let y : Not x.tree ≡ w = (taken_same x.then).0 in
        let r : x.left ≡ u = (taken_same x.then).1 in
        subst (λ (z : Condition). Took bracket (c ∷ t) z u) y
        (not_took (ap (λ (z : ℕ). z ∷ t) (eqb-true c 33 f)) (rest bracket x.tree u (x.first ∙ ap (λ (l : List ℕ). taken x.tree l) r)))
    go rest false true f h g =
        let x = followed (parse n (from disjunction nothing) t) shut w u g in
        let y = shut-sound x.tree x.left w u x.then in
        subst (λ (z : Condition). Took bracket (c ∷ t) z u) (sym y.1)
        (shut_took (ap (λ (z : ℕ). z ∷ t) (eqb-true c 40 h)) (rest (from disjunction nothing) x.tree x.left x.first) y.0)
    go rest false false f h g =
        let x = name-sound 0 0 (c ∷ t) w u g in
        subst (λ (z : Condition). Took bracket (c ∷ t) z u) (sym x.tree) (name_took x.split x.digits (omega (arith, x.some)) (omega (arith, x.few)) x.ends)

-- ---- what the reader comes to is taken
-- the steps that a task takes besides three a byte
abbrev rank : Task → ℕ
rank (from disjunction p) = 2
rank (from conjunction p) = 1
rank (on o a) = 0
rank bracket = 0

-- the bytes that a task passes at least
abbrev passes : Task → ℕ
passes (from o p) = 1
passes (on o a) = 0
passes bracket = 1

operand_rank : (o : Operator) (p : Before) → rank (operand o) < rank (from o p)
operand_rank disjunction p = omega arith
operand_rank conjunction p = omega arith

from_rank : (o : Operator) (p : Before) → (1 ≤ rank (from o p)) × (rank (from o p) ≤ 2)
from_rank disjunction p = (omega arith, omega arith)
from_rank conjunction p = (omega arith, omega arith)

operand_passes : (o : Operator) → passes (operand o) ≡ 1
operand_passes disjunction = refl
operand_passes conjunction = refl

falls : {k : Task} {s u : List ℕ} {a : Condition} → Took k s a u → length u + passes k ≤ length s
falls (operand_took {o = o} p e q) = omega (arith, falls p, falls q, operand_passes o)
falls (operator_stop n) = omega arith
falls (operator_go e p) = omega (arith, ap length e, falls p)
falls (not_took e p) = omega (arith, ap length e, falls p)
falls (shut_took e p g) = omega (arith, ap length e, falls p, ap length g)
falls (name_took {t = t} {u = u} e d some few n) = omega (arith, ap length e, length-append t u)

name_complete : {v f : ℕ} (k : ℕ) (t u : List ℕ) → Digits v t f → NoDigit u → 1 ≤ k + length t → k + length t ≤ max_digits → name_from k v (t ++ u) ≡ taken (Atom f) u
unfolding name_from name_of
name_complete k t [] (none v) n some few = rw (is_length k (omega arith) (omega arith)) refl
name_complete k t (c ∷ u) (none v) n some few = rw (no_digit c (λ d. n c u refl d), is_length k (omega arith) (omega arith)) refl
name_complete k t u (more {v = v} {c = c} {s = r} h d) n some few = rw (is_digit_lem c h) (name_complete (suc k) r u d n (omega arith) (omega arith))

parse_complete : {k : Task} {s u : List ℕ} {a : Condition} → Took k s a u → (n : ℕ) → 3 * length s + rank k < n → parse n k s ≡ taken a u
unfolding parse follow shut
parse_complete h zero e = absurd (omega arith)
parse_complete (operand_took {o = o} {p = x} {t = t} {u = u} {b = b} {w = w} p e q) (suc n) h =
    rw (parse_complete p n (omega (arith, operand_rank o x)))
    (ap (λ (c : Condition). parse n (on o c) t) (sym e) ∙ parse_complete q n (omega (arith, falls p, operand_passes o, from_rank o x)))
parse_complete {s = []} (operator_stop n) (suc m) h = refl
parse_complete {s = c ∷ t} (operator_stop {o = o} n) (suc m) h = rw (ne_eqb c (byte_of o) (λ e. n t (ap (λ (x : ℕ). x ∷ t) e))) refl
parse_complete (operator_go {o = o} {t = t} {a = a} e p) (suc n) h =
    rw (e, eq-eqb (byte_of o) (byte_of o) refl) (parse_complete p n (omega (arith, ap length e, from_rank o (after a))))
parse_complete (not_took e p) (suc n) h = rw (e, parse_complete p n (omega (arith, ap length e))) refl
parse_complete (shut_took e p g) (suc n) h = rw (e, parse_complete p n (omega (arith, ap length e)), g) refl
parse_complete (name_took e (none v) some few n) (suc m) h = absurd (omega arith)
parse_complete (name_took {u = u} e (more {c = c} {s = r} k d) some few n) (suc m) h =
    rw (e, ne_eqb c 33 (λ z. omega (arith, k, z)), ne_eqb c 40 (λ z. omega (arith, k, z))) (name_complete 0 (c ∷ r) u (more k d) n (omega arith) (omega arith))

-- ---- the whole text
whole_read : (p : Parsed) (a : Condition) → whole p ≡ Some a → p ≡ taken a []
unfolding whole
whole_read (Some (b, [])) a e = let x : b ≡ a = cc in ap (λ (y : Condition). taken y []) x
whole_read (Some (b, c ∷ u)) a e = let z : ◌≡◌ {A = ℕ} 0 1 = cc in absurd (omega arith)
whole_read None a e = let z : ◌≡◌ {A = ℕ} 0 1 = cc in absurd (omega arith)

pub read_exactly : ReadExactly
unfolding reading_of whole
read_exactly s a = (
  λ e. read_whole (parse-sound (steps s) (from disjunction nothing) s a [] (whole_read (parse (steps s) (from disjunction nothing) s) a e)),
  λ h. ap whole (parse_complete (reading.whole h) (steps s) (omega arith)),
)

-- a text is unread exactly if the grammar gives it no reading
pub unread_none : (s : List ℕ) → reading_of s ≡ None → (a : Condition) → Reads or-level a s → ⊥
unread_none s e a h = let f = sym e ∙ (read_exactly s a).1 h in let z : ◌≡◌ {A = ℕ} 0 1 = cc in omega arith

pub none_unread : (s : List ℕ) → ((a : Condition) → Reads or-level a s → ⊥) → reading_of s ≡ None
none_unread s n = go (reading_of s) refl
  where
    go : (r : Option Condition) → reading_of s ≡ r → r ≡ None
    go (Some a) e = absurd (n a ((read_exactly s a).0 e))
    go None e = refl
