-- Every condition has one reading. What a reader from the left comes to is a relation with one outcome (`once`), and every reading of
-- the grammar is such an outcome (`whole`). Assumes nothing.
use mathlib.Core.Path.{◌≡◌, refl, sym, ap, subst, ◌∙◌}
use mathlib.Core.List.{List, [], ◌∷◌, ◌++◌, append_assoc, append-nil}
use Prim.Native.Nat.{ℕ, ◌+◌, ◌*◌, ◌-◌, ◌≤◌}
use native.Mathlib.Omega.{arith}
use lib.ListN.{length, get_or, drop}
use Rattle.grammar.specs.Conditions.{Condition, Atom, Not, Bracket, Level, or-level, and-level, bracket-level, Digit, Digits, none, more, Reads, or_one, or_more, and_one, and_more, negated, bracketed, named, OneReading}
use Rattle.grammar.specs.Reader.{disjunction, conjunction, nothing, joined, Task, from, on, bracket, Stops, NoDigit, Took, operand_took, operator_stop, operator_go, not_took, shut_took, name_took}

pub first_same : {a b : ℕ} {s t : List ℕ} → a ∷ s ≡ b ∷ t → a ≡ b
first_same e = ap (λ (l : List ℕ). get_or l 0 0) e

pub rest-same : {a b : ℕ} {s t : List ℕ} → a ∷ s ≡ b ∷ t → s ≡ t
rest-same e = ap (λ (l : List ℕ). drop 1 l) e

-- two outcomes are the same condition with the same bytes left
pub record Same (a b : Condition) (s t : List ℕ) : Type 0 where
  pub tree : a ≡ b
  pub left : s ≡ t

-- the digits of a name go as far as they can
name-once : {v f g : ℕ} (s t u x : List ℕ) → Digits v s f → Digits v t g → NoDigit u → NoDigit x → s ++ u ≡ t ++ x → Same (Atom f) (Atom g) u x
name-once s t u x (none v) (none w) nu nx e = record { tree = refl; left = e }
name-once s t u x (none v) (more {c = c} {s = r} k d) nu nx e = absurd (nu c (r ++ x) e k)
name-once s t u x (more {c = c} {s = r} k d) (none w) nu nx e = absurd (nx c (r ++ u) (sym e) k)
name-once s t u x (more {v = v} {c = c} {s = r} k d) (more {w = g} {c = b} {s = q} k₂ d₂) nu nx e =
    name-once r q u x d (subst (λ (y : ℕ). Digits (v * 10 + (y - 48)) q g) (sym (first_same e)) d₂) nu nx (rest-same e)

-- a name's text begins with a digit
pub begins : {v f c : ℕ} {s x : List ℕ} (t u : List ℕ) → Digits v t f → 1 ≤ length t → s ≡ t ++ u → s ≡ c ∷ x → Digit c
begins t u (none v) few e h = absurd (omega arith)
begins t u (more k d) few e h = subst Digit (first_same (sym e ∙ h)) k

-- the same rest behind the same operand
moved : (k : Condition → Task) {a b w : Condition} {s t u : List ℕ} → a ≡ b → s ≡ t → Took (k b) t w u → Took (k a) s w u
moved k {b = b} {w = w} {s = s} {u = u} e f p = subst (λ (x : Condition). Took (k x) s w u) (sym e) (subst (λ (y : List ℕ). Took (k b) y w u) (sym f) p)

at : {k : Task} {s t u : List ℕ} {a : Condition} → s ≡ t → Took k t a u → Took k s a u
at {k} {u = u} {a = a} e p = subst (λ (y : List ℕ). Took k y a u) (sym e) p

apart : {a b : ℕ} {s x y : List ℕ} → s ≡ a ∷ x → s ≡ b ∷ y → (a ≡ b → ⊥) → ⊥
apart e f n = n (first_same (sym e ∙ f))

-- one outcome
pub once : {k : Task} {s t u : List ℕ} {a b : Condition} → Took k s a t → Took k s b u → Same a b t u
once (operand_took {o = o} {p = x} p e q) (operand_took r f h) =
    let y = once p r in
    once q (moved (on o) (e ∙ ap (joined o x) y.tree ∙ sym f) y.left h)
once (operator_stop n) (operator_stop o) = record { tree = refl; left = refl }
once (operator_stop n) (operator_go {t = t} e p) = absurd (n t e)
once (operator_go {t = t} e p) (operator_stop n) = absurd (n t e)
once (operator_go e p) (operator_go f r) = once p (at (rest-same (sym e ∙ f)) r)
once (not_took e p) (not_took f r) = let x = once p (at (rest-same (sym e ∙ f)) r) in record { tree = ap Not x.tree; left = x.left }
once (not_took e p) (shut_took f r h) = absurd (apart e f (λ z. omega (arith, z)))
once (not_took e p) (name_took {t = t} {u = u} f d few most n) = absurd (omega (arith, begins t u d few f e))
once (shut_took e p h) (not_took f r) = absurd (apart e f (λ z. omega (arith, z)))
once (shut_took e p h) (shut_took f r i) = let x = once p (at (rest-same (sym e ∙ f)) r) in record { tree = ap Bracket x.tree; left = rest-same (sym h ∙ x.left ∙ i) }
once (shut_took e p h) (name_took {t = t} {u = u} f d few most n) = absurd (omega (arith, begins t u d few f e))
once (name_took {t = t} {u = u} e d few most n) (not_took f r) = absurd (omega (arith, begins t u d few e f))
once (name_took {t = t} {u = u} e d few most n) (shut_took f r h) = absurd (omega (arith, begins t u d few e f))
once (name_took {t = t} {u = u} e d few most n) (name_took {t = x} {u = y} f d₂ few₂ most₂ n₂) = name-once t x u y d d₂ n n₂ (sym e ∙ f)

-- what may follow an operand: no digit; and behind one of `|` no `&`
stop_shut : {c d : ℕ} {t : List ℕ} → (c ≡ d → ⊥) → Stops d (c ∷ t)
stop_shut n t e = n (first_same e)

no_digit : {c : ℕ} {t : List ℕ} → (Digit c → ⊥) → NoDigit (c ∷ t)
no_digit n d t e k = n (subst Digit (sym (first_same e)) k)

-- a reading is what is taken, whatever goes on behind it
abbrev Taken : Level → Condition → List ℕ → Type 0
Taken or-level a s = (t : List ℕ) → NoDigit t → Stops 38 t → (w : Condition) (u : List ℕ) → Took (on disjunction a) t w u → Took (from disjunction nothing) (s ++ t) w u
Taken and-level a s = (t : List ℕ) → NoDigit t → (w : Condition) (u : List ℕ) → Took (on conjunction a) t w u → Took (from conjunction nothing) (s ++ t) w u
Taken bracket-level a s = (t : List ℕ) → NoDigit t → Took bracket (s ++ t) a t

taken : {l : Level} {a : Condition} {s : List ℕ} → Reads l a s → Taken l a s
taken (or_one {a = a} d) = λ t nd st w u o. operand_took (taken d t nd a t (operator_stop st)) refl o
taken (or_more {b = b} {s = s} {t = r} d e) = λ t nd st w u o.
    at (append_assoc s (124 ∷ r) t)
    (taken d (124 ∷ (r ++ t)) (no_digit (λ k. omega (arith, k.1))) (stop_shut (λ z. omega (arith, z))) w u (operator_go refl (operand_took (taken e t nd b t (operator_stop st)) refl o)))
taken (and_one d) = λ t nd w u o. operand_took (taken d t nd) refl o
taken (and_more {s = s} {t = r} d e) = λ t nd w u o.
    at (append_assoc s (38 ∷ r) t) (taken d (38 ∷ (r ++ t)) (no_digit (λ k. omega (arith, k.0))) w u (operator_go refl (operand_took (taken e t nd) refl o)))
taken (negated d) = λ t nd. not_took refl (taken d t nd)
taken (bracketed {a = a} {s = s} d) = λ t nd.
    shut_took (ap (λ (l : List ℕ). 40 ∷ l) (append_assoc s (41 ∷ []) t))
    (taken d (41 ∷ t) (no_digit (λ k. omega (arith, k.0))) (stop_shut (λ z. omega (arith, z))) a (41 ∷ t) (operator_stop (stop_shut (λ z. omega (arith, z))))) refl
taken (named ds few most) = λ t nd. name_took refl ds few most nd

none-follows : {c : ℕ} → Stops c []
none-follows t e = omega (arith, ap length e)

-- a reading of all the bytes is what a reader comes to, with nothing left
pub whole : {a : Condition} {s : List ℕ} → Reads or-level a s → Took (from disjunction nothing) s a []
whole {a} {s} d = at (sym (append-nil s)) (taken d [] (λ c t e k. omega (arith, ap length e)) none-follows a [] (operator_stop none-follows))

pub one_reading : OneReading
one_reading a b s d e = (once (whole d) (whole e)).tree
