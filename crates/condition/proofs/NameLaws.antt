-- The digits of a name: read from the left, at most four, as far as they go. Used by `read_name`. Assumes nothing.
use mathlib.Core.Path.{◌≡◌, refl, sym, ap, subst, ◌∙◌}
use mathlib.Core.List.{List, [], ◌∷◌, ◌++◌}
use Prim.Native.Nat.{ℕ, zero, suc, ◌+◌, ◌*◌, ◌-◌, ◌^◌, ◌≤◌, ◌<◌}
use native.Mathlib.Numerals.{add-one}
use native.Mathlib.Nat.{mul_assoc, mul-le-mul_right, pow-succ', pow-le-pow_right}
use native.Mathlib.Omega.{arith}
use borrow.Author.Tests.{lt-ltb}
use Rattle.std.specs.Bool.{then_some}
use lib.Dec.{ltb}
use lib.ListN.{length, get_or, take, drop, drop_of_length-le}
use lib.Seq.{drop-cons, take-suc}
use Rattle.std.proofs.lemmas.List.{take-append-drop, length-take, length-take-le}
use Rattle.grammar.specs.Conditions.{Atom, Digit, Digits, none, more, max_digits}
use Rattle.grammar.specs.Reader.{bracket, NoDigit, Took, name_took}
use Rattle.grammar.proofs.OneReadingLaws.{first_same, rest-same}
use Rattle.condition.specs.Outcome.{NameOf, NameRead}

pub no_digits : Digits 0 [] 0
no_digits = none 0

digits_more : {v w c : ℕ} {t : List ℕ} → Digits v t w → Digit c → Digits v (t ++ (c ∷ [])) (w * 10 + (c - 48))
digits_more (none v) k = more k (none _)
digits_more (more h d) k = more h (digits_more d k)

-- what digits can come to
digits_below : {v w : ℕ} {t : List ℕ} → Digits v t w → w < (v + 1) * 10 ^ length t
digits_below (none v) = omega arith
digits_below (more {v = v} {c = c} {s = s} k d) =
    let one : (v * 10 + (c - 48) + 1) * 10 ^ length s ≤ (v + 1) * 10 * 10 ^ length s = mul-le-mul_right (10 ^ length s) (omega (arith, k)) in
    let all : (v + 1) * 10 * 10 ^ length s ≡ (v + 1) * 10 ^ suc (length s) = mul_assoc (v + 1) 10 (10 ^ length s) ∙ ap (λ (x : ℕ). (v + 1) * x) (sym (pow-succ' 10 (length s))) in
    omega (arith, digits_below d, one, all)

-- of a name, no more than so many
few_digits : {f : ℕ} {t : List ℕ} (k : ℕ) → Digits 0 t f → length t ≤ k → f < 10 ^ k
few_digits k d h = omega (arith, digits_below d, pow-le-pow_right {n = 10} (omega arith) h)

pub small_so_far : (s : List ℕ) {i v : ℕ} → Digits 0 (take i s) v → i ≤ max_digits → (i ≡ 4 → ⊥) → v < 1000
small_so_far s {i} d few n = few_digits 3 d (omega (arith, few, n, length-take i s))

-- the next byte, where it is a digit
next_byte : (s : List ℕ) (i c : ℕ) → i < length s → get_or s i 0 ≡ c → s ≡ take i s ++ (c ∷ drop (i + 1) s)
next_byte s i c h e = sym (take-append-drop i s) ∙ ap (λ (l : List ℕ). take i s ++ l) (drop-cons s i 0 h ∙ ap (λ (n : ℕ). get_or s i 0 ∷ drop n s) (sym (add-one i)) ∙ ap (λ (x : ℕ). x ∷ drop (i + 1) s) e)

pub next_digit : (s : List ℕ) (d : ℕ) {i j v : ℕ} → Digits 0 (take i s) v → i ≡ j → j < length s → Digit (get_or s j 0) × (get_or s j 0 ≡ d + 48) → Digits 0 (take (i + 1) s) (v * 10 + d)
next_digit s d {i} {j} {v} n q h k =
    let c = get_or s i 0 in
    let e : get_or s j 0 ≡ c = ap (λ (x : ℕ). get_or s x 0) (sym q) in
    let less : i < length s = omega (arith, q, h) in
    let digit : Digit c = subst Digit e k.0 in
    let value : c - 48 ≡ d = omega (arith, k.1, e) in
    let longer : take (i + 1) s ≡ take i s ++ (c ∷ []) = ap (λ (x : ℕ). take x s) (add-one i) ∙ take-suc s i 0 less in
    subst (λ (l : List ℕ). Digits 0 l (v * 10 + d)) (sym longer) (subst (λ (x : ℕ). Digits 0 (take i s ++ (c ∷ [])) (v * 10 + x)) value (digits_more n digit))

-- a text that goes on with a digit is no longer name's end
too_long : {v w : ℕ} (c : ℕ) (u x q t : List ℕ) → Digits v q w → Digit c → q ++ (c ∷ x) ≡ t ++ u → length t ≤ length q → NoDigit u → ⊥
too_long c u x q [] (none v) k e h n = n c x (sym e) k
too_long c u x q (y ∷ t) (none v) k e h n = omega arith
too_long c u x q [] (more {c = b} {s = r} j d) k e h n = n b (r ++ (c ∷ x)) (sym e) j
too_long {v = v} {w = w} c u x _ (y ∷ t) (more {c = b} {s = r} j d) k e h n = too_long {v = v * 10 + (b - 48)} c u x r t d k (rest-same e) (omega arith) n

-- a name as the reader took it
record NameText (x : List ℕ) (f : ℕ) (u : List ℕ) : Type 0 where
  text : List ℕ
  split : x ≡ text ++ u
  digits : Digits 0 text f
  some : 1 ≤ length text
  few : length text ≤ max_digits
  ends : NoDigit u

name_text : {x : List ℕ} {f : ℕ} {u : List ℕ} → Took bracket x (Atom f) u → NameText x f u
name_text (name_took {t = t} e d some few n) = record { text = t; split = e; digits = d; some = some; few = few; ends = n }

pub fifth_digit : (s : List ℕ) (d : ℕ) {i j v : ℕ} → Digits 0 (take i s) v → i ≡ j → j < length s → Digit (get_or s j 0) × (get_or s j 0 ≡ d + 48) → i ≡ 4 → (f : ℕ) (u : List ℕ) → Took bracket s (Atom f) u → ⊥
fifth_digit s d {i} {j} n q h k four f u p =
    let x = name_text p in
    let e : get_or s j 0 ≡ get_or s i 0 = ap (λ (y : ℕ). get_or s y 0) (sym q) in
    too_long (get_or s i 0) u (drop (i + 1) s) (take i s) x.text n (subst Digit e k.0)
    (sym (next_byte s i (get_or s i 0) (omega (arith, q, h)) refl) ∙ x.split) (omega (arith, x.few, length-take-le i s (omega (arith, q, h)), four)) x.ends

-- the digits end at the text's end, or before a byte that is none
pub ends_there : (s : List ℕ) (i : ℕ) → length s ≤ i → NoDigit (drop i s)
ends_there s i h c t e k = omega (arith, ap length (sym (drop_of_length-le s {i = i} h) ∙ e))

pub ends_before : (s : List ℕ) {i j : ℕ} → i ≡ j → j < length s → (Digit (get_or s j 0) → ⊥) → NoDigit (drop i s)
ends_before s {i} {j} q h n c t e k =
    n (subst Digit (first_same (sym e ∙ ap (λ (x : ℕ). drop x s) q ∙ drop-cons s j 0 h)) k)

-- no digit at all
starts : {v f : ℕ} {x : List ℕ} (t u : List ℕ) → Digits v t f → 1 ≤ length t → x ≡ t ++ u → NoDigit x → ⊥
starts t u (none v) h e n = omega arith
starts t u (more {c = b} {s = r} k d) h e n = n b (r ++ u) e k

no_digit_there : (s : List ℕ) {i : ℕ} → i ≡ 0 → NoDigit (drop i s) → (f : ℕ) (u : List ℕ) → Took bracket s (Atom f) u → ⊥
no_digit_there s e n f u p =
    let x = name_text p in
    starts x.text u x.digits x.some x.split (subst (λ (k : ℕ). NoDigit (drop k s)) e n)

name_ends : (s : List ℕ) {i v : ℕ} → Digits 0 (take i s) v → i ≤ max_digits → (i ≡ 0 → ⊥) → i ≤ length s → NoDigit (drop i s) → NameOf s i v
name_ends s {i} n few some h ends =
    let size : length (take i s) ≡ i = length-take-le i s h in
    record {
      some = omega (arith, some);
      within = h;
      took = name_took (sym (take-append-drop i s)) n (omega (arith, size, some)) (omega (arith, size, few)) ends;
    }

pub name_or_none : (s : List ℕ) (i : ℕ) {v : ℕ} → Digits 0 (take i s) v → i ≤ max_digits → i ≤ length s → NoDigit (drop i s) → NameRead s (then_some (ltb 0 i) (i, v))
name_or_none s zero n few h ends = no_digit_there s refl ends
name_or_none s (suc k) n few h ends = rw (lt-ltb 0 (suc k) (omega arith)) (name_ends s n few (λ e. omega (arith, e)) h ends)
