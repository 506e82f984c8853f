-- Document 02, (e): the grammar of conditions, when a condition holds in a state, how deep its brackets are and which facts it names.
-- proofs/OneReadingLaws.antt proves that every condition has one reading only. Assumes nothing.
use Rattle.std.specs.Prelude.{◌≡◌, Bool, not, ◌&&◌, ◌||◌, List, [], ◌∷◌, ◌++◌, ℕ, suc, ◌+◌, ◌*◌, ◌-◌, ◌≤◌, max, ltb, length}
use Rattle.models.specs.StableModels.{Interpretation, atom_holds}

-- A condition as a tree. `Atom f` is a name, of fact f (document 01: a fact). Brackets stay in it, so that it says how deep they are.
pub data Condition : Type 0 where
  Atom : ℕ → Condition
  Not : Condition → Condition
  And Or : Condition → Condition → Condition
  Bracket : Condition → Condition

-- "`!` binds tightest, then `&`, then `|`": each level reads operands of the next
pub data Level : Type 0 where
  or-level and-level bracket-level : Level

-- the bytes of `|`, `&`, `!` and the round brackets
abbrev pub bar : ℕ
bar = 124

abbrev pub ampersand : ℕ
ampersand = 38

abbrev pub exclamation : ℕ
exclamation = 33

abbrev pub opening : ℕ
opening = 40

abbrev pub closing : ℕ
closing = 41

-- the bytes of `0` to `9`
abbrev pub Digit : ℕ → Type 0
Digit c = (48 ≤ c) × (c ≤ 57)

-- digits that carry the number v on to the number w, as 1 and 4 carry 0 on to 14
pub data Digits : ℕ → List ℕ → ℕ → Type 0 where
  none : (v : ℕ) → Digits v [] v
  more : {v w c : ℕ} {s : List ℕ} → Digit c → Digits (v * 10 + (c - 48)) s w → Digits v (c ∷ s) w

-- "A name is a fact number of one to four digits, leading zeros allowed."
abbrev pub max_digits : ℕ
max_digits = 4

-- These bytes are, at a level, the text of this condition. "Both `&` and `|` group from the left": the same level stands again on the
-- left, and there only.
pub data Reads : Level → Condition → List ℕ → Type 0 where
  or_one : {a : Condition} {s : List ℕ} → Reads and-level a s → Reads or-level a s
  or_more : {a b : Condition} {s t : List ℕ} → Reads or-level a s → Reads and-level b t → Reads or-level (Or a b) (s ++ (bar ∷ t))
  and_one : {a : Condition} {s : List ℕ} → Reads bracket-level a s → Reads and-level a s
  and_more : {a b : Condition} {s t : List ℕ} → Reads and-level a s → Reads bracket-level b t → Reads and-level (And a b) (s ++ (ampersand ∷ t))
  negated : {a : Condition} {s : List ℕ} → Reads bracket-level a s → Reads bracket-level (Not a) (exclamation ∷ s)
  bracketed : {a : Condition} {s : List ℕ} → Reads or-level a s → Reads bracket-level (Bracket a) (opening ∷ (s ++ (closing ∷ [])))
  named : {f : ℕ} {s : List ℕ} → Digits 0 s f → 1 ≤ length s → length s ≤ max_digits → Reads bracket-level (Atom f) s

-- "It must hold of every condition of the grammar that it has one reading only."
abbrev pub OneReading : Type 0
OneReading = (a b : Condition) (s : List ℕ) → Reads or-level a s → Reads or-level b s → a ≡ b

-- Document 02: the condition holds in the state.
unfoldable pub fits : Interpretation → Condition → Bool
fits m (Atom f) = atom_holds m f
fits m (Not a) = not (fits m a)
fits m (And a b) = fits m a && fits m b
fits m (Or a b) = fits m a || fits m b
fits m (Bracket a) = fits m a

-- Document 02: how deep brackets are nested. Neither `!` nor an operator makes it deeper.
unfoldable pub depth : Condition → ℕ
depth (Atom f) = 0
depth (Not a) = depth a
depth (And a b) = max (depth a) (depth b)
depth (Or a b) = max (depth a) (depth b)
depth (Bracket a) = suc (depth a)

-- every name is a fact below n
unfoldable pub names_below : ℕ → Condition → Bool
names_below n (Atom f) = ltb f n
names_below n (Not a) = names_below n a
names_below n (And a b) = names_below n a && names_below n b
names_below n (Or a b) = names_below n a && names_below n b
names_below n (Bracket a) = names_below n a
