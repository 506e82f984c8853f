-- Rules as masks over the branching atoms, bit i for the i-th of them: what these atoms alone can say against a rule.
-- Assumes nothing.
use Rattle.std.specs.Prelude.{◌≡◌, Bool, true, cond, ℕ, ◌<◌, ◌≤◌, length, get_or, Option, MatchOption, option_map}
use mathlib.Core.List.{List, Memᴰ}
use Rattle.std.specs.Int.Bits.{bit_and, bit_or}
use Rattle.base.specs.Bounds.{max_atoms}
use Rattle.layers.specs.Masks.{bit_of}
use Rattle.format.specs.Book.{Literal, Rule}
use Rattle.models.specs.StableModels.{positive, negative}
use Rattle.table.specs.declared.Row.{Row}
use Rattle.table.specs.Rows.{row_count, row_at}
use Rattle.setting.specs.declared.BodyMasks.{BodyMasks}
use Rattle.setting.specs.declared.HeadMasks.{HeadMasks}

-- each is a fact that there may be
abbrev pub Low : List ℕ → Type 0
Low atoms = (i : ℕ) → i < length atoms → get_or atoms i 0 < max_atoms

-- bit i at the i-th of the first n atoms
pub record AtomBits (atoms bits : List ℕ) (n : ℕ) : Type 0 where
  pub size : length bits ≡ max_atoms
  pub sound : (f i : ℕ) → bit_of (get_or bits f 0) i ≡ 1 → (i < n) × (get_or atoms i 0 ≡ f)
  pub full : (i : ℕ) → i < n → bit_of (get_or bits (get_or atoms i 0) 0) i ≡ 1

-- an atom's bit, and none exactly where it has none
abbrev pub BitAt : List ℕ → ℕ → Option ℕ → Type 0
BitAt bits f bit = MatchOption bit (get_or bits f 0 ≡ 0) (λ x. (x ≡ get_or bits f 0) × (x ≡ 0 → ⊥))

-- A body's masks, plain and negated: a bit is set in one of them exactly where a literal of that sign has it. Where they are whole,
-- each literal has one.
pub record BodyMasked (bits : List ℕ) (body : List Literal) (m : BodyMasks) : Type 0 where
  pub sound : (sign : Bool) (i : ℕ) → bit_of (cond sign m.negated m.plain) i ≡ 1
      → (l : Literal) × Memᴰ l body × (l.negated ≡ sign) × (bit_of (get_or bits l.atom 0) i ≡ 1)
  pub full : (l : Literal) → Memᴰ l body → (i : ℕ) → bit_of (get_or bits l.atom 0) i ≡ 1 → bit_of (cond l.negated m.negated m.plain) i ≡ 1
  pub all_have : m.whole ≡ true → (l : Literal) → Memᴰ l body → (i : ℕ) × (bit_of (get_or bits l.atom 0) i ≡ 1)

-- the masks of a rule: plain atoms of its body, negated ones, and its head where it is plain
pub record RuleMask (atoms : List ℕ) (r : Rule) (m : HeadMasks) : Type 0 where
  pub plain_in : (i : ℕ) → bit_of m.plain i ≡ 1 → Memᴰ (positive (get_or atoms i 0)) r.body
  pub negated_in : (i : ℕ) → bit_of m.negated i ≡ 1 → Memᴰ (negative (get_or atoms i 0)) r.body
  pub head_in : (i : ℕ) → i < length atoms → r.head ≡ positive (get_or atoms i 0) → bit_of m.head i ≡ 1

-- the masks of a rule with this body and its head's bit, if it has one
abbrev pub head_masks : BodyMasks → Option ℕ → Option HeadMasks
head_masks body head = option_map (λ x. record { plain = body.plain; negated = body.negated; head = x }) head

-- one of the entries has the masks of row j
pub record MaskOf (book : List ℕ) (rows : List Row) (atoms : List ℕ) (rules : List HeadMasks) (j : ℕ) : Type 0 where
  pub entry : HeadMasks
  pub listed : Memᴰ entry rules
  pub mask : RuleMask atoms (row_at book rows j) entry

-- of the first n rows, each with one of the atoms as its plain head has its masks among the entries
pub record MasksMade (book : List ℕ) (rows : List Row) (atoms : List ℕ) (rules : List HeadMasks) (n : ℕ) : Type 0 where
  pub room : length rules ≤ n
  pub each : (j i : ℕ) → j < n → i < length atoms → (row_at book rows j).head ≡ positive (get_or atoms i 0) → MaskOf book rows atoms rules j

-- the same of all rows
pub record RuleMasks (book : List ℕ) (rows : List Row) (atoms : List ℕ) (rules : List HeadMasks) : Type 0 where
  pub each : (j i : ℕ) → j < row_count rows → i < length atoms → (row_at book rows j).head ≡ positive (get_or atoms i 0) → MaskOf book rows atoms rules j

-- nothing that is decided denies a literal of the rule's body: no plain atom of it is denied, no negated one stands
abbrev pub Open : HeadMasks → ℕ → ℕ → Type 0
Open m standing denied = bit_or (bit_and m.plain denied) (bit_and m.negated standing) ≡ 0

-- each atom that stands is the head of such a rule
abbrev pub Headed : List HeadMasks → ℕ → ℕ → Type 0
Headed rules standing denied = (i : ℕ) → bit_of standing i ≡ 1 → (m : HeadMasks) × Memᴰ m rules × Open m standing denied × (bit_of m.head i ≡ 1)
