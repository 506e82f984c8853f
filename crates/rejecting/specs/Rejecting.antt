-- The rows that can reject rules (document 01: displace), as masks over the branching atoms, bit i for the i-th of them; and which rules
-- they reject at a setting of these atoms, which is a mask too. Assumes nothing.
use Rattle.std.specs.Prelude.{◌≡◌, Bool, true, false, ℕ, ◌<◌, ◌≤◌, length, get_or, Option, MatchOption}
use mathlib.Core.List.{List, Memᴰ}
use Rattle.std.specs.Int.Bits.{bit_and}
use Rattle.base.specs.Bounds.{max_names}
use Rattle.layers.specs.Masks.{bit_of}
use Rattle.format.specs.Book.{Literal}
use Rattle.models.specs.StableModels.{complement}
use Rattle.table.specs.declared.Row.{Row}
use Rattle.table.specs.Names.{literal_named}
use Rattle.table.specs.Rows.{row_count, row_at, overridden}
use Rattle.setting.specs.declared.BodyMasks.{BodyMasks}
use Rattle.rejecting.specs.declared.RejectingMasks.{RejectingMasks}

-- bit i is set exactly where the i-th atom is in the body with this sign
pub record SignMask (atoms : List ℕ) (body : List Literal) (sign : Bool) (mask : ℕ) : Type 0 where
  pub sound : (i : ℕ) → bit_of mask i ≡ 1 → (i < length atoms) × Memᴰ (record { atom = get_or atoms i 0; negated = sign }) body
  pub full : (i : ℕ) → i < length atoms → Memᴰ (record { atom = get_or atoms i 0; negated = sign }) body → bit_of mask i ≡ 1

-- the masks of row j: those of its body, the name opposite to its head, the layers in which it overrides rules
pub record EntryOf (book : List ℕ) (rows : List Row) (atoms : List ℕ) (j : ℕ) (m : RejectingMasks) : Type 0 where
  pub plain_is : SignMask atoms (row_at book rows j).body false m.plain
  pub negated_is : SignMask atoms (row_at book rows j).body true m.negated
  pub facing : literal_named m.name ≡ complement (row_at book rows j).head
  pub name_low : m.name < max_names
  pub layers_are : m.layers ≡ overridden rows j

-- the masks of a row with this body, name and layers, and none exactly where there is no layer
abbrev pub MasksOf : BodyMasks → ℕ → ℕ → Option RejectingMasks → Type 0
MasksOf body name layers masks = MatchOption masks (layers ≡ 0) (λ m. (layers ≡ 0 → ⊥) × (m ≡ record { plain = body.plain; negated = body.negated; layers = layers; name = name }))

-- each entry is that of one of the first n rows, and each of these rows that overrides a rule has one
pub record RejectingTo (book : List ℕ) (rows : List Row) (atoms : List ℕ) (rejecting : List RejectingMasks) (n : ℕ) : Type 0 where
  pub sound : (m : RejectingMasks) → Memᴰ m rejecting → (j : ℕ) × (j < n) × EntryOf book rows atoms j m
  pub full : (j : ℕ) → j < n → (overridden rows j ≡ 0 → ⊥) → (m : RejectingMasks) × Memᴰ m rejecting × EntryOf book rows atoms j m

-- as the code makes them: there is room for all rows
pub record RejectingMade (book : List ℕ) (rows : List Row) (atoms : List ℕ) (rejecting : List RejectingMasks) (n : ℕ) : Type 0 where
  pub room : length rejecting ≤ n
  pub entries : RejectingTo book rows atoms rejecting n

-- those of all rows
abbrev pub Rejecting : List ℕ → List Row → List ℕ → List RejectingMasks → Type 0
Rejecting book rows atoms rejecting = RejectingTo book rows atoms rejecting (row_count rows)

-- the name of each entry is that of a literal
abbrev pub Named : List RejectingMasks → Type 0
Named rejecting = (m : RejectingMasks) → Memᴰ m rejecting → m.name < max_names

-- at the setting of a mask all plain atoms of an entry stand, and none of its negated ones
pub record Fits (m : RejectingMasks) (standing : ℕ) : Type 0 where
  pub plain_stand : bit_and m.plain standing ≡ m.plain
  pub negated_fall : bit_and m.negated standing ≡ 0

-- one of the entries fits, and has name h and layer i
pub record FitsAt (rejecting : List RejectingMasks) (standing h i : ℕ) : Type 0 where
  pub entry : RejectingMasks
  pub listed : Memᴰ entry rejecting
  pub fits : Fits entry standing
  pub name_is : entry.name ≡ h
  pub bit : bit_of entry.layers i ≡ 1

-- bit i at name h is set exactly where one of the entries says so
pub record RejectsAt (rejecting : List RejectingMasks) (standing : ℕ) (rejects : List ℕ) : Type 0 where
  pub size : length rejects ≡ max_names
  pub sound : (h i : ℕ) → bit_of (get_or rejects h 0) i ≡ 1 → FitsAt rejecting standing h i
  pub full : (h i : ℕ) → FitsAt rejecting standing h i → bit_of (get_or rejects h 0) i ≡ 1

-- what is not 0 stands at the name of an entry
pub record Uncleared (rejecting : List RejectingMasks) (rejects : List ℕ) : Type 0 where
  pub size : length rejects ≡ max_names
  pub each : (h : ℕ) → (get_or rejects h 0 ≡ 0 → ⊥) → (m : RejectingMasks) × Memᴰ m rejecting × (m.name ≡ h)
