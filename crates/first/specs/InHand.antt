-- The search for the state that is closest to a wanted one, and of equals the first: what is in hand while it goes on, and what the models
-- that it meets make of it. Where nothing is wanted, the wanted state has no facts, so that all are equally close. Assumes nothing.
use Rattle.std.specs.Prelude.{◌≡◌, ◌⊎◌, Bool, true, ◌&&◌, ℕ, ◌+◌, ◌<◌, ◌≤◌, T, ltb, length, get_or, take, Option, Some, None}
use mathlib.Core.List.{List, [], ◌∷◌, Memᴰ}
use Rattle.base.specs.Bounds.{max_atoms, max_branching}
use Rattle.base.specs.Lists.{filter}
use Rattle.layers.specs.Masks.{bit_of}
use Rattle.insertion.specs.Sorted.{insert_all}
use Rattle.insertion.specs.Runs.{bytes_before}
use Rattle.models.specs.Program.{Program}
use Rattle.models.specs.StableModels.{Interpretation, atom_holds, StableModel}
use Rattle.models.specs.Listing.{record_of}
use Rattle.table.specs.Tabled.{tabled}
use Rattle.leaf.specs.Searchable.{Searchable}
use Rattle.first.specs.declared.Held.{Held}
use Rattle.first.specs.Nearest.{differs, distance}
use Rattle.table.specs.declared.Row.{Row}

-- the distance to a wanted state, over the facts that it has
abbrev pub far : Interpretation → Interpretation → ℕ
far wanted m = distance (length wanted) wanted m

-- one state is closer than another; or it is as close, and its record comes first
abbrev pub closer : Interpretation → ℕ → Interpretation → Interpretation → Bool
closer wanted n a b = bytes_before (far wanted a ∷ record_of n a) (far wanted b ∷ record_of n b)

-- of these models and what was in hand the closest, and of equals the first
unfoldable pub first_among : Interpretation → ℕ → List Interpretation → List Interpretation → List Interpretation
first_among wanted n ms hand = take 1 (insert_all (closer wanted n) ms hand)

-- the record of the state in hand; where there is none, the bytes as they were
unfoldable pub record_held : ℕ → List Interpretation → List ℕ → List ℕ
record_held n [] old = old
record_held n (m ∷ ms) old = record_of n m

-- facts that stand in every stable model
pub record Sure (P : Program) (sure : List Bool) : Type 0 where
  pub size : length sure ≡ P.atoms
  pub stands : (m : Interpretation) → StableModel P m → (f : ℕ) → T (atom_holds sure f) → T (atom_holds m f)

-- of the rules of a table, whatever the constraints are
pub record SureOf (book : List ℕ) (rows : List Row) (sure : List Bool) : Type 0 where
  pub stands : (atoms : List ℕ) (n : ℕ) → Searchable book rows atoms n → (m : Interpretation) → StableModel (tabled book rows n) m → (f : ℕ) → T (atom_holds sure f) → T (atom_holds m f)

-- f is one of the first k branching facts, and its bit is ahead
pub record Ahead (atoms : List ℕ) (ahead k f : ℕ) : Type 0 where
  pub place : ℕ
  pub before : place < k
  pub atom_is : get_or atoms place 0 ≡ f
  pub bit : bit_of ahead place ≡ 1

-- or it is sure
abbrev pub Known : List ℕ → List Bool → ℕ → ℕ → ℕ → Type 0
Known atoms sure ahead k f = Ahead atoms ahead k f ⊎ T (atom_holds sure f)

-- the branching facts that stand in a state have their bits
abbrev pub StandingHas : List ℕ → Interpretation → ℕ → Type 0
StandingHas atoms m standing = (i : ℕ) → i < length atoms → T (atom_holds m (get_or atoms i 0)) → bit_of standing i ≡ 1

-- What is kept of the state in hand besides its record, over the branching facts, bit i for the i-th: which of them stand in it; which
-- of them are ahead, so that every fact that stands before them is known; and whether every fact that stands in it is.
pub record Outlined (atoms : List ℕ) (sure : List Bool) (m : Interpretation) (held : Held) : Type 0 where
  pub standing_has : StandingHas atoms m held.standing
  pub ahead_in : (i : ℕ) → bit_of held.ahead i ≡ 1 → (i < length atoms) × ((f : ℕ) → f < get_or atoms i 0 → T (atom_holds m f) → Known atoms sure held.ahead i f)
  pub alone_in : held.alone ≡ true → (f : ℕ) → T (atom_holds m f) → Known atoms sure held.ahead (length atoms) f

-- what is kept of the state in hand, if there is one
abbrev pub HeldOf : List ℕ → List Bool → Interpretation → ℕ → List Interpretation → Option Held → Type 0
HeldOf atoms sure wanted n [] None = Unit {0}
HeldOf atoms sure wanted n (m ∷ []) (Some held) = (length m ≡ n) × (held.distance ≡ far wanted m) × Outlined atoms sure m held
HeldOf atoms sure wanted n _ _ = ⊥

-- at most one state is in hand, its record is the part, and its distance and its outline are kept
pub record InHand (atoms : List ℕ) (sure : List Bool) (wanted : Interpretation) (n : ℕ) (old : List ℕ) (hand : List Interpretation) (held : Option Held) (part : List ℕ) : Type 0 where
  pub few : length hand ≤ 1
  pub part_is : part ≡ record_held n hand old
  pub held_is : HeldOf atoms sure wanted n hand held

-- Whatever was in hand, the first of it and of these models is in hand afterwards. It says nothing of which models were looked at.
abbrev pub Takes : List ℕ → List Bool → Interpretation → ℕ → List Interpretation → Option Held → List ℕ → Option Held → List ℕ → Type 0
Takes atoms sure wanted n ms held part held' part' =
    (old : List ℕ) (hand : List Interpretation) → InHand atoms sure wanted n old hand held part → InHand atoms sure wanted n old (first_among wanted n ms hand) held' part'

-- ---- groups that are left out
-- how many of these facts, as far as the wanted state has them, differ in it and in m
unfoldable pub apart_at : Interpretation → Interpretation → List ℕ → ℕ
apart_at wanted m fs = length (filter (λ f. ltb f (length wanted) && differs wanted m f) fs)

-- So far apart from the wanted state is each of these models already, whatever the undecided facts, so many of them, come to.
pub record Apart (wanted : Interpretation) (undecided : List ℕ) (models : List Interpretation) (left apart : ℕ) : Type 0 where
  pub few : apart + left ≤ max_atoms + max_branching
  pub at_least : (m : Interpretation) → Memᴰ m models → apart + apart_at wanted m undecided ≤ far wanted m

-- of the bits ahead before bit k, what is decided to stand has those that the state in hand has, and no others
abbrev pub SameBefore : Held → ℕ → ℕ → Type 0
SameBefore held standing k = (j : ℕ) → j < k → bit_of held.ahead j ≡ 1 → bit_of standing j ≡ bit_of held.standing j

-- at the first bit ahead where they differ, the fact is decided to stand, and it does not stand in the state in hand
pub record LaterAt (held : Held) (standing : ℕ) : Type 0 where
  pub place : ℕ
  pub ahead : bit_of held.ahead place ≡ 1
  pub stands : bit_of standing place ≡ 1
  pub not_held : bit_of held.standing place ≡ 0
  pub same : SameBefore held standing place

-- No state in which these branching facts stand comes before the one in hand: it comes later at a fact; or every fact that stands in the
-- one in hand stands in it.
pub data Later (held : Held) (standing : ℕ) : Type 0 where
  at_a_fact : LaterAt held standing → Later held standing
  at_the_end : held.alone ≡ true → ((k : ℕ) → SameBefore held standing k) → Later held standing

-- No state of the group, in each of which these branching facts stand and so many facts differ, comes before the one in hand: each is
-- farther away; or none is closer, and it comes later.
pub data Behind (held : Held) (standing apart : ℕ) : Type 0 where
  farther : held.distance < apart → Behind held standing apart
  as_far : held.distance ≤ apart → Later held standing → Behind held standing apart
