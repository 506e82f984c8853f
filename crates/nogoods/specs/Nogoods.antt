-- A nogood: what no stable model has together. A rule that nothing can reject gives one, its body and the opposite of its head; so does a
-- constraint, its body. Where all these are branching atoms it is two masks over them, bit i for the i-th: those that stand in it and
-- those that do not.
-- Assumes nothing.
use Rattle.std.specs.Prelude.{◌≡◌, cond, ℕ, ◌<◌, T, length, get_or}
use mathlib.Core.List.{List, Memᴰ}
use Rattle.std.specs.Int.Bits.{bit_and}
use Rattle.base.specs.Bounds.{max_names}
use Rattle.layers.specs.Masks.{bit_of}
use Rattle.format.specs.Book.{Literal}
use Rattle.models.specs.StableModels.{complement}
use Rattle.table.specs.declared.Row.{Row}
use Rattle.table.specs.declared.Span.{Span}
use Rattle.table.specs.Names.{literal_named}
use Rattle.table.specs.Rows.{row_count, head_name, row_at, overridden, alive}
use Rattle.bans.specs.Bans.{body_of}
use Rattle.setting.specs.RuleMasks.{AtomBits}
use Rattle.nogoods.specs.declared.Nogood.{Nogood}

-- nogoods that a plan has room for
abbrev pub max_nogoods : ℕ
max_nogoods = 512

-- bit i at name h: one of the first n rows can reject the rules of layer i with that head, whatever its body says
pub record Rejectable (rows : List Row) (rejectable : List ℕ) (n : ℕ) : Type 0 where
  pub size : length rejectable ≡ max_names
  pub full : (j : ℕ) → j < n → (h : ℕ) → literal_named h ≡ complement (literal_named (head_name rows j)) → h < max_names
      → (i : ℕ) → bit_of (overridden rows j) i ≡ 1 → bit_of (get_or rejectable h 0) i ≡ 1

-- a literal is of one of the branching atoms, and its bit is set in the mask of its sign
pub record Within (bits : List ℕ) (n : Nogood) (l : Literal) : Type 0 where
  pub place : ℕ
  pub atom_bit : bit_of (get_or bits l.atom 0) place ≡ 1
  pub bit : bit_of (cond l.negated n.denied n.standing) place ≡ 1

abbrev pub AllWithin : List ℕ → Nogood → List Literal → Type 0
AllWithin bits n ls = (l : Literal) → Memᴰ l ls → Within bits n l

-- the nogood of row j
pub record NogoodOf (book : List ℕ) (rows : List Row) (rejectable bits : List ℕ) (j : ℕ) (n : Nogood) : Type 0 where
  pub before : j < row_count rows
  pub lives : T (alive rejectable (row_at book rows j))
  pub body_in : AllWithin bits n (row_at book rows j).body
  pub head_in : Within bits n (complement (row_at book rows j).head)

-- what a nogood is one of: a row, or a constraint
pub data NogoodAt (book : List ℕ) (rows : List Row) (bans : List Span) (rejectable bits : List ℕ) (n : Nogood) : Type 0 where
  of_row : (j : ℕ) → NogoodOf book rows rejectable bits j n → NogoodAt book rows bans rejectable bits n
  of_ban : (ban : Span) → Memᴰ ban bans → AllWithin bits n (body_of book ban) → NogoodAt book rows bans rejectable bits n

-- each entry is a nogood
abbrev pub NogoodsTo : List ℕ → List Row → List Span → List ℕ → List ℕ → List Nogood → Type 0
NogoodsTo book rows bans rejectable bits nogoods = (n : Nogood) → Memᴰ n nogoods → NogoodAt book rows bans rejectable bits n

-- the same, by some masks of what the rows can reject and some bits of the atoms
pub record Nogoods (book : List ℕ) (rows : List Row) (bans : List Span) (atoms : List ℕ) (nogoods : List Nogood) : Type 0 where
  pub rejectable : List ℕ
  pub rejects_all : Rejectable rows rejectable (row_count rows)
  pub bits : List ℕ
  pub bits_of : AtomBits atoms bits (length atoms)
  pub each : NogoodsTo book rows bans rejectable bits nogoods

-- all that a nogood has is decided so: what is to stand stands, and what is to be denied is denied
abbrev pub IsDecided : Nogood → ℕ → ℕ → Type 0
IsDecided n standing denied = (bit_and n.standing standing ≡ n.standing) × (bit_and n.denied denied ≡ n.denied)

-- one of the nogoods is violated
pub record Violated (nogoods : List Nogood) (standing denied : ℕ) : Type 0 where
  pub nogood : Nogood
  pub listed : Memᴰ nogood nogoods
  pub decided : IsDecided nogood standing denied
