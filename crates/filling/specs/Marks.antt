-- Two arrays of marks, reached facts and reached negations, and what filling makes of them. Filling is stated over the rows and
-- masks that it is handed, not over a book, so that the test and the search share it. Assumes nothing.
use Rattle.table.specs.declared.Row.{Row}
use Rattle.std.specs.Prelude.{◌≡◌, Bool, true, false, not, ◌&&◌, cond, ℕ, ◌+◌, ◌<◌, ◌≤◌, T, length, Result, Ok, Err}
use Rattle.std.specs.Result.{IsErr}
use mathlib.Core.List.{List, [], ◌∷◌, Memᴰ}
use Rattle.base.specs.Bounds.{max_atoms}
use Rattle.base.specs.Lists.{all}
use Rattle.format.specs.Book.{Literal, Rule}
use Rattle.models.specs.StableModels.{atom_holds, positive, negative, complement}
use Rattle.table.specs.Names.{literal_named}
use Rattle.table.specs.Rows.{row_count, head_name, row_at, rows_of, alive}

-- two arrays of marks with a place for each fact: there are as many negations, and they have the heads of all rows
pub record Room (rows : List Row) (p q : List Bool) : Type 0 where
  pub same : length q ≡ length p
  pub few : length p ≤ max_atoms
  pub heads : (j : ℕ) → j < row_count rows → (literal_named (head_name rows j)).atom < length p

-- the mark of a literal: the first array is for facts, the second for negations
unfoldable pub literal_marked : List Bool → List Bool → Literal → Bool
literal_marked p q l = atom_holds (cond l.negated q p) l.atom

-- a rule adds its head: it is not marked, the rule is alive and its body is marked
unfoldable pub adds : List Bool → List Bool → List ℕ → Rule → Bool
adds p q rejects r = not (literal_marked p q r.head) && (alive rejects r && all (literal_marked p q) r.body)

-- what follows from the negations of the start by the rows that are alive
pub data FollowsFrom (book : List ℕ) (rows : List Row) (rejects : List ℕ) (start : List Bool) : Literal → Type 0 where
  from_start : (f : ℕ) → T (atom_holds start f) → FollowsFrom book rows rejects start (negative f)
  by_row : (r : Rule) → Memᴰ r (rows_of book rows) → T (alive rejects r)
      → ((l : Literal) → Memᴰ l r.body → FollowsFrom book rows rejects start l) → FollowsFrom book rows rejects start r.head

-- no fact is marked both ways
abbrev pub Apart : List Bool → List Bool → Type 0
Apart p q = (l : Literal) → T (literal_marked p q l) → T (literal_marked p q (complement l)) → ⊥

-- marks added: none is lost, they follow from every start from which the marks at entry follow, and no fact comes to be marked both ways
pub record Grown (book : List ℕ) (rows : List Row) (rejects : List ℕ) (p₀ q₀ p q : List Bool) : Type 0 where
  pub keeps : (l : Literal) → T (literal_marked p₀ q₀ l) → T (literal_marked p q l)
  pub sound : (start : List Bool) → ((l : Literal) → T (literal_marked p₀ q₀ l) → FollowsFrom book rows rejects start l)
      → (l : Literal) → T (literal_marked p q l) → FollowsFrom book rows rejects start l
  pub apart : Apart p₀ q₀ → Apart p q

-- how many are false
unfoldable pub falses : List Bool → ℕ
falses [] = 0
falses (b ∷ bs) = cond b 0 1 + falses bs

-- no row before n adds its head
abbrev pub Closed : List ℕ → List Row → List ℕ → List Bool → List Bool → ℕ → Type 0
Closed book rows rejects p q n = (j : ℕ) → j < n → adds p q rejects (row_at book rows j) ≡ false

-- a fact that follows both ways
pub record Conflict (book : List ℕ) (rows : List Row) (rejects : List ℕ) (start : List Bool) : Type 0 where
  pub atom : ℕ
  pub bound : atom < max_atoms
  pub as_positive : FollowsFrom book rows rejects start (positive atom)
  pub as_negative : FollowsFrom book rows rejects start (negative atom)

-- marks that were added, where no fact was reached both ways
abbrev pub added_by : {E : Type 0} → Result Bool E → ℕ
added_by (Ok added) = cond added 1 0
added_by (Err e) = 0

-- a fact that follows both ways from every start from which the marks at entry follow
abbrev pub Clash : List ℕ → List Row → List ℕ → List Bool → List Bool → Type 0
Clash book rows rejects p₀ q₀ = (start : List Bool) → ((l : Literal) → T (literal_marked p₀ q₀ l) → FollowsFrom book rows rejects start l)
    → Conflict book rows rejects start

-- One row, tried: where it adds its head one mark more falls out of the unmarked ones, and else the marks stay as they were; the
-- opposite of the head is in the way only where a fact follows both ways.
pub record Tried {E : Type 0} (book : List ℕ) (rows : List Row) (rejects : List ℕ) (j : ℕ) (p₀ q₀ p q : List Bool) (outcome : Result Bool E) : Type 0 where
  pub grown : Grown book rows rejects p₀ q₀ p q
  pub fewer : falses p + falses q + added_by outcome ≤ falses p₀ + falses q₀
  pub idle : outcome ≡ Ok false → (p ≡ p₀) × (q ≡ q₀) × (adds p q rejects (row_at book rows j) ≡ false)
  pub clash : IsErr outcome → Clash book rows rejects p₀ q₀

-- One pass over the rows: each mark that is added falls out of the unmarked ones; where none is added no row adds its head; and what
-- ends it early is a fact that follows both ways.
pub record PassEnd {E : Type 0} (book : List ℕ) (rows : List Row) (rejects : List ℕ) (p₀ q₀ p q : List Bool) (outcome : Result Bool E) : Type 0 where
  pub grown : Grown book rows rejects p₀ q₀ p q
  pub fewer : falses p + falses q + added_by outcome ≤ falses p₀ + falses q₀
  pub closed : outcome ≡ Ok false → Closed book rows rejects p q (row_count rows)
  pub clash : IsErr outcome → Clash book rows rejects p₀ q₀

-- Filled from marks in hand until nothing is added: they have grown, no row adds its head any more, and what ends it early is a fact
-- that follows both ways.
pub record FilledOn (book : List ℕ) (rows : List Row) (rejects : List ℕ) (p₀ q₀ p q : List Bool) (conflict : Bool) : Type 0 where
  pub grown : Grown book rows rejects p₀ q₀ p q
  pub closed : conflict ≡ false → Closed book rows rejects p q (row_count rows)
  pub clash : conflict ≡ true → Clash book rows rejects p₀ q₀

-- the marks are what follows, and no fact is marked both ways; or a conflict was met, and they are part of it
pub record Fills (book : List ℕ) (rows : List Row) (rejects : List ℕ) (start p q : List Bool) (conflict : Bool) : Type 0 where
  pub sound : (l : Literal) → T (literal_marked p q l) → FollowsFrom book rows rejects start l
  pub full : conflict ≡ false → (l : Literal) → FollowsFrom book rows rejects start l → T (literal_marked p q l)
  pub apart : conflict ≡ false → Apart p q
  pub clash : conflict ≡ true → Conflict book rows rejects start
