-- Two arrays of marks, filled by passes over the rows until nothing is added: what a pass keeps, and that all that follows is
-- marked at the end. Used by propagate, pass, fill_on and fill, and by the search, which goes on from marks in hand. Assumes nothing.
use Rattle.table.specs.declared.Row.{Row}
use mathlib.Core.Path.{◌≡◌, sym, subst}
use mathlib.Core.Bool.{Bool, true, false, not, ◌&&◌, cond, true≢false}
use mathlib.Core.List.{List}
use Prim.Native.Nat.{ℕ, ◌+◌, ◌<◌, ◌≤◌}
use lib.Dec.{T}
use lib.ListN.{length, replicate}
use Rattle.base.specs.Lists.{all}
use Rattle.format.specs.Book.{Literal, Rule}
use Rattle.models.specs.StableModels.{atom_holds, complement}
use Rattle.base.proofs.Members.{and_both, all_of}
use Rattle.table.specs.Rows.{row_count, row_at, alive}
use Rattle.table.proofs.RowLaws.{row_of}
use Rattle.filling.proofs.MarkLaws.{blank}
use Rattle.filling.proofs.GrowingLaws.{grown_both, SoundMarks, grown-sound}
use Rattle.filling.specs.Marks.{Room, literal_marked, adds, FollowsFrom, from_start, by_row, Apart, Grown, falses, Closed, PassEnd, FilledOn, Fills}
use Rattle.std.specs.Prelude.{Result, Ok}
use Rattle.std.specs.Result.{IsErr}

module _ (book : List ℕ) (rows : List Row) (rejects : List ℕ) where
  -- a pass that began with p₀ and q₀ has come to row j
  pub record Passing (p₀ q₀ p q : List Bool) (added : Bool) (j : ℕ) : Type 0 where
    pub within : j ≤ row_count rows
    pub room : Room rows p q
    pub size : (length p ≡ length p₀) × (length q ≡ length q₀)
    pub grown : Grown book rows rejects p₀ q₀ p q
    pub fewer : falses p + falses q + cond added 1 0 ≤ falses p₀ + falses q₀
    pub closed : added ≡ false → Closed book rows rejects p q j

-- the marks have grown, and neither array has another length
pub record Turn (book : List ℕ) (rows : List Row) (rejects : List ℕ) (p₀ q₀ p q : List Bool) : Type 0 where
  pub grown : Grown book rows rejects p₀ q₀ p q
  pub room : Room rows p q
  pub sizes : (length p ≡ length p₀) × (length q ≡ length q₀)

forced : (c d : Bool) → (not c && d) ≡ false → T d → T c
forced true d e t = tt
forced false d e t = subst T e t

-- at the start no fact is marked
start-apart : (n : ℕ) (start : List Bool) → Apart (replicate n false) start
unfolding literal_marked atom_holds complement
start-apart n start l t u = one l.atom l.negated t u
  where
    one : (f : ℕ) (c : Bool) → T (literal_marked (replicate n false) start (record { atom = f; negated = c })) → T (literal_marked (replicate n false) start (record { atom = f; negated = not c })) → ⊥
    one f true t u = subst T (blank n f) u
    one f false t u = subst T (blank n f) t

module _ {book : List ℕ} {rows : List Row} {rejects : List ℕ} where
  -- the negations that are assumed follow
  module _ (n : ℕ) (start : List Bool) where
    start_literal : (f : ℕ) (c : Bool) → T (literal_marked (replicate n false) start (record { atom = f; negated = c })) → FollowsFrom book rows rejects start (record { atom = f; negated = c })
    unfolding literal_marked atom_holds
    start_literal f true t = from_start f t
    start_literal f false t = absurd (subst T (blank n f) t)

    start-sound : SoundMarks book rows rejects start (replicate n false) start
    start-sound = record { sound = λ l t. start_literal l.atom l.negated t; started = λ f t. t }

  -- nothing is added any more: all that follows is marked
  full : {start p q : List Bool} → SoundMarks book rows rejects start p q → Closed book rows rejects p q (row_count rows) → (l : Literal) → FollowsFrom book rows rejects start l → T (literal_marked p q l)
  unfolding literal_marked adds
  full w k l (from_start f t) = w.started f t
  full {p = p} {q = q} w k l (by_row r i a below) =
      let v : (j : ℕ) × (j < row_count rows) × (row_at book rows j ≡ r) = row_of book rows r i in
      let n : adds p q rejects r ≡ false = subst (λ (x : Rule). adds p q rejects x ≡ false) v.2 (k v.0 v.1) in
      forced (literal_marked p q r.head) (alive rejects r && all (literal_marked p q) r.body) n
      (and_both (alive rejects r) (all (literal_marked p q) r.body) a (all_of (literal_marked p q) r.body (λ x y. full w k x (below x y))))

  -- from marks that follow from a start and have it among them, the filling is one from that start
  pub filled_on : {start p₀ q₀ p q : List Bool} {c : Bool} → SoundMarks book rows rejects start p₀ q₀ → Apart p₀ q₀ → FilledOn book rows rejects p₀ q₀ p q c → Fills book rows rejects start p q c
  filled_on {start} s a w = record {
    sound = (grown-sound w.grown s).sound;
    full = λ e. full (grown-sound w.grown s) (w.closed e);
    apart = λ e. w.grown.apart a;
    clash = λ e. w.clash e start s.sound;
  }

  pub filled_from_start : (n : ℕ) {start blanks p q : List Bool} {c : Bool} → blanks ≡ replicate n false → FilledOn book rows rejects blanks start p q c → Fills book rows rejects start p q c
  filled_from_start n {start} {p = p} {q = q} {c = c} e w = filled_on (start-sound n start) (start-apart n start) (subst (λ (b : List Bool). FilledOn book rows rejects b start p q c) e w)

  -- after what had grown, a pass added nothing, or met a fact both ways
  pub filled : {E : Type 0} {p₀ q₀ p₁ q₁ p q : List Bool} {r : Result Bool E} → Grown book rows rejects p₀ q₀ p₁ q₁ → PassEnd book rows rejects p₁ q₁ p q r → r ≡ Ok false → FilledOn book rows rejects p₀ q₀ p q false
  filled g w e = record { grown = grown_both g w.grown; closed = λ _. w.closed e; clash = λ y. absurd (true≢false (sym y)) }

  pub clashed : {E : Type 0} {p₀ q₀ p₁ q₁ p q : List Bool} {r : Result Bool E} → Grown book rows rejects p₀ q₀ p₁ q₁ → PassEnd book rows rejects p₁ q₁ p q r → IsErr r → FilledOn book rows rejects p₀ q₀ p q true
  clashed g w e = record { grown = grown_both g w.grown; closed = λ y. absurd (true≢false y); clash = λ _ start s. w.clash e start (g.sound start s) }
