-- Marks of literals and of names, and the literals of a body, as the code reads them; and when a row adds its head. Used by the methods
-- of Marks and RuleRow. Assumes nothing.
use Rattle.table.specs.declared.Row.{Row}
use mathlib.Core.Path.{◌≡◌, refl, sym, ap, subst, ◌∙◌}
use mathlib.Core.Bool.{Bool, true, false, not, ◌&&◌, cond}
use mathlib.Core.Logic.{◌⊎◌, inl, inr}
use mathlib.Core.List.{List, [], ◌∷◌}
use Prim.Native.Nat.{ℕ, zero, suc, ◌+◌, ◌*◌, ◌-◌, ◌/◌, ◌<◌, ◌≤◌}
use native.Mathlib.Decide.{ℕ_discrete}
use native.Mathlib.Omega.{arith}
use borrow.Author.Tests.{not-true}
use lib.Dec.{T}
use lib.ListN.{length, get_or, set, replicate, get_or-eq_default}
use lib.Seq.{get_or-set_same, get_or-set_other}
use Rattle.base.specs.Bounds.{max_atoms}
use Rattle.base.specs.Lists.{all}
use Rattle.base.proofs.MapLaws.{constant_at}
use Rattle.format.specs.Book.{Literal, literal_of, literals_of}
use Rattle.models.specs.StableModels.{atom_holds, complement}
use Rattle.table.specs.Names.{literal_named}
use Rattle.table.specs.Rows.{row_count, head_name, row_body, row_at, alive}
use Rattle.table.proofs.NameLaws.{name_low, name-high}
use Rattle.filling.specs.Marks.{Room, literal_marked, adds}

-- no mark is set yet
pub blank : (n i : ℕ) → get_or {A = Bool} (replicate n false) i false ≡ false
blank n i = constant_at false n i

-- one array with a mark more
pub set_only : (p : List Bool) (f g : ℕ) → f < length p → T (atom_holds (set p f true) g) → T (atom_holds p g) ⊎ (g ≡ f)
unfolding atom_holds
set_only p f g h t = go (ℕ_discrete g f)
  where
    go : Dec (g ≡ f) → T (get_or p g false) ⊎ (g ≡ f)
    go (yes e) = inr e
    go (no n) = inl (subst T (get_or-set_other p f g true false n) t)

pub set_keeps : (p : List Bool) (f g : ℕ) → f < length p → T (atom_holds p g) → T (atom_holds (set p f true) g)
unfolding atom_holds
set_keeps p f g h t = go (ℕ_discrete g f)
  where
    go : Dec (g ≡ f) → T (get_or (set p f true) g false)
    go (yes e) = subst (λ (x : ℕ). T (get_or (set p f true) x false)) (sym e) (subst T (sym (get_or-set_same p f true false h)) tt)
    go (no n) = subst T (sym (get_or-set_other p f g true false n)) t

-- the mark of a name is that of its literal
module _ (p q : List Bool) where
  pub marked_low : (h : ℕ) → h < max_atoms → atom_holds p h ≡ literal_marked p q (literal_named h)
  unfolding literal_marked
  marked_low h k = ap (literal_marked p q) (sym (name_low h k))

  pub marked_high : (h : ℕ) → max_atoms ≤ h → atom_holds q (h - max_atoms) ≡ literal_marked p q (literal_named h)
  unfolding literal_marked
  marked_high h k = ap (literal_marked p q) (sym (name-high h k))

-- a fact past the arrays is not marked, and the sign says which array has the mark
module _ (p q : List Bool) (l : Literal) where
  pub marked_past : length q ≡ length p → length p ≤ l.atom → false ≡ literal_marked p q l
  unfolding literal_marked atom_holds
  marked_past size h = past l.negated
    where
      past : (c : Bool) → false ≡ get_or (cond c q p) l.atom false
      past true = sym (get_or-eq_default q false (omega (arith, size)))
      past false = sym (get_or-eq_default p false h)

  pub negated_marked : l.negated ≡ true → get_or q l.atom false ≡ literal_marked p q l
  unfolding literal_marked atom_holds
  negated_marked e = rw e refl

  pub plain_marked : l.negated ≡ false → get_or p l.atom false ≡ literal_marked p q l
  unfolding literal_marked atom_holds
  plain_marked e = rw e refl

-- the fact of a name
pub atom_low : (h : ℕ) → h < max_atoms → (literal_named h).atom ≡ h
atom_low h k = ap (λ (l : Literal). l.atom) (name_low h k)

pub atom_high : (h : ℕ) → max_atoms ≤ h → (literal_named h).atom ≡ h - max_atoms
atom_high h k = ap (λ (l : Literal). l.atom) (name-high h k)

-- a head, whose name is in a local, and its opposite
module _ {rows : List Row} {p q : List Bool} (w : Room rows p q) where
  pub head_within : (j h : ℕ) → j < row_count rows → h ≡ head_name rows j → (literal_named h).atom < length p
  head_within j h b e = subst (λ (x : ℕ). (literal_named x).atom < length p) (sym e) (w.heads j b)

  pub opposite_within : (j h o : ℕ) → j < row_count rows → h ≡ head_name rows j → literal_named o ≡ complement (literal_named h) → (literal_named o).atom < length p
  unfolding complement
  opposite_within j h o b e c = subst (λ (l : Literal). l.atom < length p) (sym c) (head_within j h b e)

  pub room_same : (p' q' : List Bool) → length p' ≡ length p → length q' ≡ length q → Room rows p' q'
  room_same p' q' x y = record { same = y ∙ w.same ∙ sym x; few = omega (arith, x, w.few); heads = λ j b. omega (arith, x, w.heads j b) }

-- the tests of a row: its head, whether it is alive, its body
pub adds_row : (p q : List Bool) (book : List ℕ) (rows : List Row) (rejects : List ℕ) (j : ℕ)
    → adds p q rejects (row_at book rows j) ≡ (not (literal_marked p q (literal_named (head_name rows j))) && (alive rejects (row_at book rows j) && all (literal_marked p q) (literals_of (row_body book rows j))))
unfolding adds row_at
adds_row p q book rows rejects j = refl

-- a literal of the bytes that fails a test, by its number
and-off : (c d : Bool) → false ≡ d → false ≡ (c && d)
and-off true d e = e
and-off false d e = refl

pub literal_fails : (t : Literal → Bool) (s : List ℕ) (i : ℕ) → i < length s / 2 → (r : Bool) → r ≡ t (literal_of (get_or s (2 * i) 0) (get_or s (2 * i + 1) 0)) → not r ≡ true → false ≡ all t (literals_of s)
unfolding literals_of all
literal_fails t [] i h r e n = absurd (omega arith)
literal_fails t (a ∷ []) i h r e n = absurd (omega arith)
literal_fails t (a ∷ b ∷ s) zero h r e n = ap (λ (x : Bool). x && all t (literals_of s)) (sym (not-true r n) ∙ e)
literal_fails t (a ∷ b ∷ s) (suc i) h r e n =
    let two : 2 * suc i ≡ suc (suc (2 * i)) = omega arith in
    let three : 2 * suc i + 1 ≡ suc (suc (2 * i + 1)) = omega arith in
    and-off (t (literal_of a b)) (all t (literals_of s))
    (literal_fails t s i (omega arith) r
    (e ∙ ap (λ (x : ℕ). t (literal_of (get_or (a ∷ b ∷ s) x 0) (get_or (a ∷ b ∷ s) (2 * suc i + 1) 0))) two ∙ ap (λ (x : ℕ). t (literal_of (get_or s (2 * i) 0) (get_or (a ∷ b ∷ s) x 0))) three) n)
