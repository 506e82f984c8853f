-- A row can displace exactly where its mask is not empty, so the marks of all rows are the branching facts. Used by
-- mark_branching. Assumes nothing.
use mathlib.Core.Path.{◌≡◌, refl, sym, ap, ap₂, subst, ◌∙◌}
use mathlib.Core.Bool.{Bool, false, not, ◌||◌}
use mathlib.Core.List.{List, [], ◌∷◌, map}
use Prim.Native.Nat.{ℕ, suc, ◌+◌, ◌<◌, ◌≤◌}
use native.Mathlib.Decide.{ℕ_discrete}
use native.Mathlib.Numerals.{add-one}
use native.Mathlib.Omega.{arith}
use borrow.Author.Tests.{eq-eqb, ne_eqb}
use lib.Dec.{T, eqb}
use lib.ListN.{length, replicate}
use Rattle.base.specs.Bounds.{max_atoms}
use Rattle.base.specs.Lists.{any, up_to}
use Rattle.base.proofs.Members.{◌∈◌, any_at, any_of, same_test}
use Rattle.base.proofs.UpTo.{any_append}
use Rattle.base.proofs.MapLaws.{constant_at}
use Rattle.layers.specs.Masks.{bit_of}
use Rattle.layers.proofs.BitLaws.{or_false, no_bit, some-bit}
use Rattle.format.specs.Book.{Rule, literals_of}
use Rattle.models.specs.Program.{Program}
use Rattle.models.specs.StableModels.{atom_holds, overrides}
use Rattle.models.specs.Branching.{can_reject, branching}
use Rattle.table.specs.declared.Row.{Row}
use Rattle.table.specs.Rows.{row_count, overridden, row_body, row_at}
use Rattle.table.specs.Table.{Tabulates}
use Rattle.table.proofs.RowLaws.{rows_listed}
use Rattle.branching.specs.Marks.{branches_in, BodyMarked, BranchingMarks}

module _ (P : Program) (book : List ℕ) (rows : List Row) where
  -- the facts that the first rows make branch
  unfoldable pub row_branches : ℕ → ℕ → Bool
  row_branches f j = branches_in (can_reject P (row_at book rows j)) f (row_at book rows j).body

  pub record RowsMarked (j : ℕ) (marks : List Bool) : Type 0 where
    pub inside : j ≤ row_count rows
    pub size : length marks ≡ max_atoms
    pub marked : (f : ℕ) → f < max_atoms → atom_holds marks f ≡ any (row_branches f) (up_to j)

  pub rows_start : RowsMarked 0 (replicate {A = Bool} max_atoms false)
  unfolding atom_holds any up_to
  rows_start = record { inside = omega arith; size = refl; marked = λ f b. constant_at false max_atoms f }

  one_more : (f j : ℕ) → any (row_branches f) (up_to (j + 1)) ≡ (any (row_branches f) (up_to j) || row_branches f j)
  unfolding up_to any
  one_more f j =
      ap (λ (k : ℕ). any (row_branches f) (up_to k)) (add-one j) ∙ any_append (row_branches f) (up_to j) (j ∷ [])
      ∙ ap (λ (c : Bool). any (row_branches f) (up_to j) || c) (or_false (row_branches f j))

  any-map : (p : Rule → Bool) (xs : List ℕ) → any p (map (row_at book rows) xs) ≡ any (λ j. p (row_at book rows j)) xs
  unfolding any
  any-map p [] = refl
  any-map p (x ∷ xs) = ap (λ (c : Bool). p (row_at book rows x) || c) (any-map p xs)

module _ (P : Program) (book : List ℕ) (rows : List Row) (w : Tabulates P book rows) where
  -- some rule is overridden exactly where the mask is not 0
  rejecting_is : (j : ℕ) → j < row_count rows → not (eqb (overridden rows j) 0) ≡ can_reject P (row_at book rows j)
  unfolding can_reject
  rejecting_is j h = same_test (not (eqb (overridden rows j) 0)) (any (overrides P (row_at book rows j)) P.rules) (λ t. from (ℕ_discrete (overridden rows j) 0) t) (λ t. into (any_at (overrides P (row_at book rows j)) P.rules t))
    where
      from : Dec (overridden rows j ≡ 0) → T (not (eqb (overridden rows j) 0)) → T (any (overrides P (row_at book rows j)) P.rules)
      from (yes e) t = absurd (subst (λ (c : Bool). T (not c)) (eq-eqb (overridden rows j) 0 e) t)
      from (no n) t =
          let b = some-bit (suc (overridden rows j)) (overridden rows j) (omega arith) (omega arith) in
          let x = w.exact j h b.0 b.1 in
          any_of (overrides P (row_at book rows j)) (subst (λ (rs : List Rule). x.0 ∈ rs) w.rules x.1) x.3

      into : (r : Rule) × r ∈ P.rules × T (overrides P (row_at book rows j) r) → T (not (eqb (overridden rows j) 0))
      into x = go (ℕ_discrete (overridden rows j) 0)
        where
          bit : bit_of (overridden rows j) x.0.layer ≡ 1
          bit = w.full j h x.0 (subst (λ (rs : List Rule). x.0 ∈ rs) (sym w.rules) x.1) x.2

          go : Dec (overridden rows j ≡ 0) → T (not (eqb (overridden rows j) 0))
          go (yes e) = absurd (no_bit x.0.layer (subst (λ (y : ℕ). bit_of y x.0.layer ≡ 1) e bit))
          go (no n) = subst (λ (c : Bool). T (not c)) (sym (ne_eqb (overridden rows j) 0 n)) tt

  pub rows_more : (j : ℕ) → j < row_count rows → (marks next : List Bool) → RowsMarked P book rows j marks → (body : List ℕ) → body ≡ row_body book rows j
      → (t : Bool) → t ≡ not (eqb (overridden rows j) 0) → BodyMarked body t marks next → RowsMarked P book rows (j + 1) next
  unfolding row_branches row_at
  rows_more j h marks next m body eb t eq b = record {
    inside = omega arith;
    size = b.size ∙ m.size;
    marked = λ f s.
        b.marked f s
        ∙ ap₂ (λ (c : Bool) (d : Bool). c || branches_in d f (literals_of body)) (m.marked f s) (eq ∙ rejecting_is j h)
        ∙ ap (λ (x : List ℕ). any (row_branches P book rows f) (up_to j) || branches_in (can_reject P (row_at book rows j)) f (literals_of x)) eb
        ∙ sym (one_more P book rows f j);
  }

  pub rows_end : (j : ℕ) (marks : List Bool) → row_count rows ≤ j → RowsMarked P book rows j marks → BranchingMarks P marks
  unfolding branching branches_in row_branches
  rows_end j marks h m =
      let e : j ≡ row_count rows = omega (arith, m.inside) in
      record {
        size = m.size;
        marked = λ f b.
            m.marked f b ∙ ap (λ (k : ℕ). any (row_branches P book rows f) (up_to k)) e
            ∙ sym (any-map P book rows (λ r. branches_in (can_reject P r) f r.body) (up_to (row_count rows)))
            ∙ ap (any (λ r. branches_in (can_reject P r) f r.body)) (sym (rows_listed book rows) ∙ w.rules);
      }
