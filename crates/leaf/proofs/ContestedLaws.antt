-- Contested rows, one after the other, and what answers a head. Used by undecided and contested. Assumes nothing.
use mathlib.Core.Path.{◌≡◌, sym, ap, subst, ◌∙◌}
use mathlib.Core.Bool.{Bool, false, not, true≢false}
use mathlib.Core.List.{List}
use Prim.Native.Nat.{ℕ, ◌+◌, ◌<◌, ◌≤◌}
use native.Mathlib.Decide.{dec_lt}
use native.Mathlib.Omega.{arith}
use borrow.Author.Tests.{not-false}
use lib.Dec.{T}
use Rattle.base.specs.Bounds.{max_atoms}
use Rattle.format.specs.Book.{Literal}
use Rattle.models.specs.StableModels.{Interpretation, atom_holds, positive, body_holds}
use Rattle.table.specs.Names.{literal_named}
use Rattle.table.specs.Rows.{head_name, row_at, alive}
use Rattle.table.proofs.NameLaws.{name_low, name-high}
use Rattle.leaf.specs.Contested.{Answered, Uncontested}
use Rattle.table.specs.declared.Row.{Row}
use Rattle.table.specs.declared.Table.{Table}

module _ {rejects : List ℕ} {m : Interpretation} where
  -- one row on, where row j is not contested
  module _ {book : List ℕ} {rows : List Row} {q : List Bool} {j : ℕ} (w : Uncontested book rows rejects m q j) where
    uncontested_more : (alive rejects (row_at book rows j) ≡ false → T (body_holds m (row_at book rows j)) → Answered m q (row_at book rows j).head) → Uncontested book rows rejects m q (j + 1)
    uncontested_more k = record { each = λ i b. go i b (dec_lt i j) }
      where
        go : (i : ℕ) → i < j + 1 → Dec (i < j) → alive rejects (row_at book rows i) ≡ false → T (body_holds m (row_at book rows i)) → Answered m q (row_at book rows i).head
        go i b (yes y) = w.each i y
        go i b (no y) =
            let e : j ≡ i = omega arith in
            subst (λ (z : ℕ). alive rejects (row_at book rows z) ≡ false → T (body_holds m (row_at book rows z)) → Answered m q (row_at book rows z).head) e k

    pub uncontested_alive : (a : Bool) → a ≡ alive rejects (row_at book rows j) → not a ≡ false → Uncontested book rows rejects m q (j + 1)
    uncontested_alive a e t = uncontested_more (λ n. absurd (true≢false (sym (not-false a t) ∙ e ∙ n)))

    pub uncontested_answered : (h : ℕ) → h ≡ head_name rows j → Answered m q (literal_named h) → Uncontested book rows rejects m q (j + 1)
    unfolding row_at
    uncontested_answered h e d = uncontested_more (λ n u. subst (λ (z : ℕ). Answered m q (literal_named z)) e d)

    pub uncontested_not : (r : Bool) → r ≡ body_holds m (row_at book rows j) → r ≡ false → Uncontested book rows rejects m q (j + 1)
    uncontested_not r e n = uncontested_more (λ d u. absurd (subst T (sym e ∙ n) u))

  -- the same, by the row as it is handed out
  pub uncontested_row : {q : List Bool} {t table : Table} {i j : ℕ} → t ≡ table → i ≡ j → (Uncontested t.book.now t.rows.now rejects m q i → Uncontested t.book.now t.rows.now rejects m q (i + 1))
      → Uncontested table.book.now table.rows.now rejects m q j → Uncontested table.book.now table.rows.now rejects m q (j + 1)
  uncontested_row {q} {t} {j = j} et ei f =
      subst (λ (x : Table). Uncontested x.book.now x.rows.now rejects m q j → Uncontested x.book.now x.rows.now rejects m q (j + 1)) et
      (subst (λ (k : ℕ). Uncontested t.book.now t.rows.now rejects m q k → Uncontested t.book.now t.rows.now rejects m q (k + 1)) ei f)

-- what answers a head, as the code tests it
module _ (m : Interpretation) (q : List Bool) (h : ℕ) where
  pub answered_negated : max_atoms ≤ h → Answered m q (literal_named h)
  answered_negated b f e n = absurd (true≢false (ap (λ (l : Literal). l.negated) (sym (name-high h b) ∙ e)))

  module _ (b : h < max_atoms) where
    atom_is : (f : ℕ) → literal_named h ≡ positive f → h ≡ f
    atom_is f e = ap (λ (l : Literal). l.atom) (sym (name_low h b) ∙ e)

    pub answered_holds : (r : Bool) → r ≡ atom_holds m h → not r ≡ false → Answered m q (literal_named h)
    answered_holds r er t f e n = subst (λ (x : ℕ). T (atom_holds m x)) (atom_is f e) (subst T (sym (sym er ∙ not-false r t)) tt)

    pub answered_marked : (r : Bool) → r ≡ atom_holds q h → not r ≡ false → Answered m q (literal_named h)
    answered_marked r er t f e n = absurd (true≢false (sym (not-false r t) ∙ er ∙ ap (atom_holds q) (atom_is f e) ∙ n))
