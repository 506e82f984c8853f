-- Two rows are named exactly when the one could displace the other; and the same of a row and a rule, as the proofs above ask it: they
-- cite these laws and do not look into what displacement asks. Assumes nothing.
use mathlib.Core.Path.{◌≡◌, sym, subst}
use mathlib.Core.Bool.{Bool, ◌&&◌}
use mathlib.Core.List.{List}
use Prim.Native.Nat.{ℕ, ◌<◌}
use lib.Dec.{T, eqb, eqb→eq}
use Rattle.base.proofs.Members.{◌∈◌, and_left, and_right, and_both, same_test}
use Rattle.layers.specs.Masks.{bit_of}
use Rattle.format.specs.Book.{Literal, Rule}
use Rattle.models.specs.Program.{Program}
use Rattle.models.specs.StableModels.{complement, same_literal, overrides}
use Rattle.models.proofs.LeastLaws.{literal_same, literal_refl}
use Rattle.models.proofs.SelfLeaningLaws.{overrides-asks, overrides_of}
use Rattle.table.specs.declared.Row.{Row}
use Rattle.table.specs.Rows.{row_count, overridden, row_at}
use Rattle.table.specs.Table.{Tabulates}
use Rattle.table.specs.Named.{named, NamedExactly}
use Rattle.table.proofs.RowLaws.{row_in, row_of}

module _ {P : Program} {book : List ℕ} {rows : List Row} (w : Tabulates P book rows) where
  pub named-exactly : NamedExactly P book rows
  unfolding named
  named-exactly j k a b =
      let t : Rule = row_at book rows j in
      let r : Rule = row_at book rows k in
      let bit : Bool = eqb (bit_of (overridden rows j) r.layer) 1 in
      let heads : Bool = same_literal t.head (complement r.head) in
      same_test (bit && heads) (overrides P t r)
      (λ h.
      let z : bit_of (overridden rows j) r.layer ≡ 1 = eqb→eq (bit_of (overridden rows j) r.layer) 1 (and_left bit heads h) in
      let x = w.exact j a r.layer z in
      overrides_of P t r (w.sound j a r.layer z) (and_right bit heads h) (overrides-asks P t x.0 x.3).2)
      (λ o. and_both bit heads (subst (λ (x : ℕ). T (eqb x 1)) (sym (w.full j a r (row_in book rows k b) o)) tt) (overrides-asks P t r o).1)

  -- a row and a rule of the program
  module _ {j : ℕ} (h : j < row_count rows) {r : Rule} (k : r ∈ P.rules) where
    row : (i : ℕ) × (i < row_count rows) × (row_at book rows i ≡ r)
    row = row_of book rows r (subst (λ (rs : List Rule). r ∈ rs) (sym w.rules) k)

    exactly : (eqb (bit_of (overridden rows j) r.layer) 1 && same_literal (row_at book rows j).head (complement r.head)) ≡ overrides P (row_at book rows j) r
    unfolding named
    exactly =
        subst (λ (x : Rule). (eqb (bit_of (overridden rows j) x.layer) 1 && same_literal (row_at book rows j).head (complement x.head)) ≡ overrides P (row_at book rows j) x) row.2
        (named-exactly j row.0 h row.1)

    pub named-overrides : bit_of (overridden rows j) r.layer ≡ 1 → (row_at book rows j).head ≡ complement r.head → T (overrides P (row_at book rows j) r)
    named-overrides b e =
        subst T exactly
        (and_both (eqb (bit_of (overridden rows j) r.layer) 1) (same_literal (row_at book rows j).head (complement r.head))
        (subst (λ (x : ℕ). T (eqb x 1)) (sym b) tt)
        (subst (λ (l : Literal). T (same_literal (row_at book rows j).head l)) e (literal_refl (row_at book rows j).head)))

    pub overrides-named : T (overrides P (row_at book rows j) r) → (bit_of (overridden rows j) r.layer ≡ 1) × ((row_at book rows j).head ≡ complement r.head)
    overrides-named o =
        let t : T (eqb (bit_of (overridden rows j) r.layer) 1 && same_literal (row_at book rows j).head (complement r.head)) = subst T (sym exactly) o in (
          eqb→eq (bit_of (overridden rows j) r.layer) 1 (and_left (eqb (bit_of (overridden rows j) r.layer) 1) (same_literal (row_at book rows j).head (complement r.head)) t),
          literal_same (row_at book rows j).head (complement r.head) (and_right (eqb (bit_of (overridden rows j) r.layer) 1) (same_literal (row_at book rows j).head (complement r.head)) t),
        )
