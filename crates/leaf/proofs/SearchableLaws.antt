-- What a search asks of a table, and what the masks of a setting say, has one proof but for rows that are named in it, and a row can be
-- looked for: so both are had again from their truth alone. The search cites them. Assumes nothing.
use mathlib.Core.Path.{refl, sym, subst}
use mathlib.Core.Logic.{∥∥₁_elim, ∥∥₁_map}
use mathlib.Core.Bool.{Bool, ◌&&◌}
use mathlib.Core.List.{List}
use Prim.Native.Nat.{ℕ}
use lib.Dec.{T, eqb, eqb→eq, eqb_refl}
use Rattle.std.proofs.Props.{props}
use Rattle.base.specs.Lists.{any, up_to}
use Rattle.base.proofs.UpTo.{up_to_has, up_to_lt}
use Rattle.base.proofs.Members.{and_left, and_right, and_both, any_of, any_at}
use Rattle.layers.specs.Masks.{bit_of}
use Rattle.format.specs.Book.{Literal, Rule}
use Rattle.models.specs.Program.{Program}
use Rattle.models.specs.StableModels.{Interpretation, complement, same_literal, body_holds, overrides}
use Rattle.models.proofs.LeastLaws.{literal_same, literal_refl}
use Rattle.table.specs.Names.{literal_named}
use Rattle.tester.specs.Masks.{Rejection, RejectedMasks}
use Rattle.table.specs.Rows.{row_at, rows_of, overridden}
use Rattle.table.specs.Table.{Tabulates}
use Rattle.table.specs.Tabled.{tabled}
use Rattle.table.specs.declared.Row.{Row}
use Rattle.leaf.specs.Searchable.{Searchable}

module _ (book : List ℕ) (rows : List Row) (n : ℕ) where
  abbrev P : Program
  P = tabled book rows n

  -- a row overrides a rule of a layer
  overrides_in : ℕ → ℕ → Rule → Bool
  overrides_in j i r = eqb r.layer i && overrides P (row_at book rows j) r

  tabulates_again : ∥ Tabulates P book rows ∥₁ → Tabulates P book rows
  unfolding tabled overrides_in
  tabulates_again h = record {
    fits = ∥∥₁_elim h (Prim.hlevel props) (λ w. w.fits);
    rules = refl;
    sound = λ j b i z. ∥∥₁_elim h (Prim.hlevel props) (λ w. w.sound j b i z);
    full = λ j b r m o. ∥∥₁_elim h (Prim.hlevel props) (λ w. w.full j b r m o);
    exact = λ j b i z.
        let t : T (any (overrides_in j i) (rows_of book rows)) = ∥∥₁_elim h (Prim.hlevel props) (λ w. let v = w.exact j b i z in any_of (overrides_in j i) v.1 (and_both (eqb v.0.layer i) (overrides P (row_at book rows j) v.0) (subst (λ (k : ℕ). T (eqb v.0.layer k)) v.2 (eqb_refl v.0.layer)) v.3)) in
        let v = any_at (overrides_in j i) (rows_of book rows) t in
        (v.0, v.1, eqb→eq v.0.layer i (and_left (eqb v.0.layer i) (overrides P (row_at book rows j) v.0) v.2), and_right (eqb v.0.layer i) (overrides P (row_at book rows j) v.0) v.2);
  }

pub searchable_again : {book : List ℕ} {rows : List Row} {n : ℕ} {atoms : List ℕ} → ∥ Searchable book rows atoms n ∥₁ → Searchable book rows atoms n
searchable_again {book} {rows} {n} h = record {
  formed = ∥∥₁_elim h (Prim.hlevel props) (λ w. w.formed);
  table = tabulates_again book rows n (∥∥₁_map h (λ w. w.table));
  listed = ∥∥₁_elim h (Prim.hlevel props) (λ w. w.listed);
  rows_few = ∥∥₁_elim h (Prim.hlevel props) (λ w. w.rows_few);
  atoms_few = ∥∥₁_elim h (Prim.hlevel props) (λ w. w.atoms_few);
  size = ∥∥₁_elim h (Prim.hlevel props) (λ w. w.size);
  some = ∥∥₁_elim h (Prim.hlevel props) (λ w. w.some);
  few = ∥∥₁_elim h (Prim.hlevel props) (λ w. w.few);
}

-- a row that rejects is looked for among all rows
module _ (book : List ℕ) (rows : List Row) (m : Interpretation) (n h i : ℕ) where
  rejects_at : ℕ → Bool
  rejects_at j = same_literal (literal_named h) (complement (row_at book rows j).head) && (body_holds m (row_at book rows j) && eqb (bit_of (overridden rows j) i) 1)

  rejection_again : ∥ Rejection book rows m n h i ∥₁ → Rejection book rows m n h i
  unfolding rejects_at
  rejection_again u =
      let t : T (any rejects_at (up_to n)) = ∥∥₁_elim u (Prim.hlevel props) (λ r. any_of rejects_at (up_to_has n r.row r.before)
      (and_both (same_literal (literal_named h) (complement (row_at book rows r.row).head)) (body_holds m (row_at book rows r.row) && eqb (bit_of (overridden rows r.row) i) 1)
      (subst (λ (l : Literal). T (same_literal (literal_named h) l)) r.facing (literal_refl (literal_named h)))
      (and_both (body_holds m (row_at book rows r.row)) (eqb (bit_of (overridden rows r.row) i) 1) r.holds_in (subst (λ (k : ℕ). T (eqb k 1)) (sym r.bit) tt)))) in
      let v = any_at rejects_at (up_to n) t in
      let b = and_right (same_literal (literal_named h) (complement (row_at book rows v.0).head)) (body_holds m (row_at book rows v.0) && eqb (bit_of (overridden rows v.0) i) 1) v.2 in
      record {
        row = v.0;
        before = up_to_lt n v.0 v.1;
        facing = literal_same (literal_named h) (complement (row_at book rows v.0).head) (and_left (same_literal (literal_named h) (complement (row_at book rows v.0).head)) (body_holds m (row_at book rows v.0) && eqb (bit_of (overridden rows v.0) i) 1) v.2);
        holds_in = and_left (body_holds m (row_at book rows v.0)) (eqb (bit_of (overridden rows v.0) i) 1) b;
        bit = eqb→eq (bit_of (overridden rows v.0) i) 1 (and_right (body_holds m (row_at book rows v.0)) (eqb (bit_of (overridden rows v.0) i) 1) b);
      }

pub masks_again : {book : List ℕ} {rows : List Row} {m : Interpretation} {rejects : List ℕ} {n : ℕ} → ∥ RejectedMasks book rows m rejects n ∥₁ → RejectedMasks book rows m rejects n
masks_again {book} {rows} {m} {rejects} {n} u = record {
  size = ∥∥₁_elim u (Prim.hlevel props) (λ w. w.size);
  sound = λ h i z. rejection_again book rows m n h i (∥∥₁_map u (λ w. w.sound h i z));
  full = λ h i r b. ∥∥₁_elim u (Prim.hlevel props) (λ w. w.full h i r b);
}
