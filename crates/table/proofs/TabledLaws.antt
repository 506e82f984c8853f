-- A table of a program is also one of the program that it stands for by itself, and the two are alike. Used where a call hands its
-- table to what searches it, which then knows neither arrows nor the driven layer. Assumes nothing.
use mathlib.Core.Path.{◌≡◌, refl, sym, subst, ◌∙◌}
use mathlib.Core.Bool.{Bool, ◌&&◌}
use mathlib.Core.List.{List, []}
use Prim.Native.Nat.{ℕ, ◌<◌}
use lib.Dec.{T, eqb, eqb_refl, eqb→eq}
use Rattle.base.specs.Lists.{any, up_to}
use Rattle.base.proofs.Members.{◌∈◌, and_left, and_right, and_both, any_at, any_of, same_test}
use Rattle.base.proofs.UpTo.{up_to_lt, up_to_has}
use Rattle.layers.specs.Masks.{bit_of}
use Rattle.format.specs.Book.{Literal, Rule}
use Rattle.models.specs.Program.{Program, constrained}
use Rattle.models.specs.StableModels.{overrides}
use Rattle.models.specs.Alike.{Alike}
use Rattle.models.proofs.AlikeLaws.{has_rule, has_body}
use Rattle.models.proofs.ConstraintLaws.{constrained-overrides}
use Rattle.models.proofs.SelfLeaningLaws.{overrides-asks, overrides_of}
use Rattle.table.specs.declared.Row.{Row}
use Rattle.table.specs.Rows.{row_count, row_layer, overridden, row_at, rows_of}
use Rattle.table.specs.Table.{Tabulates, TableMade}
use Rattle.table.specs.Tabled.{tabled}
use Rattle.table.proofs.RowLaws.{row_of}

pub tabled-atoms : (book : List ℕ) (rows : List Row) (n : ℕ) → (tabled book rows n).atoms ≡ n
unfolding tabled
tabled-atoms book rows n = refl

pub tabled-free : (book : List ℕ) (rows : List Row) (n : ℕ) → (tabled book rows n).constraints ≡ []
unfolding tabled
tabled-free book rows n = refl

module _ {P : Program} {book : List ℕ} {rows : List Row} (w : Tabulates P book rows) where
  abbrev Q : Program
  Q = tabled book rows P.atoms

  abbrev says : ℕ → ℕ → ℕ → Bool
  says i j k = eqb (row_layer rows k) j && eqb (bit_of (overridden rows k) i) 1

  -- what the masks say is so
  below-from : (i j : ℕ) → T (any (says i j) (up_to (row_count rows))) → T (P.below i j)
  unfolding row_at
  below-from i j t =
      let v : (k : ℕ) × k ∈ up_to (row_count rows) × T (says i j k) = any_at (says i j) (up_to (row_count rows)) t in
      let e : row_layer rows v.0 ≡ j = eqb→eq (row_layer rows v.0) j (and_left (eqb (row_layer rows v.0) j) (eqb (bit_of (overridden rows v.0) i) 1) v.2) in
      let b : bit_of (overridden rows v.0) i ≡ 1 = eqb→eq (bit_of (overridden rows v.0) i) 1 (and_right (eqb (row_layer rows v.0) j) (eqb (bit_of (overridden rows v.0) i) 1) v.2) in
      subst (λ (x : ℕ). T (P.below i x)) e (w.sound v.0 (up_to_lt (row_count rows) v.0 v.1) i b)

  below_into : (i k : ℕ) → k < row_count rows → bit_of (overridden rows k) i ≡ 1 → T (any (says i (row_layer rows k)) (up_to (row_count rows)))
  below_into i k h b =
      any_of (says i (row_layer rows k)) (up_to_has (row_count rows) k h)
      (and_both (eqb (row_layer rows k) (row_layer rows k)) (eqb (bit_of (overridden rows k) i) 1) (eqb_refl (row_layer rows k)) (subst (λ (x : ℕ). T (eqb x 1)) (sym b) tt))

  overrides-from : (t r : Rule) → T (overrides Q t r) → T (overrides P t r)
  unfolding tabled
  overrides-from t r o = let asks = overrides-asks Q t r o in overrides_of P t r (below-from r.layer t.layer asks.0) asks.1 asks.2

  overrides_into : (k : ℕ) → k < row_count rows → (r : Rule) → r ∈ rows_of book rows → T (overrides P (row_at book rows k) r) → T (overrides Q (row_at book rows k) r)
  unfolding tabled row_at
  overrides_into k h r m o =
      let asks = overrides-asks P (row_at book rows k) r o in
      overrides_of Q (row_at book rows k) r (below_into r.layer k h (w.full k h r m o)) asks.1 asks.2

  overrides_same : (t r : Rule) → t ∈ P.rules → r ∈ P.rules → overrides P t r ≡ overrides Q t r
  overrides_same t r k j =
      let v : (i : ℕ) × (i < row_count rows) × (row_at book rows i ≡ t) = row_of book rows t (subst (λ (rs : List Rule). t ∈ rs) (sym w.rules) k) in
      same_test (overrides P t r) (overrides Q t r)
      (λ o. subst (λ (x : Rule). T (overrides Q x r)) v.2
      (overrides_into v.0 v.1 r (subst (λ (rs : List Rule). r ∈ rs) (sym w.rules) j) (subst (λ (x : Rule). T (overrides P x r)) (sym v.2) o)))
      (overrides-from t r)

  -- with the program's constraints put back, the two are alike
  pub tabled-alike : (bodies : List (List Literal)) → bodies ≡ P.constraints → Alike P (constrained Q bodies)
  unfolding tabled constrained
  tabled-alike bodies e = record {
    atoms_same = refl;
    to = λ r k. has_rule r (subst (λ (rs : List Rule). r ∈ rs) (sym w.rules) k);
    from = λ r k. has_rule r (subst (λ (rs : List Rule). r ∈ rs) w.rules k);
    constraints_to = λ b k. has_body b (subst (λ (bs : List (List Literal)). b ∈ bs) (sym e) k);
    constraints_from = λ b k. has_body b (subst (λ (bs : List (List Literal)). b ∈ bs) e k);
    overrides_same = λ t r k j. overrides_same t r k j ∙ sym (constrained-overrides Q bodies t r);
  }

  pub tabled-table : Tabulates Q book rows
  unfolding tabled row_at
  tabled-table = record {
    fits = w.fits;
    rules = refl;
    sound = λ j h i b. below_into i j h b;
    full = λ j h r k o. w.full j h r k (overrides-from (row_at book rows j) r o);
    exact = λ j h i b. let x = w.exact j h i b in (x.0, x.1, x.2, overrides_into j h x.0 x.1 x.3);
  }

-- the table as the code makes it, with n for the facts of its program
module _ {P : Program} {book : List ℕ} {rows : List Row} (made : TableMade P book rows) {n : ℕ} (e : n ≡ P.atoms) where
  pub lent_alike : (bodies : List (List Literal)) → bodies ≡ P.constraints → Alike P (constrained (tabled book rows n) bodies)
  lent_alike bodies eb = subst (λ (k : ℕ). Alike P (constrained (tabled book rows k) bodies)) (sym e) (tabled-alike made.table bodies eb)

  pub lent_tabled : Tabulates (tabled book rows n) book rows
  lent_tabled =
      subst (λ (k : ℕ). Tabulates (tabled book rows k) book rows) (sym e)
      (tabled-table made.table)
