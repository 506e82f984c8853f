-- A rule that nothing can reject is rejected in no state. Nogoods and facts that are sure rest on it. Assumes nothing.
use mathlib.Core.Path.{◌≡◌, refl, sym, ap, subst, ◌∙◌}
use mathlib.Core.Bool.{not, ◌&&◌}
use mathlib.Core.List.{List}
use Prim.Native.Nat.{ℕ, ◌<◌}
use lib.Dec.{T, T_not, not_T, eqb}
use lib.ListN.{get_or}
use Rattle.base.specs.Bounds.{max_names}
use Rattle.base.proofs.Members.{◌∈◌, and_left, any_at}
use Rattle.layers.specs.Masks.{bit_of}
use Rattle.format.specs.Book.{Rule}
use Rattle.models.specs.Program.{Program}
use Rattle.models.specs.StableModels.{Interpretation, complement, body_holds, overrides, rejected}
use Rattle.table.specs.Names.{literal_named, name_of}
use Rattle.table.specs.Rows.{row_count, head_name, row_at, alive}
use Rattle.table.specs.Table.{Tabulates}
use Rattle.table.specs.Tabled.{tabled}
use Rattle.table.proofs.NameLaws.{name_back, complement_twice}
use Rattle.table.proofs.RowLaws.{row_of}
use Rattle.table.proofs.NamedLaws.{overrides-named}
use Rattle.nogoods.specs.Nogoods.{Rejectable}
use Rattle.table.specs.declared.Row.{Row}

module _ {book : List ℕ} {rows : List Row} (n : ℕ) (table : Tabulates (tabled book rows n) book rows) (m : Interpretation) where
  abbrev P : Program
  P = tabled book rows n

  pub never-rejected : {rejectable : List ℕ} → Rejectable rows rejectable (row_count rows) → (r : Rule) → r ∈ P.rules → (h : ℕ) → h < max_names → literal_named h ≡ r.head → T (alive rejectable r) → T (not (rejected P m r))
  unfolding alive rejected row_at
  never-rejected {rejectable} q r i h b e live =
      not_T (rejected P m r)
      (λ d.
      let v : (t : Rule) × t ∈ P.rules × T (overrides P t r && body_holds m t) = any_at (λ t. overrides P t r && body_holds m t) P.rules d in
      let u : (j : ℕ) × (j < row_count rows) × (row_at book rows j ≡ v.0) = row_of book rows v.0 (subst (λ (rs : List Rule). v.0 ∈ rs) (sym table.rules) v.1) in
      let t : Rule = row_at book rows u.0 in
      let over = overrides-named table u.1 i (subst (λ (y : Rule). T (overrides P y r)) (sym u.2) (and_left (overrides P v.0 r) (body_holds m v.0) v.2)) in
      let y : bit_of (get_or rejectable h 0) r.layer ≡ 1 = q.full u.0 u.1 h (e ∙ facing t u.0 refl over.1) b r.layer over.0 in
      T_not (eqb (bit_of (get_or rejectable (name_of r.head) 0) r.layer) 1) live
      (subst (λ (x : ℕ). T (eqb (bit_of (get_or rejectable x 0) r.layer) 1)) (sym (name_back h) ∙ ap name_of e) (subst (λ (x : ℕ). T (eqb x 1)) (sym y) tt)))
    where
      row-head_is : (j : ℕ) → (row_at book rows j).head ≡ literal_named (head_name rows j)
      row-head_is j = refl

      facing : (t : Rule) (j : ℕ) → t ≡ row_at book rows j → t.head ≡ complement r.head → r.head ≡ complement (literal_named (head_name rows j))
      facing t j et eh = sym (complement_twice r.head) ∙ ap complement (sym eh ∙ ap (λ (x : Rule). x.head) et ∙ row-head_is j)
