-- The entries of the rejecting masks name two rows exactly when the one could displace the other: each entry is a row's, and the rows do
-- (`named-overrides`, `overrides-named`). Assumes nothing.
use mathlib.Core.Path.{◌≡◌, sym, ap, subst, ◌∙◌}
use mathlib.Core.List.{List}
use Prim.Native.Nat.{ℕ, ◌<◌}
use lib.Dec.{T}
use Rattle.base.proofs.Members.{◌∈◌}
use Rattle.layers.specs.Masks.{bit_of}
use Rattle.layers.proofs.BitLaws.{zero_bit}
use Rattle.format.specs.Book.{Rule}
use Rattle.models.specs.Program.{Program}
use Rattle.models.specs.StableModels.{complement, overrides}
use Rattle.table.specs.declared.Row.{Row}
use Rattle.table.specs.Rows.{row_count, row_at, overridden}
use Rattle.table.specs.Table.{Tabulates}
use Rattle.table.proofs.NameLaws.{complement_twice}
use Rattle.table.proofs.NamedLaws.{named-overrides, overrides-named}
use Rattle.table.proofs.RowLaws.{row_in}
use Rattle.rejecting.specs.Rejecting.{Rejecting}
use Rattle.rejecting.specs.Entries.{EntryNames, EntriesExactly}
use Rattle.rejecting.specs.declared.RejectingMasks.{RejectingMasks}

module _ {P : Program} {book : List ℕ} {rows : List Row} {atoms : List ℕ} {rejecting : List RejectingMasks} (w : Tabulates P book rows) (d : Rejecting book rows atoms rejecting) where
  in_rules : (i : ℕ) → i < row_count rows → row_at book rows i ∈ P.rules
  in_rules i b = subst (λ (rs : List Rule). row_at book rows i ∈ rs) w.rules (row_in book rows i b)

  pub entries-exactly : EntriesExactly P book rows atoms rejecting
  entries-exactly j i a b = (from, into)
    where
      from : EntryNames book rows atoms rejecting j i → T (overrides P (row_at book rows j) (row_at book rows i))
      from x =
          named-overrides w a (in_rules i b) (subst (λ (y : ℕ). bit_of y (row_at book rows i).layer ≡ 1) x.entry_is.layers_are x.layer)
          (sym (complement_twice (row_at book rows j).head) ∙ ap complement (sym x.entry_is.facing ∙ x.head))

      into : T (overrides P (row_at book rows j) (row_at book rows i)) → EntryNames book rows atoms rejecting j i
      into o =
          let n = overrides-named w a (in_rules i b) o in
          let v = d.full j a (λ z. zero_bit (overridden rows j) (row_at book rows i).layer z n.0) in
          record {
            entry = v.0;
            listed = v.1;
            entry_is = v.2;
            layer = subst (λ (y : ℕ). bit_of y (row_at book rows i).layer ≡ 1) (sym v.2.layers_are) n.0;
            head = v.2.facing ∙ ap complement n.1 ∙ complement_twice (row_at book rows i).head;
          }
