-- What follows from nothing by rules that nothing can reject is derived in every stable model. Used by sure_facts and the pass. Assumes
-- nothing.
use mathlib.Core.Path.{◌≡◌, ap, subst, ◌∙◌}
use mathlib.Core.Bool.{Bool, false, not}
use mathlib.Core.List.{List}
use Prim.Native.Nat.{ℕ, ◌<◌}
use lib.Dec.{T}
use lib.ListN.{length, replicate}
use Rattle.base.proofs.MapLaws.{constant_at}
use Rattle.base.proofs.Members.{◌∈◌}
use Rattle.format.specs.Book.{Literal, Rule}
use Rattle.models.specs.Program.{Program}
use Rattle.models.specs.StableModels.{Interpretation, atom_holds, positive, signed, holds, rejected, Derived, by_rule, StableModel}
use Rattle.table.specs.Rows.{row_count, head_name, row_at, rows_of, alive}
use Rattle.table.specs.Tabled.{tabled}
use Rattle.table.proofs.RowLaws.{row_of}
use Rattle.bans.specs.Bans.{barred}
use Rattle.filling.specs.Marks.{literal_marked, FollowsFrom, from_start, by_row, Fills}
use Rattle.nogoods.specs.Nogoods.{Rejectable}
use Rattle.leaf.specs.Searchable.{Searchable}
use Rattle.search.proofs.AllowedLaws.{barred-size, barred_model}
use Rattle.search.proofs.RejectableLaws.{never-rejected}
use Rattle.first.specs.InHand.{Sure, SureOf}
use Rattle.table.specs.declared.Row.{Row}
use Rattle.table.specs.declared.Span.{Span}

-- nothing is marked
unmarked : (k f : ℕ) → T (atom_holds (replicate k false) f) → ⊥
unfolding atom_holds
unmarked k f t = subst T (constant_at false k f) t

module _ {book : List ℕ} {rows : List Row} {atoms : List ℕ} {n : ℕ} (w : Searchable book rows atoms n) {rejectable : List ℕ} (q : Rejectable rows rejectable (row_count rows)) (k : ℕ) (m : Interpretation) where
  abbrev P : Program
  P = tabled book rows n

  in_rules : (r : Rule) → r ∈ rows_of book rows → r ∈ P.rules
  in_rules r i = subst (λ (rs : List Rule). r ∈ rs) w.table.rules i

  lives-on : (r : Rule) → r ∈ rows_of book rows → T (alive rejectable r) → T (not (rejected P m r))
  unfolding row_at
  lives-on r i live =
      let u : (j : ℕ) × (j < row_count rows) × (row_at book rows j ≡ r) = row_of book rows r i in
      never-rejected n w.table m q r (in_rules r i) (head_name rows u.0) (w.table.fits.bounded.name u.0 u.1) (ap (λ (x : Rule). x.head) u.2) live

  follows_derived : (l : Literal) → FollowsFrom book rows rejectable (replicate k false) l → Derived P m l
  follows_derived l (from_start f t) = absurd (unmarked k f t)
  follows_derived l (by_row r i live below) = by_rule r (in_rules r i) (lives-on r i live) (λ x k. follows_derived x (below x k))

  follows-low : (l : Literal) → FollowsFrom book rows rejectable (replicate k false) l → l.atom < P.atoms
  follows-low l (from_start f t) = absurd (unmarked k f t)
  follows-low l (by_row r i live below) = w.formed.heads r (in_rules r i)

  sure_stands : {p o : List Bool} {conflict : Bool} → Fills book rows rejectable (replicate k false) p o conflict → StableModel P m → (f : ℕ) → T (atom_holds p f) → T (atom_holds m f)
  unfolding literal_marked holds signed
  sure_stands x sm f t =
      let y : FollowsFrom book rows rejectable (replicate k false) (positive f) = x.sound (positive f) t in
      (sm.exact (positive f) (follows-low (positive f) y)).0 (follows_derived (positive f) y)

pub sure_of : (book : List ℕ) (rows : List Row) (rejectable : List ℕ) → Rejectable rows rejectable (row_count rows) → (k : ℕ) (start : List Bool) → start ≡ replicate k false → (p o : List Bool) (conflict : Bool) → Fills book rows rejectable start p o conflict → SureOf book rows p
sure_of book rows rejectable q k start e p o conflict x = record { stands = λ atoms n w m sm f t. sure_stands w q k m (subst (λ (s : List Bool). Fills book rows rejectable s p o conflict) e x) sm f t }

-- with constraints there are no other stable models
pub sure_barred : {book : List ℕ} {rows : List Row} {atoms : List ℕ} {n : ℕ} → Searchable book rows atoms n → (bans : List Span) {sure : List Bool} → length sure ≡ n → SureOf book rows sure → Sure (barred book rows bans n) sure
sure_barred {atoms = atoms} {n = n} w bans l s = record { size = l ∙ barred-size w bans; stands = λ m sm f t. s.stands atoms n w m (barred_model w bans m sm) f t }
