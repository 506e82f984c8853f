-- One row of the plan and one constraint, whose entries go behind the others; and the plan of all rows, as a search is lent it. Used by
-- plan_row, put_bans and make_plan. Assumes nothing.
use mathlib.Core.Path.{◌≡◌, refl, sym, ap, subst, ◌∙◌}
use mathlib.Core.Bool.{Bool, true, false, cond}
use mathlib.Core.List.Memᴰ
use mathlib.Core.List.{List, [], ◌++◌}
use Prim.Native.Nat.{ℕ, ◌<◌, ◌≤◌}
use native.Mathlib.Omega.{arith}
use borrow.Author.Tests.{lt-ltb}
use lib.ListN.{length}
use Rattle.std.specs.Prelude.{Option, Some, None, IfSome, nat_lt}
use Rattle.std.specs.Option.{option_to_list}
use Rattle.std.proofs.lemmas.Option.{IfSome_then}
use Rattle.base.specs.Lists.{put_behind}
use Rattle.base.proofs.Members.{◌∈◌}
use Rattle.table.specs.declared.Row.{Row}
use Rattle.table.specs.declared.Span.{Span}
use Rattle.table.specs.Rows.{row_count}
use Rattle.bans.specs.Bans.{body_of, BansFit}
use Rattle.setting.specs.RuleMasks.{AtomBits, MasksMade, RuleMasks}
use Rattle.setting.proofs.RuleMaskLaws.{masks_start}
use Rattle.nogoods.specs.Nogoods.{max_nogoods, Rejectable, AllWithin, NogoodAt, of_row, of_ban, NogoodsTo, Nogoods}
use Rattle.nogoods.specs.declared.Nogood.{Nogood}
use Rattle.nogoods.proofs.NogoodLaws.{nogoods_more}
use Rattle.rejecting.specs.Rejecting.{Rejecting, RejectingMade}
use Rattle.rejecting.proofs.RejectingLaws.{made-start}
use Rattle.plan.specs.declared.Plan.{Plan}
use Rattle.plan.specs.Plan.{SameFacts, PlanTo, NogoodsPut, Planned}

-- ---- one entry
-- where there is room, what there is goes behind the others
pub put_in : {T : Type 0} (before : List T) (room : ℕ) (entry : Option T) → length before < room → put_behind before room entry ≡ before ++ option_to_list entry
put_in before room entry h = ap (λ (b : Bool). cond b (before ++ option_to_list entry) before) (lt-ltb (length before) room h)

-- a nogood more, if there is one, and room for it
pub nogood_put : {book : List ℕ} {rows : List Row} {bans : List Span} {rejectable bits : List ℕ} {before : List Nogood} → NogoodsTo book rows bans rejectable bits before → (room : ℕ) (entry : Option Nogood)
    → IfSome entry (NogoodAt book rows bans rejectable bits) → NogoodsTo book rows bans rejectable bits (put_behind before room entry)
nogood_put {book} {rows} {bans} {rejectable} {bits} {before} w room entry f = go (nat_lt (length before) room) entry f
  where
    one : (e : Option Nogood) → IfSome e (NogoodAt book rows bans rejectable bits) → NogoodsTo book rows bans rejectable bits (option_to_list e)
    one None f n k = absurd (Memᴰ.not-nil k)
    one (Some x) f n k = subst (NogoodAt book rows bans rejectable bits) (sym (Memᴰ.eq_of_singleton k)) f

    go : (c : Bool) (e : Option Nogood) → IfSome e (NogoodAt book rows bans rejectable bits) → NogoodsTo book rows bans rejectable bits (cond c (before ++ option_to_list e) before)
    go true e f = nogoods_more w (option_to_list e) (one e f)
    go false e f = w

-- ---- the facts stay
pub same_refl : (p : Plan) → SameFacts p p
same_refl p = record { facts_same = refl; atoms_same = refl }

-- ---- all rows
pub plan_start : (book : List ℕ) (rows : List Row) (bits rejectable : List ℕ) (p : Plan) → p.heads ≡ [] → p.nogoods ≡ [] → p.rejecting ≡ [] → PlanTo book rows bits rejectable p 0
plan_start book rows bits rejectable p a b c = record {
  masks_made = rw a (masks_start book rows p.atoms);
  nogoods_made = λ n k. absurd (Memᴰ.not-nil (subst (λ (l : List Nogood). n ∈ l) b k));
  nogoods_few = omega (arith, ap length b);
  rejecting_made = rw c made-start;
}

-- ---- the constraints' nogoods
-- those of rows are nogoods whatever the constraints are
pub nogoods_of_rows : {book : List ℕ} {rows : List Row} (bans : List Span) {rejectable bits : List ℕ} {nogoods : List Nogood} → NogoodsTo book rows [] rejectable bits nogoods → NogoodsTo book rows bans rejectable bits nogoods
nogoods_of_rows {book} {rows} bans {rejectable} {bits} w n k = go (w n k)
  where
    go : NogoodAt book rows [] rejectable bits n → NogoodAt book rows bans rejectable bits n
    go (of_row j r) = of_row j r
    go (of_ban ban l r) = absurd (Memᴰ.not-nil l)

pub bans_more : {book : List ℕ} {bans : List Span} {bits : List ℕ} {before after : List Nogood} → NogoodsPut book bans bits before after → (ban : Span) → ban ∈ bans → (entry : Option Nogood)
    → IfSome entry (λ n. AllWithin bits n (body_of book ban)) → (room : ℕ) (later : List Nogood) → later ≡ put_behind after room entry → NogoodsPut book bans bits before later
bans_more w ban b entry f room later e rows rejectable v = rw e (nogood_put (w rows rejectable v) room entry (IfSome_then entry f (λ n x. of_ban ban b x)))

-- ---- the whole plan: that of the rows, with the constraints' nogoods, which stand behind theirs
-- what its entries are, however many nogoods there are
pub plan_entries : {book : List ℕ} {rows : List Row} {bits rejectable : List ℕ} (p : Plan) {j : ℕ} → MasksMade book rows p.atoms p.heads j → NogoodsTo book rows [] rejectable bits p.nogoods
    → RejectingMade book rows p.atoms p.rejecting j → j ≡ row_count rows → {atoms : List ℕ} → p.atoms ≡ atoms → AtomBits atoms bits (length atoms) → Rejectable rows rejectable (row_count rows)
    → {bans : List Span} → BansFit book bans → (q : Plan) → q.atoms ≡ p.atoms → q.heads ≡ p.heads → q.rejecting ≡ p.rejecting → NogoodsPut book bans bits p.nogoods q.nogoods
    → (q.atoms ≡ atoms) × RuleMasks book rows atoms q.heads × Nogoods book rows bans atoms q.nogoods × Rejecting book rows atoms q.rejecting × BansFit book bans
plan_entries {book} {rows} {bits} {rejectable} p {j} masks nogoods rejecting ej {atoms} ea ab r bf q s eh er put = (
  s ∙ ea,
  rw eh (record { each = (subst (λ (fs : List ℕ). MasksMade book rows fs p.heads (row_count rows)) ea (subst (MasksMade book rows p.atoms p.heads) ej masks)).each }),
  record { rejectable = rejectable; rejects_all = r; bits = bits; bits_of = ab; each = put rows rejectable nogoods },
  rw er (subst (λ (fs : List ℕ). RejectingMade book rows fs p.rejecting (row_count rows)) ea (subst (RejectingMade book rows p.atoms p.rejecting) ej rejecting)).entries,
  bf,
)

-- and the plan as a search is lent it, which has room for them all
pub plan_end : {book : List ℕ} {rows : List Row} {bits rejectable : List ℕ} {p : Plan} {j : ℕ} → PlanTo book rows bits rejectable p j → j ≡ row_count rows → {atoms : List ℕ} → p.atoms ≡ atoms
    → AtomBits atoms bits (length atoms) → Rejectable rows rejectable (row_count rows) → {bans : List Span} → BansFit book bans → (q : Plan) → q.atoms ≡ p.atoms → q.heads ≡ p.heads
    → q.rejecting ≡ p.rejecting → NogoodsPut book bans bits p.nogoods q.nogoods → length q.nogoods ≤ max_nogoods → Planned book rows bans atoms q
plan_end {p = p} w ej ea ab r bf q s eh er put few =
    let x : _ = plan_entries p w.masks_made w.nogoods_made w.rejecting_made ej ea ab r bf q s eh er put in
    record { atoms_are = x.0; rule_masks = x.1; nogood_masks = x.2; nogoods_few = few; rejecting_masks = x.3; bans_fit = x.4 }
