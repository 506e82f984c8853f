-- The masks of a setting are made 0 again by the entries' names alone. Used by clear_at, and by what visits a setting. Assumes nothing.
use mathlib.Core.Path.{◌≡◌, sym, ap, subst, ◌∙◌}
use mathlib.Core.Logic.{⊎_elim}
use mathlib.Core.List.Memᴰ
use mathlib.Core.List.{List, [], ◌∷◌}
use Prim.Native.Nat.{ℕ, suc, ◌+◌, ◌<◌, ◌≤◌}
use native.Mathlib.Decide.{ℕ_discrete}
use native.Mathlib.Omega.{arith}
use lib.ListN.{length, get_or, set, drop, drop_of_length-le, length-set, replicate, length-replicate}
use Rattle.std.proofs.Common.{add-one}
use Rattle.rejecting.proofs.RejectingLaws.{no_row, named_at}
use lib.Seq.{drop-cons, ext_get_or, get_or-set_same, get_or-set_other}
use Rattle.base.specs.Bounds.{max_names}
use Rattle.base.proofs.Members.{◌∈◌}
use Rattle.base.proofs.MapLaws.{constant_at}
use Rattle.layers.specs.Masks.{bit_of}
use Rattle.layers.proofs.BitLaws.{some-bit}
use Rattle.rejecting.specs.declared.RejectingMasks.{RejectingMasks}
use Rattle.rejecting.specs.Rejecting.{Named, RejectsAt, Uncleared}

-- what a setting rejects stands at names of entries
pub rejects_uncleared : {rejecting : List RejectingMasks} {rejects : List ℕ} {standing : ℕ} → RejectsAt rejecting standing rejects → Uncleared rejecting rejects
rejects_uncleared {rejects = rejects} w = record {
  size = w.size;
  each = λ h z.
      let b : (i : ℕ) × (bit_of (get_or rejects h 0) i ≡ 1) = some-bit (suc (get_or rejects h 0)) (get_or rejects h 0) (omega arith) (omega (arith, z)) in
      let x = w.sound h b.0 b.1 in
      (x.entry, x.listed, x.name_is);
}

-- an entry's name is cleared
pub cleared_more : (m : RejectingMasks) (later : List RejectingMasks) (rejects : List ℕ) → Uncleared (m ∷ later) rejects → (name : ℕ) → name ≡ m.name → name < max_names
    → Uncleared later (set rejects name 0)
cleared_more m later rejects w name e b = record { size = length-set rejects name 0 ∙ w.size; each = λ h z. go h z (ℕ_discrete h name) }
  where
    go : (h : ℕ) → (get_or (set rejects name 0) h 0 ≡ 0 → ⊥) → Dec (h ≡ name) → (x : RejectingMasks) × x ∈ later × (x.name ≡ h)
    go h z (yes q) = absurd (z (subst (λ (x : ℕ). get_or (set rejects name 0) x 0 ≡ 0) (sym q) (get_or-set_same rejects name 0 0 (omega (arith, w.size)))))
    go h z (no q) =
        let x = w.each h (λ y. z (get_or-set_other rejects name h 0 0 q ∙ y)) in
        ⊎_elim (λ a. absurd (q (sym x.2 ∙ ap (λ (y : RejectingMasks). y.name) a ∙ sym e))) (λ k. (x.0, k, x.2)) (Memᴰ.cases_cons x.1)

-- no entry is left
pub cleared_all : {rejects : List ℕ} → Uncleared [] rejects → rejects ≡ replicate {A = ℕ} max_names 0
cleared_all {rejects} w =
    ext_get_or 0 rejects (replicate {A = ℕ} max_names 0) (w.size ∙ sym (length-replicate {A = ℕ} max_names 0))
    (λ f b. go f (ℕ_discrete (get_or rejects f 0) 0) ∙ sym (constant_at 0 max_names f))
  where
    go : (f : ℕ) → Dec (get_or rejects f 0 ≡ 0) → get_or rejects f 0 ≡ 0
    go f (yes e) = e
    go f (no e) = absurd (Memᴰ.not-nil (w.each f e).1)

-- the entry at a place, as a loop over them has it
pub cleared_at : (rejecting : List RejectingMasks) (k : ℕ) → k < length rejecting → (rejects : List ℕ) → Uncleared (drop k rejecting) rejects → Named rejecting → (name : ℕ) → name ≡ (get_or rejecting k no_row).name
    → Uncleared (drop (k + 1) rejecting) (set rejects name 0)
cleared_at rejecting k b rejects w all name e =
    cleared_more (get_or rejecting k no_row) (drop (k + 1) rejecting) rejects (subst (λ (l : List RejectingMasks). Uncleared l rejects) next w) name e (named_at rejecting k b all name e)
  where
    next : drop k rejecting ≡ get_or rejecting k no_row ∷ drop (k + 1) rejecting
    next = rw add-one (drop-cons rejecting k no_row b)

pub cleared_end : (rejecting : List RejectingMasks) (k : ℕ) → length rejecting ≤ k → (rejects : List ℕ) → Uncleared (drop k rejecting) rejects → rejects ≡ replicate {A = ℕ} max_names 0
cleared_end rejecting k b rejects w = cleared_all (subst (λ (l : List RejectingMasks). Uncleared l rejects) (drop_of_length-le rejecting b) w)
