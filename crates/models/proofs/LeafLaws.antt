-- The states that pass a test which only one can pass: that one, or none. Used by the search for the model of a setting.
-- Assumes nothing.
use mathlib.Core.Path.{◌≡◌, refl, sym, ap, subst, ◌∙◌}
use mathlib.Core.Logic.{inl, inr}
use mathlib.Core.Bool.{Bool, true, false}
use mathlib.Core.List.Memᴰ
use mathlib.Core.List.{[]}
use Prim.Native.Nat.{ℕ}
use lib.Dec.{T}
use lib.ListN.{length}
use Rattle.base.specs.Lists.{cons_if, filter}
use Rattle.models.specs.StableModels.{Interpretation}
use Rattle.models.specs.Listing.{interpretations}
use Rattle.base.proofs.Members.{◌∈◌}
use Rattle.base.proofs.Rising.{Rising}
use Rattle.models.proofs.InterpretationLaws.{◌⊏◌, listed}

-- if only c can pass, the states that pass are c alone, or none
pub alone : (n : ℕ) (p : Interpretation → Bool) (c : Interpretation) → length c ≡ n → ((m : Interpretation) → length m ≡ n → T (p m) → m ≡ c) → cons_if (p c) c [] ≡ filter p (interpretations n)
unfolding cons_if
alone n p c l h =
    listed n p (cons_if (p c) c []) (rises (p c)) (λ m k. from m (p c) refl k) (λ m i t. into m (p c) (h m i t) (subst (λ (z : Interpretation). T (p z)) (h m i t) t))
  where
    rises : (d : Bool) → Rising ◌⊏◌ (cons_if d c [])
    rises true = (λ y m. absurd (Memᴰ.not-nil m), tt)
    rises false = tt

    from : (m : Interpretation) (d : Bool) → p c ≡ d → m ∈ cons_if d c [] → (length m ≡ n) × T (p m)
    from m true e k = elim (Memᴰ.cases_cons k) [ inl q ↦ (ap length q ∙ l, subst (λ (z : Interpretation). T (p z)) (sym q) (subst T (sym e) tt)) | inr j ↦ absurd (Memᴰ.not-nil j) ]
    from m false e k = absurd (Memᴰ.not-nil k)

    into : (m : Interpretation) (d : Bool) → m ≡ c → T d → m ∈ cons_if d c []
    into m true e t = Memᴰ.head e
    into m false e t = absurd t
