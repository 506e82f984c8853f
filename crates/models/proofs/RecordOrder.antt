-- The records of two states, compared as byte strings, are in the states' order: the first fact where they differ is in the first byte
-- where they do. Used by the crate `records`. Assumes nothing.
use mathlib.Core.Path.{◌≡◌, subst}
use mathlib.Core.Logic.{◌⊎◌, inl, inr}
use mathlib.Core.Bool.{true, false}
use mathlib.Core.List.{List, [], ◌∷◌, ◌++◌}
use Prim.Native.Nat.{ℕ, zero, suc, ◌<◌}
use native.Mathlib.Omega.{arith}
use lib.ListN.{length, take, drop, take-append-drop, length-drop}
use Rattle.models.specs.StableModels.{Interpretation}
use Rattle.models.specs.Listing.{bit_value, bits_value, packed}
use Rattle.models.proofs.InterpretationLaws.{◌⊏◌}
use Rattle.models.proofs.RecordLaws.{high_lt, high_same}

-- the order of byte strings of one length
abbrev pub Less : List ℕ → List ℕ → Type 0
Less [] ys = ⊥
Less (x ∷ xs) [] = ⊥
Less (x ∷ xs) (y ∷ ys) = (x < y) ⊎ ((x ≡ y) × Less xs ys)

high_less : (k : ℕ) (m o : Interpretation) → length m ≡ length o → bits_value k m < bits_value k o → m ⊏ o
unfolding bits_value bit_value
high_less zero m o l h = absurd (omega arith)
high_less (suc k) [] [] l h = absurd (omega arith)
high_less (suc k) [] (b ∷ o) l h = absurd (omega arith)
high_less (suc k) (a ∷ m) [] l h = absurd (omega arith)
high_less (suc k) (true ∷ m) (true ∷ o) l h = high_less k m o (omega arith) (omega arith)
high_less (suc k) (false ∷ m) (false ∷ o) l h = high_less k m o (omega arith) (omega arith)
high_less (suc k) (true ∷ m) (false ∷ o) l h = absurd (omega (arith, high_lt k o))
high_less (suc k) (false ∷ m) (true ∷ o) l h = tt

-- an equal start may be put in front
front : (p m o : Interpretation) → m ⊏ o → (p ++ m) ⊏ (p ++ o)
front [] m o h = h
front (true ∷ p) m o h = front p m o h
front (false ∷ p) m o h = front p m o h

pub packed_less : (k : ℕ) (m o : Interpretation) → length m ≡ length o → Less (packed k m) (packed k o) → m ⊏ o
unfolding packed
packed_less zero m o l h = absurd h
packed_less (suc k) m o l (inl h) = high_less 8 m o l h
packed_less (suc k) m o l (inr h) =
    let e : take 8 m ≡ take 8 o = high_same 8 m o l h.0 in
    let u : drop 8 m ⊏ drop 8 o = packed_less k (drop 8 m) (drop 8 o) (simp length-drop (omega arith)) h.1 in
    subst (λ (x : Interpretation). x ⊏ o) (take-append-drop 8 m)
    (subst (λ (x : Interpretation). (take 8 m ++ drop 8 m) ⊏ x) (take-append-drop 8 o)
    (subst (λ (x : Interpretation). (take 8 m ++ drop 8 m) ⊏ (x ++ drop 8 o)) e (front (take 8 m) (drop 8 m) (drop 8 o) u)))
