-- Two listings are equal byte for byte exactly if the programs have as many facts and the same stable models. Assumes nothing.
use mathlib.Core.Path.{◌≡◌, sym, ap, ap₂, subst, ◌∙◌}
use mathlib.Core.Logic.{◌↔◌}
use Prim.Native.Nat.{ℕ, ◌<◌, ◌≤◌}
use native.Mathlib.Omega.{arith}
use lib.Dec.{T}
use lib.ListN.{length}
use Rattle.base.specs.Bounds.{max_atoms}
use Rattle.base.specs.Lists.{filter}
use Rattle.base.proofs.Members.{◌∈◌, filter-from, same_test}
use Rattle.models.specs.Program.{Program}
use Rattle.models.specs.StableModels.{Interpretation, stable, StableModel}
use Rattle.models.specs.Listing.{interpretations, stable_models, listing_of, listing}
use Rattle.models.specs.Condition3.{ListingsDecide}
use Rattle.models.proofs.InterpretationLaws.{agree, agree_same, interpretations-length}
use Rattle.models.proofs.RecordLaws.{listing-same}
use Rattle.models.proofs.LeastLaws.{stable_sound, stable_complete}

pub stable_models-length : (P : Program) (m : Interpretation) → m ∈ stable_models P → length m ≡ P.atoms
unfolding stable_models
stable_models-length P m k = interpretations-length P.atoms m (filter-from (stable P) (interpretations P.atoms) k).0

module _ (P Q : Program) where
  -- with n equal, the same tests on states of n facts and the same stable models are one statement
  abbrev SameTests : Type 0
  SameTests = (m : Interpretation) → length m ≡ P.atoms → stable P m ≡ stable Q m

  abbrev SameModels : Type 0
  SameModels = (m : Interpretation) → StableModel P m ↔ StableModel Q m

  tests_models : P.atoms ≡ Q.atoms → SameTests → SameModels
  tests_models n h m = (
    λ x. stable_sound Q m (x.size ∙ n) (subst T (h m x.size) (stable_complete P m x)),
    λ x. stable_sound P m (x.size ∙ sym n) (subst T (sym (h m (x.size ∙ sym n))) (stable_complete Q m x)),
  )

  models_tests : P.atoms ≡ Q.atoms → SameModels → SameTests
  models_tests n h m l =
      same_test (stable P m) (stable Q m)
      (λ x. stable_complete Q m ((h m).0 (stable_sound P m l x)))
      (λ x. stable_complete P m ((h m).1 (stable_sound Q m (l ∙ n) x)))

  module _ (some : 0 < P.atoms) (few : P.atoms ≤ max_atoms) (few' : Q.atoms ≤ max_atoms) where
    told : listing P ≡ listing Q → (P.atoms ≡ Q.atoms) × SameTests
    unfolding listing stable_models
    told e =
        let w : (P.atoms ≡ Q.atoms) × (stable_models P ≡ stable_models Q) =
        listing-same P.atoms Q.atoms (stable_models P) (stable_models Q) some (omega arith) (omega arith) (stable_models-length P) (stable_models-length Q) e in
        (w.0, agree P.atoms (stable P) (stable Q) (w.1 ∙ ap (λ (n : ℕ). filter (stable Q) (interpretations n)) (sym w.0)))

    same : P.atoms ≡ Q.atoms → SameTests → listing P ≡ listing Q
    unfolding listing stable_models
    same n h =
        ap₂ listing_of n (agree_same P.atoms (stable P) (stable Q) h ∙ ap (λ (n : ℕ). filter (stable Q) (interpretations n)) n)

    pub listings_decide : ListingsDecide P Q
    listings_decide = (
      λ e. let w : (P.atoms ≡ Q.atoms) × SameTests = told e in (w.0, tests_models w.0 w.1),
      λ w. same w.0 (models_tests w.0 w.1),
    )
