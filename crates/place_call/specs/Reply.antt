-- Document 01: a fact's place. The causes in order of test, and the answer. Assumes nothing.
use Rattle.std.specs.Prelude.{◌≡◌, ◌↔◌, Bool, true, false, not, ℕ, T, ltb, Result, Ok}
use Rattle.std.specs.Result.{result_and}
use mathlib.Core.List.{List, [], ◌∷◌, ◌++◌, Memᴰ}
use Rattle.base.specs.Lists.{all, any}
use Rattle.models.specs.Program.{Program}
use Rattle.models.specs.StableModels.{Interpretation, atom_holds, StableModel}
use Rattle.models.specs.Branching.{branching_count}
use Rattle.models.specs.Listing.{stable_models}
use Rattle.table.specs.Table.{program_of}
use Rattle.book.specs.Causes.{Test, first_of, Verdict}
use Rattle.book.specs.declared.Cause.{Cause}
use Rattle.book.specs.declared.Cause.TheVariants.{NoSuchFact, TooManyBranching, NoStableState}
use Rattle.accepted.specs.Driven.{layer_tests}
use Rattle.passes.specs.Limit.{has_too_many_branching, has_no_stable_state}
use Rattle.place_call.specs.declared.Place.{Place}
use Rattle.place_call.specs.declared.Place.TheVariants.{Every, InSome, Nowhere}
use Rattle.place_call.specs.declared.Placed.{Placed}

-- 14: no stable state
unfoldable pub state_tests : Program → List Test
state_tests P = record { cause = NoStableState; applies = has_no_stable_state P } ∷ []

-- 12, then 14
unfoldable pub search_tests : Program → List Test
search_tests P = record { cause = TooManyBranching; applies = has_too_many_branching P } ∷ state_tests P

-- 11: fact not below n
unfoldable pub is_no_such_fact : Program → ℕ → Bool
is_no_such_fact P fact = not (ltb fact P.atoms)

-- 11, then 12 and 14
unfoldable pub fact_tests : Program → ℕ → List Test
fact_tests P fact = record { cause = NoSuchFact; applies = is_no_such_fact P fact } ∷ search_tests P

-- the causes of the book and of the driven layer, then 11, 12 and 14
unfoldable pub place_tests : List ℕ → ℕ → ℕ → ℕ → List Test
place_tests book layer off fact = layer_tests book layer off ++ fact_tests (program_of book layer off) fact

-- from whether all have the fact, and whether any has
unfoldable pub place_by : Bool → Bool → Place
place_by true hasAny = Every
place_by false true = InSome
place_by false false = Nowhere

-- the fact's place, by the list of the stable states
unfoldable pub place_in : Program → ℕ → Place
place_in P fact = place_by (all (λ m. atom_holds m fact) (stable_models P)) (any (λ m. atom_holds m fact) (stable_models P))

-- a refusal, or the place and g
unfoldable pub reply_of : Verdict → Program → ℕ → Result Placed Cause
reply_of v P fact = result_and v (Ok (record { place = place_in P fact; branching = branching_count P }))

-- the first cause that applies; where none does, the fact's place with g
unfoldable pub place_reply : List ℕ → ℕ → ℕ → ℕ → Result Placed Cause
place_reply book layer off fact = reply_of (first_of (place_tests book layer off fact)) (program_of book layer off) fact

-- What each place says of the stable models of the inductive definition; proofs/PlaceLaws.antt proves these for all bytes.
module _ (book : List ℕ) (layer off fact : ℕ) where
  -- none of the causes applies; that there is a stable model is one of them (`some_model`)
  abbrev pub NoCause : Type 0
  NoCause = (t : Test) → Memᴰ t (place_tests book layer off fact) → t.applies ≡ false

  abbrev pub Model : Interpretation → Type 0
  Model m = StableModel (program_of book layer off) m

  -- the answer is this place, with the number of the branching facts
  abbrev pub Answers : Place → Type 0
  Answers p = place_reply book layer off fact ≡ Ok (record { place = p; branching = branching_count (program_of book layer off) })

  abbrev pub SomeModel : Type 0
  SomeModel = NoCause → (m : Interpretation) × Model m

  abbrev pub EveryExactly : Type 0
  EveryExactly = Answers Every ↔ (NoCause × ((m : Interpretation) → Model m → T (atom_holds m fact)))

  abbrev pub NowhereExactly : Type 0
  NowhereExactly = Answers Nowhere ↔ (NoCause × ((m : Interpretation) → Model m → T (not (atom_holds m fact))))

  -- at least one, but not all
  abbrev pub InSomeExactly : Type 0
  InSomeExactly =
      Answers InSome
      ↔ (NoCause × (((m : Interpretation) × Model m × T (atom_holds m fact)) × ((m : Interpretation) × Model m × T (not (atom_holds m fact)))))
