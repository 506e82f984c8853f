-- Over programs that are alike, each call makes the same tests behind those of the driven layer, and the test of a candidate tests the same
-- state: all of it goes by n, the stable models and g. That the replies and buffers are the same stands with each call. Assumes nothing.
use mathlib.Core.Path.{◌≡◌, refl, ap, ap₂, ◌∙◌}
use mathlib.Core.Bool.{not}
use mathlib.Core.List.{List, [], ◌∷◌, ◌++◌}
use Prim.Native.Nat.{ℕ}
use lib.Dec.{ltb}
use Rattle.base.specs.Bounds.{max_branching}
use Rattle.models.specs.Program.{Program}
use Rattle.models.specs.StableModels.{stable}
use Rattle.models.specs.Listing.{interpretation_of}
use Rattle.models.specs.Alike.{Alike}
use Rattle.models.proofs.AlikeLaws.{alike-stable, alike-count}
use Rattle.book.specs.Causes.{Test}
use Rattle.book.specs.declared.Cause.TheVariants.{BadCandidate, NoSuchFact, TooManyBranching}
use Rattle.condition.specs.Causes.{condition_tests}
use Rattle.candidate.specs.Candidate.{is_bad_candidate}
use Rattle.candidate.proofs.CandidateLaws.{read_length}
use Rattle.passes.specs.Limit.{has_too_many_branching}
use Rattle.list_call.specs.Reply as list
use Rattle.list_call.proofs.ListLaws as list-laws
use Rattle.one_call.specs.Reply as one
use Rattle.one_call.proofs.OneLaws as one_laws
use Rattle.near_call.specs.Reply as near
use Rattle.place_call.specs.Reply as place
use Rattle.place_call.proofs.PlaceLaws as place-laws
use Rattle.count_call.specs.Reply as count

module _ {P Q : Program} (a : Alike P Q) where
  -- 12, and what comes behind it
  limited : (xs ys : List Test) → xs ≡ ys
      → (record { cause = TooManyBranching; applies = has_too_many_branching P } ∷ xs) ≡ (record { cause = TooManyBranching; applies = has_too_many_branching Q } ∷ ys)
  unfolding has_too_many_branching
  limited xs ys e = ap₂ (λ (g : ℕ) (ts : List Test). record { cause = TooManyBranching; applies = ltb max_branching g } ∷ ts) (alike-count a) e

  pub list_tests_lem : (room : ℕ) → list.search_tests P room ≡ list.search_tests Q room
  unfolding list.search_tests
  list_tests_lem room = limited (list.room_tests P room) (list.room_tests Q room) (list-laws.room-same a room)

  pub one_tests_lem : (room : ℕ) → one.search_tests P room ≡ one.search_tests Q room
  unfolding one.search_tests
  one_tests_lem room = limited (one.room_tests P room) (one.room_tests Q room) (one_laws.room-same a room)

  pub place-tests : (fact : ℕ) → place.fact_tests P fact ≡ place.fact_tests Q fact
  unfolding place.fact_tests place.is_no_such_fact place.search_tests
  place-tests fact =
      ap₂ (λ (n : ℕ) (ts : List Test). record { cause = NoSuchFact; applies = not (ltb fact n) } ∷ ts) a.atoms_same
      (limited (place.state_tests P) (place.state_tests Q) (place-laws.state_same a fact))

  pub near_tests_lem : (candidate : List ℕ) (room : ℕ) → near.candidate_tests P candidate room ≡ near.candidate_tests Q candidate room
  unfolding near.candidate_tests
  near_tests_lem candidate room =
      ap₂ (λ (n : ℕ) (ts : List Test). record { cause = BadCandidate; applies = is_bad_candidate n candidate } ∷ ts) a.atoms_same (one_tests_lem room)

  pub count-tests : (condition : List ℕ) → count.fit_tests P condition ≡ count.fit_tests Q condition
  unfolding count.fit_tests count.search_tests
  count-tests condition = ap₂ (λ (n : ℕ) (ts : List Test). condition_tests n condition ++ ts) a.atoms_same (limited [] [] refl)

  -- the state that a candidate of n facts gives
  pub candidate-stable : (n k : ℕ) → n ≡ P.atoms → n ≡ k → (candidate : List ℕ) → stable P (interpretation_of n candidate) ≡ stable Q (interpretation_of k candidate)
  candidate-stable n k size e candidate =
      alike-stable a (interpretation_of n candidate) (read_length n candidate ∙ size) ∙ ap (λ (x : ℕ). stable Q (interpretation_of x candidate)) e
