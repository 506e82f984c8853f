-- Document 02, (e): counting states that fit a condition. The causes in order of test, and the answer. Assumes nothing.
use Rattle.std.specs.Prelude.{◌≡◌, ◌↔◌, Bool, false, ℕ, T, length, Result, Ok}
use Rattle.std.specs.Result.{result_and}
use mathlib.Core.List.{List, [], ◌∷◌, ◌++◌, Memᴰ}
use Rattle.base.specs.Lists.{filter}
use Rattle.models.specs.Program.{Program}
use Rattle.models.specs.StableModels.{Interpretation, StableModel}
use Rattle.models.specs.Branching.{branching_count}
use Rattle.models.specs.Listing.{stable_models}
use Rattle.table.specs.Table.{program_of}
use Rattle.book.specs.Causes.{Test, first_of, Verdict}
use Rattle.book.specs.declared.Cause.{Cause}
use Rattle.book.specs.declared.Cause.TheVariants.{TooManyBranching}
use Rattle.accepted.specs.Driven.{layer_tests}
use Rattle.grammar.specs.Conditions.{Condition, Reads, or-level, fits}
use Rattle.condition.specs.Causes.{condition_tests, fits_text}
use Rattle.passes.specs.Limit.{has_too_many_branching}
use Rattle.count_call.specs.declared.Counted.{Counted}

-- 12; that there is no state is no cause here: "0 of 0" is an answer
unfoldable pub search_tests : Program → List Test
search_tests P = record { cause = TooManyBranching; applies = has_too_many_branching P } ∷ []

-- 16, 17 and 11 of the condition, then 12
unfoldable pub fit_tests : Program → List ℕ → List Test
fit_tests P condition = condition_tests P.atoms condition ++ search_tests P

-- the causes of the book and of the driven layer, then 16, 17, 11 and 12
unfoldable pub count_tests : List ℕ → ℕ → ℕ → List ℕ → List Test
count_tests book layer off condition = layer_tests book layer off ++ fit_tests (program_of book layer off) condition

-- a refusal, or k, g and how many of the stable states pass a test
unfoldable pub reply_of : Verdict → Program → (Interpretation → Bool) → Result Counted Cause
reply_of v P p = result_and v (Ok (record { states = length (stable_models P); branching = branching_count P; fitting = length (filter p (stable_models P)) }))

-- the first cause that applies; where none does, k, g and the number of the stable states in which the condition holds
unfoldable pub count_reply : List ℕ → ℕ → ℕ → List ℕ → Result Counted Cause
count_reply book layer off condition = reply_of (first_of (count_tests book layer off condition)) (program_of book layer off) (fits_text condition)

-- no state is there twice
abbrev pub Once : List Interpretation → Type 0
Once [] = Unit {0}
Once (m ∷ ms) = (Memᴰ m ms → ⊥) × Once ms

-- What the answer says of the stable models of the inductive definition; proofs/CountLaws.antt proves it for all bytes.
module _ (book : List ℕ) (layer off : ℕ) (condition : List ℕ) where
  -- none of the causes applies
  abbrev pub NoCause : Type 0
  NoCause = (t : Test) → Memᴰ t (count_tests book layer off condition) → t.applies ≡ false

  -- these states, none of them twice, are the stable models in which the condition holds
  pub record Fitting (a : Condition) (states : List Interpretation) : Type 0 where
    pub exactly : (m : Interpretation) → Memᴰ m states ↔ (StableModel (program_of book layer off) m × T (fits m a))
    pub once : Once states

  -- Whatever reading the condition has, the count is the number of the stable models in which it holds.
  abbrev pub CountsExactly : Type 0
  CountsExactly =
      NoCause → (a : Condition) → Reads or-level a condition
      → (states : List Interpretation) × Fitting a states
      × (count_reply book layer off condition ≡ Ok (record { states = length (stable_models (program_of book layer off)); branching = branching_count (program_of book layer off); fitting = length states }))
