-- Document 02, (e): causes 16, 17 and 11 of a condition, in order of test, and the states in which it holds, by its one reading.
-- Assumes nothing.
use Rattle.std.specs.Prelude.{Bool, true, false, not, ◌||◌, List, [], ◌∷◌, ℕ, ltb, length, Option, Some, None}
use Rattle.models.specs.StableModels.{Interpretation}
use Rattle.grammar.specs.Conditions.{Condition, fits, depth, names_below}
use Rattle.grammar.specs.Parse.{reading_of}
use Rattle.book.specs.Causes.{Test}
use Rattle.book.specs.declared.Cause.TheVariants.{BadCondition, TooDeep, NoSuchFact}

-- "one over 255 bytes"
abbrev pub max_condition : ℕ
max_condition = 255

-- "brackets nested over 16 deep"
abbrev pub max_depth : ℕ
max_depth = 16

-- of a text's reading: there is none
unfoldable pub is_unread : Option Condition → Bool
is_unread (Some a) = false
is_unread None = true

-- its brackets are nested too deep
unfoldable pub is_deep : Option Condition → Bool
is_deep (Some a) = ltb max_depth (depth a)
is_deep None = false

-- it names something that is not a fact below n
unfoldable pub names_other : ℕ → Option Condition → Bool
names_other n (Some a) = not (names_below n a)
names_other n None = false

-- it holds in the state
unfoldable pub fits_in : Interpretation → Option Condition → Bool
fits_in m (Some a) = fits m a
fits_in m None = false

-- 16: "an empty condition, one over 255 bytes or one outside the grammar"; the empty text has no reading
unfoldable pub is_bad_condition : List ℕ → Bool
is_bad_condition s = ltb max_condition (length s) || is_unread (reading_of s)

-- 17, of a text that has a reading: its brackets are nested too deep
unfoldable pub is_too_deep : List ℕ → Bool
is_too_deep s = is_deep (reading_of s)

-- 11: a name that is not a fact below n
unfoldable pub names_no_fact : ℕ → List ℕ → Bool
names_no_fact n s = names_other n (reading_of s)

-- 16, then 17, then 11
unfoldable pub condition_tests : ℕ → List ℕ → List Test
condition_tests n s =
    record { cause = BadCondition; applies = is_bad_condition s } ∷ record { cause = TooDeep; applies = is_too_deep s }
    ∷ record { cause = NoSuchFact; applies = names_no_fact n s } ∷ []

-- document 02: the condition that the text is holds in the state
unfoldable pub fits_text : List ℕ → Interpretation → Bool
fits_text s m = fits_in m (reading_of s)
