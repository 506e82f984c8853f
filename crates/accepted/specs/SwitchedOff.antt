-- Document 02, (h), of the calls on a driven layer. Each has tests of its own behind those of the layer, and makes its answer, or the
-- bytes of a buffer, from the first cause that applies and from the program. What the set 0 leaves as it was is said once, for all that
-- is made so; crates/lesson/specs/SwitchedOff.antt says it of each call. proofs/SwitchedOffLaws.antt proves it. Assumes nothing.
use Rattle.std.specs.Prelude.{◌≡◌, false, List, [], ◌∷◌, ◌++◌, ℕ, ◌<◌, T, replicate}
use Rattle.format.specs.Book.{layer_count, book_of}
use Rattle.models.specs.Program.{Program, in_set}
use Rattle.models.specs.Branching.{branching_count}
use Rattle.models.specs.Listing.{stable_models}
use Rattle.models.specs.SwitchedOff.{whole_program}
use Rattle.table.specs.Table.{program_of}
use Rattle.book.specs.Causes.{Test, tests, first_of, Verdict}
use Rattle.book.specs.declared.Cause.TheVariants.{NoSuchLayer}
use Rattle.accepted.specs.Accepted.{IsAccepted}
use Rattle.accepted.specs.Driven.{is_no_such_layer, layer_tests}

-- document 01's causes of a driven layer: those of the book, then 9
unfoldable pub whole_tests : List ℕ → ℕ → List Test
whole_tests s layer = tests s ++ (record { cause = NoSuchLayer; applies = is_no_such_layer (layer_count s) layer } ∷ [])

-- With the set 0 an answer is made from document 01's causes and from document 01's program.
abbrev pub NothingOff : Type 1
NothingOff =
    (A : Type 0) (rest : Program → List Test) (answer : Verdict → Program → A) (s : List ℕ) (layer : ℕ)
    → answer (first_of (layer_tests s layer 0 ++ rest (program_of s layer 0))) (program_of s layer 0)
    ≡ answer (first_of (whole_tests s layer ++ rest (whole_program (book_of s) layer))) (whole_program (book_of s) layer)

-- With every layer of an accepted book off there is exactly one stable state, the empty one, and g is 0.
abbrev pub AllOff : Type 0
AllOff =
    (s : List ℕ) → IsAccepted s → (layer off : ℕ) → ((i : ℕ) → i < layer_count s → T (in_set off i))
    → (stable_models (program_of s layer off) ≡ replicate (book_of s).atoms false ∷ []) × (branching_count (program_of s layer off) ≡ 0)
