-- A call that drives a layer, with a set of layers switched off: its causes, from 1 to 9 and 19. Each such call has these first, then
-- its own. Assumes nothing.
use Rattle.std.specs.Prelude.{Bool, not, ◌&&◌, List, [], ◌∷◌, ◌++◌, ℕ, leb, ltb}
use Rattle.base.specs.Bounds.{max_layers}
use Rattle.base.specs.Lists.{any, up_to}
use Rattle.format.specs.Book.{layer_count}
use Rattle.models.specs.Program.{in_set}
use Rattle.book.specs.Causes.{Test, tests}
use Rattle.book.specs.declared.Cause.TheVariants.{NoSuchLayer, NoSuchLayerOff}

-- 9: driven layer not below L
unfoldable pub is_no_such_layer : ℕ → ℕ → Bool
is_no_such_layer layers layer = not (ltb layer layers)

-- 19: a bit of the set is set whose layer is not below L
unfoldable pub has_absent_layer : ℕ → ℕ → Bool
has_absent_layer layers off = any (λ i. leb layers i && in_set off i) (up_to max_layers)

-- of a book of so many layers: 9, then 19
unfoldable pub driven_tests : ℕ → ℕ → ℕ → List Test
driven_tests layers layer off =
    record { cause = NoSuchLayer; applies = is_no_such_layer layers layer }
    ∷ record { cause = NoSuchLayerOff; applies = has_absent_layer layers off }
    ∷ []

-- the causes of the book, then 9 and 19
unfoldable pub layer_tests : List ℕ → ℕ → ℕ → List Test
layer_tests s layer off = tests s ++ driven_tests (layer_count s) layer off
