-- Document 01, "Which layers count": arrows between layers, and layer i below j, as a path of arrows and as a test. Assumes nothing.
use Rattle.std.specs.Prelude.{◌≡◌, Bool, false, ◌&&◌, ◌||◌, ℕ, eqb}
use mathlib.Core.List.{List, [], ◌∷◌, map, Memᴰ}
use Rattle.base.specs.Lists.{any, filter}
use Rattle.base.specs.Closure.{Clause, member, closure}

pub record Arrow : Type 0 where
  pub earlier : ℕ
  pub later : ℕ

-- the arrow from i to j
abbrev pub link : ℕ → ℕ → Arrow
link i j = record { earlier = i; later = j }

unfoldable pub same_arrow : Arrow → Arrow → Bool
same_arrow a b = eqb a.earlier b.earlier && eqb a.later b.later

-- two of the arrows are equal
unfoldable pub repeats : List Arrow → Bool
repeats [] = false
repeats (a ∷ rest) = let more : Bool = repeats rest in any (same_arrow a) rest || more

-- The statement: a path of one or more arrows leads from a layer to layer j (000, section 2.3).
pub data Path (arrows : List Arrow) (j : ℕ) : ℕ → Type 0 where
  single : (a : Arrow) → Memᴰ a arrows → a.later ≡ j → Path arrows j a.earlier
  longer : (a : Arrow) → Memᴰ a arrows → Path arrows j a.later → Path arrows j a.earlier

-- an arrow, read backwards: its earlier layer is below whatever its later layer is below
unfoldable pub backwards : Arrow → Clause ℕ
backwards a = record { premises = a.later ∷ []; conclusion = a.earlier }

unfoldable pub layers_below : List Arrow → ℕ → List ℕ
layers_below arrows j = closure eqb (map backwards arrows) (map (λ a. a.earlier) (filter (λ a. eqb a.later j) arrows))

-- Document 01: layer i is below j. `below-sound` and `below_complete` of proofs/BelowLaws.antt: it holds exactly where there is a path.
unfoldable pub below : List Arrow → ℕ → ℕ → Bool
below arrows i j = member eqb i (layers_below arrows j)
