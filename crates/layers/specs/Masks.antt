-- A relation between at most `max_layers` layers as masks, as the code keeps it: bit j of mask i is set where i is related to j.
-- Assumes nothing.
use Rattle.std.specs.Prelude.{◌≡◌, Bool, List, ℕ, ◌/◌, ◌%◌, ◌^◌, ◌<◌, T, eqb, get_or}
use Rattle.base.specs.Bounds.{max_layers}
use Rattle.layers.specs.Layers.{Arrow, below}

abbrev pub bit_of : ℕ → ℕ → ℕ
bit_of a j = a / 2 ^ j % 2

-- bit j of mask i is set: as the code tests it, and as a statement
unfoldable pub marked : List ℕ → ℕ → ℕ → Bool
marked m i j = eqb (bit_of (get_or m i 0) j) 1

abbrev pub Linked : List ℕ → ℕ → ℕ → Type 0
Linked m i j = bit_of (get_or m i 0) j ≡ 1

-- a way from mask to mask
pub data Way (m : List ℕ) : ℕ → ℕ → Type 0 where
  edge : (i j : ℕ) → Linked m i j → Way m i j
  join : (i k j : ℕ) → k < max_layers → Way m i k → Way m k j → Way m i j

-- the masks from n on have no bit
abbrev pub EmptyFrom : ℕ → List ℕ → Type 0
EmptyFrom n m = (i j : ℕ) → Linked m i j → i < n

-- each layer's mask of the layers below it: bit i of mask j is set exactly where layer i is below j
pub record LowerMasks (arrows : List Arrow) (lower : List ℕ) : Type 0 where
  pub sound : (i j : ℕ) → Linked lower j i → T (below arrows i j)
  pub full : (i j : ℕ) → T (below arrows i j) → Linked lower j i
