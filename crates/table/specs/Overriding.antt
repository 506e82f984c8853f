-- Masks of layers: in which layers a head stands, and in which layers the rules are that a row overrides. Assumes nothing.
use Rattle.std.specs.Prelude.{◌≡◌, not, List, ℕ, ◌<◌, T, length, get_or}
use Rattle.base.specs.Bounds.{max_names}
use Rattle.layers.specs.Masks.{bit_of}
use Rattle.models.specs.StableModels.{complement, leans_on_itself}
use Rattle.table.specs.Names.{literal_named}
use Rattle.table.specs.declared.Row.{Row}
use Rattle.table.specs.Rows.{row_count, head_name, row_layer, overridden, row_at}

-- a row before n with the head of name h, in layer i
pub record HeadAt (rows : List Row) (n h i : ℕ) : Type 0 where
  pub row : ℕ
  pub before : row < n
  pub name_is : head_name rows row ≡ h
  pub layer_is : row_layer rows row ≡ i

-- bit i of the mask at name h is set exactly where a row before n has that head, in layer i
pub record HeadLayers (rows : List Row) (masks : List ℕ) (n : ℕ) : Type 0 where
  pub size : length masks ≡ max_names
  pub sound : (h i : ℕ) → bit_of (get_or masks h 0) i ≡ 1 → HeadAt rows n h i
  pub full : (h i : ℕ) → HeadAt rows n h i → bit_of (get_or masks h 0) i ≡ 1

-- a row with the opposite of the head of name h, in layer i
pub record OpposedAt (rows : List Row) (h i : ℕ) : Type 0 where
  pub name : ℕ
  pub opposite_is : literal_named name ≡ complement (literal_named h)
  pub head_at : HeadAt rows (row_count rows) name i

-- the masks of the first n rows, as the table has them: of the layers below a row's own, exactly those in which a row has the opposite
-- head; and none of a row that leans on itself
pub record Overridden (book : List ℕ) (rows : List Row) (lower : List ℕ) (table : List Row) (n : ℕ) : Type 0 where
  pub sound : (j : ℕ) → j < n → (i : ℕ) → bit_of (overridden table j) i ≡ 1 → bit_of (get_or lower (row_layer rows j) 0) i ≡ 1
  pub opposed : (j : ℕ) → j < n → (i : ℕ) → bit_of (overridden table j) i ≡ 1 → OpposedAt rows (head_name rows j) i
  pub not_leaning : (j : ℕ) → j < n → (i : ℕ) → bit_of (overridden table j) i ≡ 1 → T (not (leans_on_itself (row_at book rows j)))
  pub full : (j : ℕ) → j < n → (i h : ℕ) → literal_named h ≡ complement (literal_named (head_name rows j)) → HeadAt rows (row_count rows) h i
      → bit_of (get_or lower (row_layer rows j) 0) i ≡ 1 → T (not (leans_on_itself (row_at book rows j))) → bit_of (overridden table j) i ≡ 1
