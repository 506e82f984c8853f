-- Insertion into a rising list, for any order given as a test. Assumes nothing.
use Rattle.std.specs.Prelude.{◌≡◌, Bool, true, false}
use mathlib.Core.List.{List, [], ◌∷◌, Memᴰ}

module _ {A : Type 0} where
  -- x goes in past y, into the rest, or here
  unfoldable pub insert_past : Bool → A → A → List A → List A → List A
  insert_past true x y rest ys = y ∷ rest
  insert_past false x y rest ys = x ∷ y ∷ ys

  module _ (less : A → A → Bool) where
    -- x before the first member that does not come before it
    unfoldable pub insert_by : A → List A → List A
    insert_by x [] = x ∷ []
    insert_by x (y ∷ ys) = insert_past (less y x) x y (insert_by x ys) ys

    -- each member of the first list, one after the other, into the second
    unfoldable pub insert_all : List A → List A → List A
    insert_all [] l = l
    insert_all (x ∷ xs) l = insert_all xs (insert_by x l)

    -- rising weakly: no member comes before an earlier one
    abbrev pub Up : List A → Type 0
    Up [] = Unit {0}
    Up (x ∷ xs) = ((y : A) → Memᴰ y xs → less y x ≡ false) × Up xs
