-- Lists: tests over all and some members, filtering, concatenation, the numbers below n. Assumes nothing.
use Rattle.std.specs.Prelude.{Bool, true, false, List, [], ◌∷◌, ◌++◌, ℕ, zero, suc, Option, cond, nat_lt, length, option_to_list}
use Rattle.std.specs.List.{list_all, list_any}

module _ {A : Type 0} where
  -- the element in front of the list, where the test passes
  unfoldable pub cons_if : Bool → A → List A → List A
  cons_if true x xs = x ∷ xs
  cons_if false x xs = xs

  unfoldable pub all : (A → Bool) → List A → Bool
  all p xs = list_all p xs

  unfoldable pub any : (A → Bool) → List A → Bool
  any p xs = list_any p xs

  unfoldable pub filter : (A → Bool) → List A → List A
  filter p [] = []
  filter p (x ∷ xs) = cons_if (p x) x (filter p xs)

  unfoldable pub flat : List (List A) → List A
  flat [] = []
  flat (x ∷ xs) = x ++ flat xs

-- 0, 1, .., n - 1
unfoldable pub up_to : ℕ → List ℕ
up_to zero = []
up_to (suc n) = up_to n ++ (n ∷ [])

-- the entries afterwards: one more, if there is one, and room for it
abbrev pub put_behind : {T : Type 0} → List T → ℕ → Option T → List T
put_behind before room entry = cond (nat_lt (length before) room) (before ++ option_to_list entry) before
