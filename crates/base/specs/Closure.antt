-- What follows from a start by clauses: as a statement, and computed by adding until nothing is added.
-- `below` and `least` are two uses of it; proofs/ClosureLaws.antt proves that statement and computation agree. Assumes nothing.
use Rattle.std.specs.Prelude.{Bool, not, ◌&&◌, ℕ, zero, suc, length}
use mathlib.Core.List.{List, [], ◌∷◌, Memᴰ}
use Rattle.base.specs.Lists.{all, any, filter}

-- a definite clause: where all its premises are there, so is its conclusion
pub record Clause (A : Type 0) : Type 0 where
  pub premises : List A
  pub conclusion : A

-- the statement: the least set that has the start and is closed under the clauses
pub data Consequence {A : Type 0} (cs : List (Clause A)) (start : List A) : A → Type 0 where
  given : {a : A} → Memᴰ a start → Consequence cs start a
  by_clause : (c : Clause A) → Memᴰ c cs → ((a : A) → Memᴰ a c.premises → Consequence cs start a) → Consequence cs start c.conclusion

-- go on with the first clause's conclusion, or stop where there is no clause
unfoldable pub extend : {A : Type 0} → List (Clause A) → List A → (List A → List A) → List A
extend [] got next = got
extend (c ∷ cs) got next = next (c.conclusion ∷ got)

module _ {A : Type 0} (eq : A → A → Bool) where
  unfoldable pub member : A → List A → Bool
  member a xs = any (eq a) xs

  -- a clause that has all its premises, and a conclusion that is not there yet
  unfoldable pub fires : List A → Clause A → Bool
  fires got c = all (λ a. member a got) c.premises && not (member c.conclusion got)

  unfoldable pub saturate : ℕ → List (Clause A) → List A → List A
  saturate zero cs got = got
  saturate (suc k) cs got = extend (filter (fires got) cs) got (λ more. saturate k cs more)

  -- a turn adds one clause's conclusion, so as many turns as clauses are enough
  unfoldable pub closure : List (Clause A) → List A → List A
  closure cs start = saturate (length cs) cs start
