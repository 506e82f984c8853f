-- What the table of examples says, entry by entry. Assumes nothing.
use mathlib.Core.Path.{◌≡◌, refl, ap₂}
use mathlib.Core.Bool.{Bool}
use mathlib.Core.List.{List, [], ◌∷◌}
use Prim.Native.Nat.{ℕ}
use lib.Dec.{T, eqb, eqb→eq}
use Rattle.base.proofs.Members.{◌∈◌, and_left, and_right, all_at}
use Rattle.models.specs.Branching.{branching_count}
use Rattle.models.specs.Listing.{listing}
use Rattle.models.specs.Examples.{Example, same_bytes, seen, right, table, examples}

same_bytes_lem : (xs ys : List ℕ) → T (same_bytes xs ys) → xs ≡ ys
unfolding same_bytes
same_bytes_lem [] [] t = refl
same_bytes_lem [] (y ∷ ys) t = absurd t
same_bytes_lem (x ∷ xs) [] t = absurd t
same_bytes_lem (x ∷ xs) (y ∷ ys) t =
    ap₂ (λ (z : ℕ) (zs : List ℕ). z ∷ zs) (eqb→eq x y (and_left (eqb x y) (same_bytes xs ys) t)) (same_bytes_lem xs ys (and_right (eqb x y) (same_bytes xs ys) t))

-- each starred example: its listing's bytes, and its g
pub examples_say : (e : Example) → e ∈ table → (listing (seen e) ≡ e.written) × (branching_count (seen e) ≡ e.branches)
unfolding right
examples_say e k =
    let t : T (right e) = all_at right examples k in
    let bytes : Bool = same_bytes (listing (seen e)) e.written in
    let count : Bool = eqb (branching_count (seen e)) e.branches in
    (same_bytes_lem (listing (seen e)) e.written (and_left bytes count t), eqb→eq (branching_count (seen e)) e.branches (and_right bytes count t))
