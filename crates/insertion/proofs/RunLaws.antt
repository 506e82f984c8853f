-- Records of one width, one behind the other, as bytes. Assumes nothing.
use mathlib.Core.Path.{◌≡◌, refl, sym, ap, ◌∙◌}
use mathlib.Core.List.Memᴰ
use mathlib.Core.List.{List, [], ◌∷◌, ◌++◌, append_assoc}
use Prim.Native.Nat.{ℕ, zero, suc, ◌+◌, ◌*◌, ◌<◌}
use native.Mathlib.Omega.{arith}
use lib.ListN.{length, get_or, take, drop, length-append}
use lib.Seq.{take_at, drop-append-add}
use Rattle.base.specs.Lists.{flat}
use Rattle.insertion.specs.Runs.{Wide}

pub flat_append : (xs ys : List (List ℕ)) → flat (xs ++ ys) ≡ flat xs ++ flat ys
unfolding flat
flat_append [] ys = refl
flat_append (x ∷ xs) ys = ap (λ (t : List ℕ). x ++ t) (flat_append xs ys) ∙ sym (append_assoc x (flat xs) (flat ys))

pub flat-length : (w : ℕ) (rs : List (List ℕ)) → Wide w rs → length (flat rs) ≡ length rs * w
unfolding flat
flat-length w [] f = omega arith
flat-length w (r ∷ rs) f =
    let e : suc (length rs) * w ≡ w + length rs * w = omega arith in
    omega (arith, length-append r (flat rs), f r (Memᴰ.head refl), flat-length w rs (λ x m. f x (Memᴰ.tail m)), e)

pub flat_at : (w : ℕ) (rs : List (List ℕ)) → Wide w rs → (j : ℕ) → j < length rs → take w (drop (j * w) (flat rs)) ≡ get_or rs j []
unfolding flat
flat_at w [] f j h = absurd (omega arith)
flat_at w (r ∷ rs) f zero h = let e : 0 * w ≡ 0 = omega arith in rw e (take_at r (flat rs) w (f r (Memᴰ.head refl)))
flat_at w (r ∷ rs) f (suc j) h =
    let l : length r ≡ w = f r (Memᴰ.head refl) in
    let e : suc j * w ≡ length r + j * w = omega (arith, l) in
    ap (λ (k : ℕ). take w (drop k (r ++ flat rs))) e ∙ ap (take w) (drop-append-add r (flat rs) (j * w)) ∙ flat_at w rs (λ x m. f x (Memᴰ.tail m)) j (omega arith)
