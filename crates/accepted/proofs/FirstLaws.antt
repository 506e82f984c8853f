-- The first cause of a list of tests: tests that follow others, and when none applies. Every call's causes are such a list.
-- Assumes nothing.
use mathlib.Core.Path.{◌≡◌, refl, ap, ◌∙◌}
use mathlib.Core.Logic.{◌↔◌}
use mathlib.Core.Bool.{Bool, true, false}
use mathlib.Core.List.Memᴰ
use mathlib.Core.List.{List, [], ◌∷◌, ◌++◌}
use Prim.Native.Nat.{ℕ}
use native.Mathlib.Omega.{arith}
use Rattle.base.proofs.Members.{◌∈◌}
use Rattle.book.specs.Causes.{Test, verdict_if, first_of, Verdict}
use Rattle.book.specs.declared.Cause.{Cause}
use Rattle.std.specs.Prelude.{Ok, Err}

-- a verdict is one or the other
never : (c : Cause) (v : Verdict) → v ≡ Err c → v ≡ Ok tt → ⊥
never c v e f = let z : ◌≡◌ {A = ℕ} 0 1 = cc in omega arith

module _ (t : Test) (ts : List Test) where
  first_passes : first_of (t ∷ ts) ≡ Ok tt → (t.applies ≡ false) × (first_of ts ≡ Ok tt)
  unfolding first_of verdict_if
  first_passes e = go t.applies refl e
    where
      go : (b : Bool) → t.applies ≡ b → verdict_if b (Err t.cause) (first_of ts) ≡ Ok tt → (t.applies ≡ false) × (first_of ts ≡ Ok tt)
      go true q f = absurd (never t.cause (Err t.cause) refl f)
      go false q f = (q, f)

  first_skips : t.applies ≡ false → first_of (t ∷ ts) ≡ first_of ts
  unfolding first_of verdict_if
  first_skips e = rw e refl

-- where the tests before do not decide, those after them do
pub first_append : (xs ys : List Test) → first_of xs ≡ Ok tt → first_of (xs ++ ys) ≡ first_of ys
first_append [] ys e = refl
first_append (t ∷ xs) ys e = let w = first_passes t xs e in first_skips t (xs ++ ys) w.0 ∙ first_append xs ys w.1

-- and where they decide, the others are not asked
pub first_refused : (xs ys : List Test) (c : Cause) → first_of xs ≡ Err c → first_of (xs ++ ys) ≡ Err c
unfolding first_of verdict_if
first_refused [] ys c e = absurd (never c (Ok tt) e refl)
first_refused (t ∷ xs) ys c e = go t.applies (λ f. first_refused xs ys c f) e
  where
    go : (b : Bool) → (first_of xs ≡ Err c → first_of (xs ++ ys) ≡ Err c) → verdict_if b (Err t.cause) (first_of xs) ≡ Err c → verdict_if b (Err t.cause) (first_of (xs ++ ys)) ≡ Err c
    go true rec f = f
    go false rec f = rec f

-- accepted: none applies
none-applies : (xs : List Test) → first_of xs ≡ Ok tt → (t : Test) → t ∈ xs → t.applies ≡ false
none-applies [] e t k = absurd (Memᴰ.not-nil k)
none-applies (x ∷ xs) e t (Memᴰ.head q) = ap (λ (y : Test). y.applies) q ∙ (first_passes x xs e).0
none-applies (x ∷ xs) e t (Memᴰ.tail k) = none-applies xs (first_passes x xs e).1 t k

none-accepted : (xs : List Test) → ((t : Test) → t ∈ xs → t.applies ≡ false) → first_of xs ≡ Ok tt
unfolding first_of
none-accepted [] h = refl
none-accepted (x ∷ xs) h = first_skips x xs (h x (Memᴰ.head refl)) ∙ none-accepted xs (λ t k. h t (Memᴰ.tail k))

pub accepted-none : (xs : List Test) → (first_of xs ≡ Ok tt) ↔ ((t : Test) → t ∈ xs → t.applies ≡ false)
accepted-none xs = (none-applies xs, none-accepted xs)
