-- A candidate is read fact by fact, and its spare bits one after the other. Used by `bit_at`, `bad_candidate` and `read_candidate`.
-- Assumes nothing.
use mathlib.Core.Path.{◌≡◌, refl, sym, ap, ap₂, subst, ◌∙◌}
use mathlib.Core.Bool.{Bool, true, false, ◌&&◌, ◌||◌}
use mathlib.Core.List.{List, [], ◌∷◌}
use Prim.Native.Nat.{ℕ, zero, suc, ◌+◌, ◌*◌, ◌-◌, ◌/◌, ◌<◌, ◌≤◌}
use native.Mathlib.Numerals.{add-one}
use native.Mathlib.Omega.{arith}
use borrow.Author.Tests.{eq-eqb, le-leb, lt-leb}
use lib.Dec.{T, eqb, leb}
use lib.ListN.{length, set, take}
use lib.Seq.{take-suc-set}
use Rattle.std.specs.List.{list_any, range_with_len}
use Rattle.std.proofs.lemmas.List.{length-take}
use Rattle.std.proofs.lemmas.List.Folds.{list_any-append}
use Rattle.base.specs.Lists.{any, up_to}
use Rattle.base.proofs.Members.{◌∈◌, and_left, any_at}
use Rattle.base.proofs.MapLaws.{map_snoc}
use Rattle.base.proofs.UpTo.{failed, up_to_lt}
use Rattle.layers.proofs.UpToLaws.{range_more}
use Rattle.models.specs.Listing.{record_size, bit_at, interpretation_of}
use Rattle.candidate.specs.Candidate.{has_spare_bit, is_bad_candidate}

-- the test of a spare bit
unfoldable pub spare : ℕ → List ℕ → ℕ → Bool
spare n s f = leb n f && bit_at s f

module _ (n : ℕ) (s : List ℕ) where
  pub spare_start : any (spare n s) (up_to n) ≡ false
  unfolding spare
  spare_start =
      failed (any (spare n s) (up_to n))
      (λ t.
      let w : (f : ℕ) × f ∈ up_to n × T (leb n f && bit_at s f) = any_at (spare n s) (up_to n) t in
      let h : w.0 < n = up_to_lt n w.0 w.1 in
      subst T (lt-leb n w.0 h) (and_left (leb n w.0) (bit_at s w.0) w.2))

  spare_is : (f : ℕ) → n ≤ f → spare n s f ≡ bit_at s f
  unfolding spare
  spare_is f h = rw (le-leb n f h) refl

-- the spare bits, as the code goes through them
spares : (n k : ℕ) (s : List ℕ) → list_any (bit_at s) (range_with_len n k) ≡ any (spare n s) (up_to (n + k))
unfolding any up_to
spares n zero s = let e : n + 0 ≡ n = omega arith in rw e (sym (spare_start n s))
spares n (suc k) s =
    let e : suc (n + k) ≡ n + suc k = omega arith in
    ap (list_any (bit_at s)) (range_more n k)
    ∙ list_any-append (bit_at s) (range_with_len n k) ((n + k) ∷ [])
    ∙ ap₂ (λ (a b : Bool). a || (b || false)) (spares n k s) (sym (spare_is n s (n + k) (omega arith)))
    ∙ sym (list_any-append (spare n s) (up_to (n + k)) ((n + k) ∷ []))
    ∙ ap (λ (m : ℕ). any (spare n s) (up_to m)) e

pub spares_decide : (n w : ℕ) (s : List ℕ) → w ≡ record_size n → length s ≡ w → list_any (bit_at s) (range_with_len n (8 * w - n)) ≡ is_bad_candidate n s
unfolding is_bad_candidate has_spare_bit spare record_size
spares_decide n w s e l =
    let t : n + (8 * w - n) ≡ 8 * record_size n = omega (arith, e) in
    let h : eqb (length s) (record_size n) ≡ true = eq-eqb (length s) (record_size n) (l ∙ e) in
    rw (h, ← t) (spares n (8 * w - n) s)

-- each fact has its byte
pub fact_in : (n : ℕ) (s : List ℕ) → length s ≡ record_size n → (f : ℕ) → f < n → f / 8 < length s
unfolding record_size
fact_in n s e f h = omega arith

-- what is before the end of a front is before the front's size
pub in_front : {A : Type 0} (n : ℕ) (xs : List A) {f : ℕ} → f < length (take n xs) → f < n
in_front n xs h = omega (arith, length-take n xs, h)

-- the state, one fact more
pub read_start : (s : List ℕ) → [] ≡ interpretation_of 0 s
unfolding interpretation_of up_to
read_start s = refl

pub read_more : (s : List ℕ) (m : List Bool) (f : ℕ) (t : Bool) → f < length m → take f m ≡ interpretation_of f s → t ≡ bit_at s f → take (f + 1) (set m f t) ≡ interpretation_of (f + 1) s
unfolding interpretation_of up_to
read_more s m f t h e q = rw (add-one f, take-suc-set m f t h, e, q) (sym (map_snoc (bit_at s) (up_to f) f))
