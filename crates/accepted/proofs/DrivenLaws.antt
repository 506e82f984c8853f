-- A driven layer, and a set of layers switched off: causes 9 and 19 after those of the book, and what a call knows where none of them
-- applies. Used by `check_layer` and by the calls above. Assumes nothing.
use mathlib.Core.Path.{◌≡◌, refl, sym, subst, ap, ◌∙◌}
use mathlib.Core.Bool.{false, not, ◌&&◌}
use mathlib.Core.List.Memᴰ
use mathlib.Core.List.{List, ◌++◌}
use Prim.Native.Nat.{ℕ, ◌+◌, ◌-◌, ◌/◌, ◌%◌, ◌^◌, ◌<◌, ◌≤◌}
use native.Mathlib.Nat.{div-eq_of_lt, div-div-eq-div-mul, pow-le-pow_right}
use native.Mathlib.Decide.{dec_lt, ℕ_discrete}
use native.Mathlib.Omega.{arith}
use borrow.Author.Tests.{ltb-true, le-leb, not-false, ne_eqb}
use lib.Dec.{T, eqb, leb, ltb, eqb→eq, leb→le}
use lib.Pow.{pow-add}
use Rattle.base.specs.Bounds.{max_layers}
use Rattle.base.specs.Lists.{up_to}
use Rattle.base.proofs.Members.{◌∈◌, and_left, and_right, any_at, any_of}
use Rattle.base.proofs.UpTo.{passed, failed, up_to_lt, up_to_has}
use Rattle.layers.specs.Masks.{bit_of}
use Rattle.layers.proofs.BitLaws.{no_bit, some-bit}
use Rattle.format.specs.Book.{layer_count, book_of}
use Rattle.models.specs.Program.{in_set}
use Rattle.book.specs.Causes.{Test, tests, first_of, verdict}
use Rattle.book.specs.declared.Cause.{Cause}
use Rattle.book.specs.declared.Cause.TheVariants.{NoSuchLayer}
use Rattle.std.specs.Prelude.{Ok, Err}
use Rattle.accepted.specs.Accepted.{IsAccepted}
use Rattle.accepted.specs.Driven.{is_no_such_layer, has_absent_layer, driven_tests, layer_tests}
use Rattle.accepted.proofs.FirstLaws.{first_append, first_refused, accepted-none}

-- ---- a layer in the set that is not below L
module _ (layers off : ℕ) where
  shifted : (j : ℕ) → bit_of (off / 2 ^ layers) j ≡ bit_of off (layers + j)
  shifted j = ap (λ (x : ℕ). x % 2) (div-div-eq-div-mul off (2 ^ layers) (2 ^ j) ∙ ap (λ (x : ℕ). off / x) (sym (pow-add 2 layers j)))

  absent_at : (i : ℕ) → i < max_layers → layers ≤ i → bit_of off i ≡ 1 → T (has_absent_layer layers off)
  unfolding has_absent_layer in_set
  absent_at i h k e =
      any_of (λ x. leb layers x && eqb (bit_of off x) 1) (up_to_has max_layers i h)
      (rw (le-leb layers i k, e) tt)

  pub absent_from : T (has_absent_layer layers off) → (i : ℕ) × (i < max_layers) × (layers ≤ i) × (bit_of off i ≡ 1)
  unfolding has_absent_layer in_set
  absent_from t =
      let v = any_at (λ x. leb layers x && eqb (bit_of off x) 1) (up_to max_layers) t in
      (v.0, up_to_lt max_layers v.0 v.1, leb→le layers v.0 (and_left (leb layers v.0) (eqb (bit_of off v.0) 1) v.2), eqb→eq (bit_of off v.0) 1 (and_right (leb layers v.0) (eqb (bit_of off v.0) 1) v.2))

  -- what is left of the set once the layers below L are shifted out is 0 exactly where it has none from L on
  pub absent_shifted : off < 4294967296 → not (eqb (off / 2 ^ layers) 0) ≡ has_absent_layer layers off
  absent_shifted b = go (ℕ_discrete (off / 2 ^ layers) 0)
    where
      low : (j : ℕ) → bit_of off (layers + j) ≡ 1 → Dec (layers + j < max_layers) → layers + j < max_layers
      low j e (yes h) = h
      low j e (no n) =
          let q : off / 2 ^ (layers + j) ≡ 0 = div-eq_of_lt (omega (arith, b, pow-le-pow_right {n = 2} (omega arith) {i = 32} {j = layers + j} (omega arith))) in
          absurd (omega (arith, q))

      go : Dec (off / 2 ^ layers ≡ 0) → not (eqb (off / 2 ^ layers) 0) ≡ has_absent_layer layers off
      go (yes e) =
          rw e (sym (failed (has_absent_layer layers off)
          (λ t.
          let v = absent_from t in
          let d : layers + (v.0 - layers) ≡ v.0 = omega (arith, v.2) in
          no_bit (v.0 - layers) (subst (λ (x : ℕ). bit_of x (v.0 - layers) ≡ 1) e (shifted (v.0 - layers) ∙ ap (bit_of off) d ∙ v.3)))))
      go (no n) =
          let v = some-bit (off / 2 ^ layers + 1) (off / 2 ^ layers) (omega arith) (omega arith) in
          let e : bit_of off (layers + v.0) ≡ 1 = sym (shifted v.0) ∙ v.1 in
          rw (ne_eqb (off / 2 ^ layers) 0 n) (sym (passed (has_absent_layer layers off) (absent_at (layers + v.0) (low v.0 e (dec_lt (layers + v.0) max_layers)) (omega arith) e)))

  -- no layer is from 32 on
  pub absent_none : max_layers ≤ layers → false ≡ has_absent_layer layers off
  absent_none h = sym (failed (has_absent_layer layers off) (λ t. let v = absent_from t in omega (arith, v.1, v.2)))

-- ---- after the causes of the book
module _ (s : List ℕ) (layer off : ℕ) where
  pub book_refused : (c : Cause) → Err c ≡ verdict s → Err c ≡ first_of (layer_tests s layer off)
  unfolding layer_tests verdict
  book_refused c q = sym (first_refused (tests s) (driven_tests (layer_count s) layer off) c (sym q))

  pub book_accepted : Ok tt ≡ verdict s → (n : ℕ) → n ≡ layer_count s → first_of (driven_tests n layer off) ≡ first_of (layer_tests s layer off)
  unfolding layer_tests verdict
  book_accepted q n en = ap (λ (k : ℕ). first_of (driven_tests k layer off)) en ∙ sym (first_append (tests s) (driven_tests (layer_count s) layer off) (sym q))

  -- where none of causes 1 to 9 and 19 applies
  pub driven : first_of (layer_tests s layer off) ≡ Ok tt → IsAccepted s × (layer < (book_of s).layers)
  unfolding layer_tests driven_tests verdict is_no_such_layer book_of
  driven e =
      let h : (t : Test) → t ∈ (tests s ++ driven_tests (layer_count s) layer off) → t.applies ≡ false = (accepted-none (tests s ++ driven_tests (layer_count s) layer off)).0 e in (
        (accepted-none (tests s)).1 (λ t k. h t (Memᴰ.append_left (driven_tests (layer_count s) layer off) k)),
        ltb-true layer (layer_count s)
            (not-false (ltb layer (layer_count s)) (h (record { cause = NoSuchLayer; applies = is_no_such_layer (layer_count s) layer }) (Memᴰ.append_right (tests s) (Memᴰ.head refl)))),
      )
