-- Causes 7 and 8: the closed masks of the arrows have a bit exactly where a layer is below another, so a layer is below itself where
-- there is one on the diagonal. Used by check_arrows. Assumes nothing.
use mathlib.Core.Path.{◌≡◌, refl, sym, ap, subst, ◌∙◌}
use mathlib.Core.Bool.{Bool, true, false, not, ◌&&◌}
use mathlib.Core.List.Memᴰ
use mathlib.Core.List.{List, map}
use Prim.Native.Nat.{ℕ, ◌<◌, ◌≤◌}
use native.Mathlib.Omega.{arith}
use borrow.Author.Tests.{eq-eqb, eqb-true, ltb-true, lt-ltb, not-false}
use lib.Dec.{T, eqb, ltb, eqb→eq, eqb_refl}
use lib.ListN.{length, get_or, drop}
use Rattle.base.specs.Bounds.{max_layers}
use Rattle.base.specs.Lists.{all, any, up_to}
use Rattle.format.specs.Book.{records, arrow_of, arrow_records, rule_records, arrows_of, atom_count, layer_count}
use Rattle.layers.specs.Layers.{Arrow, link, repeats, same_arrow, Path, single, longer, below}
use Rattle.layers.specs.Masks.{bit_of, marked, Linked, Way, edge, join, EmptyFrom, LowerMasks}
use Rattle.book.specs.Causes.{arrow_ok, rule_ok, is_out_of_range, has_bad_record, repeats_arrow, has_cycle, tests, first_of, verdict_if}
use Rattle.book.specs.declared.Cause.TheVariants.{Cycle}
use Rattle.std.specs.Prelude.{Ok, Err}
use Rattle.book.specs.Header.{HeaderOf}
use Rattle.base.proofs.Members.{◌∈◌, and_left, and_right, and_both, all_at, all_of, any_at, any_of, same_test}
use Rattle.base.proofs.UpTo.{passed, true_of}
use Rattle.layers.proofs.BelowLaws.{below-sound, below_complete}
use Rattle.format.proofs.SectionLaws.{or_first}
use Rattle.book.proofs.RangeLaws.{ranges}
use Rattle.book.proofs.MaskLaws.{linked}

same_is : (a b : Arrow) → T (same_arrow a b) → a ≡ b
unfolding same_arrow
same_is a b t =
    let e : a.earlier ≡ b.earlier = eqb→eq a.earlier b.earlier (and_left (eqb a.earlier b.earlier) (eqb a.later b.later) t) in
    let f : a.later ≡ b.later = eqb→eq a.later b.later (and_right (eqb a.earlier b.earlier) (eqb a.later b.later) t) in
    ap (λ (i : ℕ). link i a.later) e ∙ ap (λ (j : ℕ). link b.earlier j) f

same_self : (a : Arrow) → T (same_arrow a a)
unfolding same_arrow
same_self a = and_both (eqb a.earlier a.earlier) (eqb a.later a.later) (eqb_refl a.earlier) (eqb_refl a.later)

path_join : (links : List Arrow) (k j i : ℕ) → Path links k i → Path links j k → Path links j i
path_join links k j i (single a m e) q = longer a m (subst (Path links j) (sym e) q)
path_join links k j i (longer a m p) q = longer a m (path_join links k j a.later p q)

-- masks that read the arrows, and their closure
module _ (links : List Arrow) (start : List ℕ) (reads : (x y : ℕ) → marked start y x ≡ linked links x y) where
  linked_in : (i j : ℕ) → Linked start j i → link i j ∈ links
  unfolding marked
  linked_in i j e =
      let t : T (linked links i j) = true_of (linked links i j) (sym (reads i j) ∙ eq-eqb (bit_of (get_or start j 0) i) 1 e) in
      let w : (a : Arrow) × a ∈ links × T (same_arrow a (link i j)) = any_at (λ a. same_arrow a (link i j)) links t in
      Memᴰ.cast (sym (same_is w.0 (link i j) w.2)) w.1

  empty_from : (n : ℕ) → ((a : Arrow) → a ∈ links → a.later < n) → EmptyFrom n start
  empty_from n low j i e = low (link i j) (linked_in i j e)

  in_linked : (a : Arrow) → a ∈ links → Linked start a.later a.earlier
  unfolding marked
  in_linked a k =
      eqb-true (bit_of (get_or start a.later 0) a.earlier) 1
      (reads a.earlier a.later ∙ passed (linked links a.earlier a.later) (any_of (λ b. same_arrow b (link a.earlier a.later)) k (same_self a)))

  way_path : (j i : ℕ) → Way start j i → Path links j i
  way_path x y (edge j i e) = single (link i j) (linked_in i j e) refl
  way_path x y (join j k i b p q) = path_join links k j i (way_path k i q) (way_path j k p)

  path_way : ((a : Arrow) → a ∈ links → a.later < max_layers) → (j i : ℕ) → Path links j i → Way start j i
  path_way low j i (single a k e) = subst (λ (x : ℕ). Way start x a.earlier) e (edge a.later a.earlier (in_linked a k))
  path_way low j i (longer a k p) = join j a.later a.earlier (low a k) (path_way low j a.later p) (edge a.later a.earlier (in_linked a k))

  closed : (m : List ℕ) → ((a : Arrow) → a ∈ links → a.later < max_layers) → ((i j : ℕ) → Linked m i j → Way start i j) → ((i j : ℕ) → Way start i j → Linked m i j) → LowerMasks links m
  closed m low sound full = record {
    sound = λ i j z. below_complete links i j (way_path j i (sound j i z));
    full = λ i j t. full j i (path_way low j i (below-sound links i j t));
  }

-- a layer below itself is a bit on the diagonal
module _ (links : List Arrow) (n : ℕ) (m : List ℕ) (w : LowerMasks links m) where
  to_below : T (any (λ i. marked m i i) (up_to n)) → T (any (λ i. below links i i) (up_to n))
  unfolding marked
  to_below t =
      let f : (i : ℕ) × i ∈ up_to n × T (marked m i i) = any_at (λ i. marked m i i) (up_to n) t in
      any_of (λ i. below links i i) f.1 (w.sound f.0 f.0 (eqb→eq (bit_of (get_or m f.0 0) f.0) 1 f.2))

  to-marked : T (any (λ i. below links i i) (up_to n)) → T (any (λ i. marked m i i) (up_to n))
  unfolding marked
  to-marked t =
      let f : (i : ℕ) × i ∈ up_to n × T (below links i i) = any_at (λ i. below links i i) (up_to n) t in
      any_of (λ i. marked m i i) f.1
      (true_of (marked m f.0 f.0) (eq-eqb (bit_of (get_or m f.0 0) f.0) 1 (w.full f.0 f.0 f.2)))

  cycle_is : any (λ i. marked m i i) (up_to n) ≡ any (λ i. below links i i) (up_to n)
  cycle_is = same_test (any (λ i. marked m i i) (up_to n)) (any (λ i. below links i i) (up_to n)) to_below to-marked

-- what follows where causes 5 and 6 do not apply
wider : (l : ℕ) (r : List ℕ) → l ≤ max_layers → T (arrow_ok l r) → T (arrow_ok max_layers r)
unfolding arrow_ok arrow_of
wider l r h t =
    let a : T (eqb (length r) 2 && ltb (get_or r 0 0) l) = and_left (eqb (length r) 2 && ltb (get_or r 0 0) l) (ltb (get_or r 1 0) l) t in
    let x : get_or r 0 0 < l = ltb-true (get_or r 0 0) l (passed (ltb (get_or r 0 0) l) (and_right (eqb (length r) 2) (ltb (get_or r 0 0) l) a)) in
    let y : get_or r 1 0 < l = ltb-true (get_or r 1 0) l (passed (ltb (get_or r 1 0) l) (and_right (eqb (length r) 2 && ltb (get_or r 0 0) l) (ltb (get_or r 1 0) l) t)) in
    and_both (eqb (length r) 2 && ltb (get_or r 0 0) max_layers) (ltb (get_or r 1 0) max_layers)
    (and_both (eqb (length r) 2) (ltb (get_or r 0 0) max_layers) (and_left (eqb (length r) 2) (ltb (get_or r 0 0) l) a) (true_of (ltb (get_or r 0 0) max_layers) (lt-ltb (get_or r 0 0) max_layers (omega arith))))
    (true_of (ltb (get_or r 1 0) max_layers) (lt-ltb (get_or r 1 0) max_layers (omega arith)))

both_low : (l : ℕ) (r : List ℕ) → T (arrow_ok l r) → ((arrow_of r).earlier < l) × ((arrow_of r).later < l)
unfolding arrow_ok arrow_of
both_low l r t =
    let a : T (eqb (length r) 2 && ltb (get_or r 0 0) l) = and_left (eqb (length r) 2 && ltb (get_or r 0 0) l) (ltb (get_or r 1 0) l) t in (
      ltb-true (get_or r 0 0) l (passed (ltb (get_or r 0 0) l) (and_right (eqb (length r) 2) (ltb (get_or r 0 0) l) a)),
      ltb-true (get_or r 1 0) l (passed (ltb (get_or r 1 0) l) (and_right (eqb (length r) 2 && ltb (get_or r 0 0) l) (ltb (get_or r 1 0) l) t)),
    )

module _ {s : List ℕ} {n l k : ℕ} (h : HeaderOf s n l k) (five : is_out_of_range s ≡ false) (six : has_bad_record s ≡ false) where
  layers_few : layer_count s ≤ max_layers
  layers_few = (ranges s five).layers_few

  arrows_good : T (all (arrow_ok (layer_count s)) (arrow_records s))
  unfolding has_bad_record
  arrows_good = true_of (all (arrow_ok (layer_count s)) (arrow_records s)) (not-false (all (arrow_ok (layer_count s)) (arrow_records s)) (or_first (not (all (arrow_ok (layer_count s)) (arrow_records s))) (not (all (rule_ok (layer_count s) (atom_count s)) (rule_records s))) six))

  arrows-low : (a : Arrow) → a ∈ arrows_of s → (a.earlier < layer_count s) × (a.later < layer_count s)
  unfolding arrows_of
  arrows-low a i =
      let w : (r : List ℕ) × r ∈ arrow_records s × (arrow_of r ≡ a) = Memᴰ.of_map arrow_of (arrow_records s) i in
      subst (λ (b : Arrow). (b.earlier < layer_count s) × (b.later < layer_count s)) w.2 (both_low (layer_count s) w.0 (all_at (arrow_ok (layer_count s)) arrows_good w.1))

  pub count_few : l ≤ max_layers
  count_few = omega (arith, h.layers_are, layers_few)

  pub eight_is : (m : List ℕ) → LowerMasks (arrows_of s) m → (t : Bool) → t ≡ any (λ i. marked m i i) (up_to l) → t ≡ has_cycle s
  unfolding has_cycle
  eight_is m w t e = e ∙ cycle_is (arrows_of s) l m w ∙ ap (λ (x : ℕ). any (λ i. below (arrows_of s) i i) (up_to x)) h.layers_are

  -- the bytes of the arrow section's records, as the code cuts them
  module _ (part : List ℕ) (ep : records part ≡ arrow_records s) where
    pub part_good : all (arrow_ok max_layers) (records part) ≡ true
    part_good =
        ap (all (arrow_ok max_layers)) ep
        ∙ passed (all (arrow_ok max_layers) (arrow_records s)) (all_of (arrow_ok max_layers) (arrow_records s) (λ r i. wider (layer_count s) r layers_few (all_at (arrow_ok (layer_count s)) arrows_good i)))

    pub seven_is : (t : Bool) → t ≡ repeats (map arrow_of (records part)) → t ≡ repeats_arrow s
    unfolding repeats_arrow arrows_of
    seven_is t e = e ∙ ap (λ (rs : List (List ℕ)). repeats (map arrow_of rs)) ep

    -- the masks of the arrows, as the code makes them, and their closure
    module _ (start : List ℕ) (reads : (x y : ℕ) → marked start y x ≡ linked (map arrow_of (records part)) x y) where
      reads-arrows : (x y : ℕ) → marked start y x ≡ linked (arrows_of s) x y
      unfolding arrows_of
      reads-arrows x y = reads x y ∙ ap (λ (rs : List (List ℕ)). linked (map arrow_of rs) x y) ep

      pub masks_empty : EmptyFrom l start
      masks_empty = empty_from (arrows_of s) start reads-arrows l (λ a i. omega (arith, (arrows-low a i).1, h.layers_are))

      pub masks_are : (m : List ℕ) → ((i j : ℕ) → Linked m i j → Way start i j) → ((i j : ℕ) → Way start i j → Linked m i j) → LowerMasks (arrows_of s) m
      masks_are m = closed (arrows_of s) start reads-arrows m (λ a i. omega (arith, (arrows-low a i).1, layers_few))

      -- no two arrows are equal, and a layer is below itself where there is a bit on the diagonal
      pub verdict_is : (m : List ℕ) → ((i j : ℕ) → Linked m i j → Way start i j) → ((i j : ℕ) → Way start i j → Linked m i j) → false ≡ repeats (map arrow_of (records part))
          → (u : Bool) → u ≡ any (λ i. marked m i i) (up_to l) → verdict_if u (Err Cycle) (Ok tt) ≡ first_of (drop 6 (tests s))
      unfolding tests first_of verdict_if
      verdict_is m sound full none u eu = rw (← seven_is _ none, ← eight_is m (masks_are m sound full) u eu) refl
