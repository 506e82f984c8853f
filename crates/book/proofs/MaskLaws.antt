-- The arrows read into masks, record by record: two equal arrows are met where the bit is there already (`left_over`), and the masks of
-- all arrows have a bit for each. Used by arrow_masks. Assumes nothing.
use mathlib.Core.Path.{◌≡◌, refl, sym, ap, ◌∙◌}
use mathlib.Core.Bool.{Bool, true, false, ◌&&◌, ◌||◌}
use mathlib.Core.List.{List, [], ◌∷◌, map}
use Prim.Native.Nat.{ℕ, ◌<◌}
use borrow.Author.Tests.{eqb-true, ltb-true}
use lib.Dec.{eqb, ltb}
use lib.ListN.{length, get_or, replicate}
use Rattle.base.specs.Bounds.{max_layers}
use Rattle.base.specs.Lists.{all, any}
use Rattle.format.specs.Book.{records, arrow_of}
use Rattle.book.specs.Causes.{arrow_ok}
use Rattle.layers.specs.Layers.{Arrow, link, repeats, same_arrow}
use Rattle.layers.specs.Masks.{marked}
use Rattle.layers.proofs.BitLaws.{or_false, or_assoc, and_left, and_right, none-marked}

-- a record of two layers
pub record Two (r : List ℕ) : Type 0 where
  pub size : length r ≡ 2
  pub earlier : get_or r 0 0 < max_layers
  pub later : get_or r 1 0 < max_layers

two_of : (r : List ℕ) → arrow_ok max_layers r ≡ true → Two r
unfolding arrow_ok arrow_of
two_of r e =
    let a : Bool = eqb (length r) 2 in
    let b : Bool = ltb (get_or r 0 0) max_layers in
    let c : Bool = ltb (get_or r 1 0) max_layers in
    record {
      size = eqb-true (length r) 2 (and_left a b (and_left (a && b) c e));
      earlier = ltb-true (get_or r 0 0) max_layers (and_right a b (and_left (a && b) c e));
      later = ltb-true (get_or r 1 0) max_layers (and_right (a && b) c e);
    }

four : (a b c d : Bool) → (a || b || (c || d)) ≡ (a || c || (b || d))
four true b c d = refl
four false true true d = refl
four false true false d = refl
four false false c d = refl

-- the arrow is marked: bit i of mask j for an arrow from i to j
pub hit : List ℕ → Arrow → Bool
hit m a = marked m a.later a.earlier

-- two equal arrows: none so far, and those passed are marked
abbrev pub left_over : List ℕ → List Arrow → Bool
left_over m l = any (hit m) l || repeats l

-- the arrows as masks, a bit for the earlier layer in the mask of the later one
abbrev pub linked : List Arrow → ℕ → ℕ → Bool
linked l x y = any (λ a. same_arrow a (link x y)) l

turned : (i j x y : ℕ) → same_arrow (link j i) (link y x) ≡ same_arrow (link i j) (link x y)
unfolding same_arrow
turned i j x y = and_swap (eqb j y) (eqb i x)
  where
    and_swap : (a b : Bool) → (a && b) ≡ (b && a)
    and_swap true true = refl
    and_swap true false = refl
    and_swap false true = refl
    and_swap false false = refl

any_none : (m : List ℕ) (l : List Arrow) → ((x y : ℕ) → marked m x y ≡ false) → any (hit m) l ≡ false
unfolding any hit
any_none m [] h = refl
any_none m (a ∷ l) h = rw (h a.later a.earlier, any_none m l h) refl

-- masks with one more bit: that of the arrow from i to j
module _ (m m' : List ℕ) (i j : ℕ) (h : (x y : ℕ) → marked m' x y ≡ (marked m x y || same_arrow (link j i) (link x y))) where
  one_more : (x y : ℕ) → marked m' y x ≡ (marked m y x || same_arrow (link i j) (link x y))
  one_more x y = h y x ∙ ap (λ (b : Bool). marked m y x || b) (turned i j x y)

  any_both : (l : List Arrow) → any (hit m') l ≡ (any (hit m) l || any (same_arrow (link i j)) l)
  unfolding any hit
  any_both [] = refl
  any_both (a ∷ l) = rw (one_more a.earlier a.later, any_both l) (four (marked m a.later a.earlier) (same_arrow (link i j) a) (any (hit m) l) (any (same_arrow (link i j)) l))

-- what the walk over a section's records keeps, where `rest` is not yet walked
pub record Walked (part rest m : List ℕ) : Type 0 where
  pub good : all (arrow_ok max_layers) (records rest) ≡ true
  pub repeated : repeats (map arrow_of (records part)) ≡ left_over m (map arrow_of (records rest))
  pub reads : (x y : ℕ) → linked (map arrow_of (records part)) x y ≡ (marked m y x || linked (map arrow_of (records rest)) x y)

pub walk_start : (part : List ℕ) → all (arrow_ok max_layers) (records part) ≡ true → Walked part part (replicate max_layers 0)
walk_start part g = record {
  good = g;
  repeated = sym (rw (any_none (replicate max_layers 0) (map arrow_of (records part)) none-marked) refl);
  reads = λ x y. sym (rw (none-marked y x) refl);
}

module _ {part rest m : List ℕ} (w : Walked part rest m) where
  -- all records are walked
  module _ (e : records rest ≡ []) where
    pub end_repeated : false ≡ repeats (map arrow_of (records part))
    unfolding any repeats
    end_repeated = sym (w.repeated ∙ rw e refl)

    pub end_reads : (x y : ℕ) → marked m y x ≡ linked (map arrow_of (records part)) x y
    unfolding any
    end_reads x y = sym (w.reads x y ∙ rw e (or_false (marked m y x)))

  -- the next record
  module _ (r others : List ℕ) (e : records rest ≡ r ∷ records others) where
    opened : (arrow_ok max_layers r && all (arrow_ok max_layers) (records others)) ≡ true
    unfolding all
    opened = sym (ap (all (arrow_ok max_layers)) e) ∙ w.good

    pub next_two : Two r
    next_two = two_of r (and_left (arrow_ok max_layers r) (all (arrow_ok max_layers) (records others)) opened)

    module _ (i j : ℕ) (ei : i ≡ get_or r 0 0) (ej : j ≡ get_or r 1 0) (t : Bool) (et : t ≡ marked m j i) where
      split : map arrow_of (records rest) ≡ link i j ∷ map arrow_of (records others)
      unfolding arrow_of
      split = rw (ei, ej) (ap (map arrow_of) e)

      opened_over : left_over m (map arrow_of (records rest)) ≡ (t || any (hit m) (map arrow_of (records others)) || (any (same_arrow (link i j)) (map arrow_of (records others)) || repeats (map arrow_of (records others))))
      unfolding any repeats hit
      opened_over = ap (left_over m) split ∙ rw et refl

      pub next_hit : t ≡ true → true ≡ repeats (map arrow_of (records part))
      next_hit f = sym (w.repeated ∙ opened_over ∙ rw f refl)

      pub next_walked : t ≡ false → (m' : List ℕ) → ((x y : ℕ) → marked m' x y ≡ (marked m x y || same_arrow (link j i) (link x y))) → Walked part others m'
      unfolding any
      next_walked f m' h = record {
        good = and_right (arrow_ok max_layers r) (all (arrow_ok max_layers) (records others)) opened;
        repeated =
            w.repeated ∙ opened_over
            ∙ rw (f, any_both m m' i j h (map arrow_of (records others)))
            (sym (or_assoc (any (hit m) (map arrow_of (records others))) (any (same_arrow (link i j)) (map arrow_of (records others))) (repeats (map arrow_of (records others)))));
        reads = λ x y.
            w.reads x y
            ∙ ap (λ (k : List Arrow). marked m y x || linked k x y) split
            ∙ sym (or_assoc (marked m y x) (same_arrow (link i j) (link x y)) (linked (map arrow_of (records others)) x y))
            ∙ ap (λ (b : Bool). b || linked (map arrow_of (records others)) x y) (sym (one_more m m' i j h x y));
      }
