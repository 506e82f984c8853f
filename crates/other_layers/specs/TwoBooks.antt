-- `SameLesson` is met by books that differ in all that it leaves free: a lesson's book, and the same book after edits elsewhere. Layers 0
-- and 1 are the network and the line, 2 is the lesson, which is driven, and 3 is the depot. proofs/TwoBooksLaws.antt proves `Edited`. Assumes
-- nothing.
use Rattle.std.specs.Prelude.{◌≡◌, List, [], ◌∷◌, ℕ}
use Rattle.models.specs.Examples.{bytes_of, p, not_p, q, not_q, never, rule_in, arrow}
use Rattle.other_layers.specs.OtherLayers.{SameLesson}

unfoldable pub before : List ℕ
before =
    bytes_of 2 4 (arrow 0 1 ∷ arrow 1 2 ∷ arrow 0 3 ∷ [])
    (rule_in 0 p (not_q ∷ []) ∷ rule_in 0 q (not_p ∷ []) ∷ rule_in 1 not_p (q ∷ []) ∷ rule_in 2 never (p ∷ q ∷ []) ∷ rule_in 3 p [] ∷ [])

-- two layers more, arrows among the others and from the lesson upward, one from 0 to 2 beside the path through 1; the depot's rules
-- edited, rules in the new layers, a rule twice; the others in another order, and their bodies written otherwise
unfoldable pub after : List ℕ
after =
    bytes_of 2 6 (arrow 3 5 ∷ arrow 0 2 ∷ arrow 1 2 ∷ arrow 2 4 ∷ arrow 0 1 ∷ arrow 4 3 ∷ [])
    (rule_in 3 not_p (q ∷ []) ∷ rule_in 3 not_q [] ∷ rule_in 2 never (q ∷ p ∷ q ∷ []) ∷ rule_in 1 not_p (q ∷ []) ∷ rule_in 0 q (not_p ∷ not_p ∷ []) ∷ rule_in 4 never [] ∷ rule_in 5 p (not_p ∷ []) ∷ rule_in 0 p (not_q ∷ []) ∷ rule_in 1 not_p (q ∷ q ∷ []) ∷ [])

-- the depot is off in the one call, and both new layers in the other
abbrev pub Edited : Type 0
Edited = SameLesson before after 2 8 48 × (before ≡ after → ⊥)
