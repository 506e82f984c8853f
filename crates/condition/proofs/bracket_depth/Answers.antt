-- `bracket_depth` meets its contract (DepthLaws).
use mathlib.Core.Path.{sym, ap, ◌∙◌}
use mathlib.Core.List.{List}
use Prim.Native.Nat.{ℕ}
use lib.ListN.{get_or, drop_of_length-le}
use Rattle.condition.specs.Code.{deepest}
use Rattle.condition.proofs.DepthLaws.{greater, opened-fits, deepest_next, deepest_end}
use native.Mathlib.Omega.{arith}
use Rattle.condition.proofs.bracket_depth.Goals as goal

pub loop-c-preserved : goal.loop-c-preserved
loop-c-preserved c =
    record {
      few = opened-fits c.loop-c.unshut (get_or c.args.text.now c.loop-c.c-index 0) _ _ c.open_behind-unshut.ensures c.loop-c.invariant.few;
      rest = c.loop-c.invariant.rest ∙ deepest_next c.args.text.now c.loop-c.unshut c.loop-c.most c.loop-c.c-index _ _ c.loop-c-test.true c.open_behind-unshut.ensures (c.max-most.ensures ∙ greater c.loop-c.most c.open_behind-unshut.result);
    }

pub returns : goal.returns
returns c =
    sym (c.loop-c.invariant.rest ∙ ap (λ (x : List ℕ). deepest c.loop-c.unshut c.loop-c.most x) (drop_of_length-le c.args.text.now {i = c.loop-c.c-index} (omega arith)) ∙ deepest_end c.loop-c.unshut c.loop-c.most)
