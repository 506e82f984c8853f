-- `read_condition` meets its contract (CauseLaws).
use mathlib.Core.Path.{ap, ◌∙◌}
use Rattle.condition.specs.Code.{codes_below}
use Rattle.condition.proofs.CauseLaws.{none_applies}
use Rattle.condition.proofs.read_condition.Goals as goal

pub returns-then-names_below : goal.returns-then-names_below
returns-then-names_below c =
    none_applies (rw c.in_ok-code.ensures.ok_part at c.compile.ensures) c.args.n c.bracket_depth.result c.bracket_depth.ensures c.if-bracket_depth-gt-MAX_DEPTH.false c.names_below.result (c.names_below.ensures ∙ ap (codes_below c.args.n) c.as_slice.ensures.value) c.if-names_below.true
