-- The lowest bit in which they differ says which comes first (`later_at_a_fact`).
use Rattle.std.proofs.Common.{refl}
use Rattle.first.proofs.LaterLaws.{not-zero, later_at_the_end, later_at_a_fact}
use Rattle.first.proofs.Held.comes_first.Goals as goal

pub returns-then-differ-eq0 : goal.returns-then-differ-eq0
returns-then-differ-eq0 c =
    later_at_the_end c.args.self c.args.standing _ refl c.if-differ-eq0.true

pub returns : goal.returns
returns c =
    λ e. later_at_a_fact c.args.self c.args.standing _ refl c.if-differ-eq0.false (not-zero _ e)
