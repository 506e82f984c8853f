-- After f turns the sums of the first f facts are new. Assumes nothing.
use Rattle.std.proofs.Common.{◌≡◌}
use Rattle.records.proofs.SumLaws.{partly}
use Rattle.records.proofs.add_state.Given as goal

abbrev pub invariant-loop-f : goal.invariant-loop-f
invariant-loop-f l = l.sums ≡ partly l.initial.sums l.m l.f
