-- `read_name` meets its contract: the digits go as far as they can, and are four at most (NameLaws).
use Rattle.condition.proofs.NameLaws.{fifth_digit, ends_there, ends_before, name_or_none}
use native.Mathlib.Omega.{arith}
use Rattle.condition.proofs.read_name.Goals as goal
use Rattle.condition.proofs.read_name.Goals.{else-loop-c-test, then-loop-c-test+in_default}

pub returns-then-digits-eq-MAX_DIGITS : goal.returns-then-digits-eq-MAX_DIGITS
returns-then-digits-eq-MAX_DIGITS c =
    fifth_digit c.args.text.now c.in-Some.d c.loop-c.invariant.number c.loop-c.invariant.all (omega arith) c.in-Some.ensures c.if-digits-eq-MAX_DIGITS.true

pub returns : goal.returns
returns c =
    rw c.then_some.ensures (name_or_none c.args.text.now c.loop-c.digits c.loop-c.invariant.number c.loop-c.invariant.few (omega (arith, c.loop-c.invariant.all)) (elim c.loop-c-test.branch [
      | else-loop-c-test w ↦ ends_there c.args.text.now c.loop-c.digits (omega (arith, c.loop-c.invariant.all))
      | then-loop-c-test+in_default w ↦ ends_before c.args.text.now c.loop-c.invariant.all w.loop-c-test.true w.in_default.ensures
    ]))
