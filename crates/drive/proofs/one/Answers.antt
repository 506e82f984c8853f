-- `one` meets its contract: the causes of the layer, 12, and else the call's own answer. Assumes nothing.
use mathlib.Core.Path.{ap, ◌∙◌}
use Rattle.std.proofs.Common.{rules, Err}
use Rattle.drive.proofs.DriveLaws.{limit_is, alike_is, one_of_layer, one_of_twelve, written}
use Rattle.drive.proofs.one.Goals as goal

pub returns-in_err-driving-clause-answer : goal.returns-in_err-driving-clause-answer
returns-in_err-driving-clause-answer c =
    let refused = (one_of_layer _ _ _ c.args.buffer.now c.in_err-driving.ensures.verdict).0 in search (rules, refused)

pub returns-in_err-driving-clause-bytes : goal.returns-in_err-driving-clause-bytes
returns-in_err-driving-clause-bytes c =
    (one_of_layer _ _ _ c.args.buffer.now c.in_err-driving.ensures.verdict).1

pub returns-in_err-set_up-clause-answer : goal.returns-in_err-set_up-clause-answer
returns-in_err-set_up-clause-answer c =
    let refused = ap Err c.in_err-set_up.ensures.0 ∙ (one_of_twelve _ _ _ c.args.buffer.now c.in_ok-driving.ensures.verdict (limit_is _ _ _ c.in_ok-driving.driving c.in_ok-driving.ensures.driving c.in_err-set_up.ensures.1)).0 in search (rules, refused)

pub returns-in_err-set_up-clause-bytes : goal.returns-in_err-set_up-clause-bytes
returns-in_err-set_up-clause-bytes c =
    (one_of_twelve _ _ _ c.args.buffer.now c.in_ok-driving.ensures.verdict (limit_is _ _ _ c.in_ok-driving.driving c.in_ok-driving.ensures.driving c.in_err-set_up.ensures.1)).1

pub returns-clause-answer : goal.returns-clause-answer
returns-clause-answer c =
    (written _ _ _ c.args.buffer.now c.in_ok-driving.ensures.verdict (limit_is _ _ _ c.in_ok-driving.driving c.in_ok-driving.ensures.driving c.in_ok-set_up.ensures.few) (alike_is _ _ _ c.in_ok-driving.driving c.in_ok-driving.ensures.driving c.in_ok-set_up.ensures.alike) c.one_found.ensures).0

pub returns-clause-bytes : goal.returns-clause-bytes
returns-clause-bytes c =
    (written _ _ _ c.args.buffer.now c.in_ok-driving.ensures.verdict (limit_is _ _ _ c.in_ok-driving.driving c.in_ok-driving.ensures.driving c.in_ok-set_up.ensures.few) (alike_is _ _ _ c.in_ok-driving.driving c.in_ok-driving.ensures.driving c.in_ok-set_up.ensures.alike) c.one_found.ensures).1
