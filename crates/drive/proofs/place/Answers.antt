-- `place` meets its contract: the causes of the layer, 11, 12, and else the call's own answer. Assumes nothing.
use mathlib.Core.Path.{ap, ◌∙◌}
use Rattle.std.proofs.Common.{rules, Err}
use Rattle.drive.proofs.DriveLaws.{limit_is, alike_is, atoms_is, place_of_layer, place_of_eleven, place_of_twelve, placed}
use native.Mathlib.Omega.{arith}
use Rattle.drive.proofs.place.Goals as goal

pub returns-in_err-driving : goal.returns-in_err-driving
returns-in_err-driving c =
    let refused = place_of_layer _ _ _ c.args.fact c.in_err-driving.ensures.verdict in search (rules, refused)

pub returns-then-atom_count-fact : goal.returns-then-atom_count-fact
returns-then-atom_count-fact c =
    place_of_eleven _ _ _ c.args.fact c.in_ok-driving.ensures.verdict (omega (arith, atoms_is _ _ _ c.in_ok-driving.driving c.in_ok-driving.ensures.driving c.atom_count.ensures.0, c.if-atom_count-fact.true))

pub returns-in_err-set_up : goal.returns-in_err-set_up
returns-in_err-set_up c =
    let refused = ap Err c.in_err-set_up.ensures.0 ∙ place_of_twelve _ _ _ c.args.fact c.in_ok-driving.ensures.verdict (omega (arith, atoms_is _ _ _ c.in_ok-driving.driving c.in_ok-driving.ensures.driving c.atom_count.ensures.0, c.if-atom_count-fact.false)) (limit_is _ _ _ c.in_ok-driving.driving c.in_ok-driving.ensures.driving c.in_err-set_up.ensures.1) in search (rules, refused)

pub returns : goal.returns
returns c =
    placed _ _ _ c.args.fact c.in_ok-driving.ensures.verdict (omega (arith, atoms_is _ _ _ c.in_ok-driving.driving c.in_ok-driving.ensures.driving c.atom_count.ensures.0, c.if-atom_count-fact.false)) (limit_is _ _ _ c.in_ok-driving.driving c.in_ok-driving.ensures.driving c.in_ok-set_up.ensures.few) (alike_is _ _ _ c.in_ok-driving.driving c.in_ok-driving.ensures.driving c.in_ok-set_up.ensures.alike) _ c.place_found.ensures
