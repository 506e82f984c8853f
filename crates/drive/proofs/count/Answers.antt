-- `count` meets its contract: the causes of the layer, of the condition, 12, and else the call's own answer. Assumes nothing.
use mathlib.Core.Path.{sym, ap, ◌∙◌}
use Rattle.std.proofs.Common.{rules, Err}
use Rattle.drive.proofs.DriveLaws.{limit_is, alike_is, atoms_is, count_of_layer, count_of_condition, count_of_twelve, counted}
use Prim.Native.Nat.{ℕ}
use Rattle.book.specs.Causes.{first_of}
use Rattle.condition.specs.Code.{code_holds}
use Rattle.condition.specs.Causes.{condition_tests}
use Rattle.drive.proofs.count.Goals as goal

pub returns-in_err-driving : goal.returns-in_err-driving
returns-in_err-driving c =
    let refused = count_of_layer _ _ _ c.args.condition.now c.in_err-driving.ensures.verdict in search (rules, refused)

pub returns-in_err-codes : goal.returns-in_err-codes
returns-in_err-codes c =
    let refused = count_of_condition _ _ _ c.args.condition.now c.in_ok-driving.ensures.verdict (ap (λ (k : ℕ). first_of (condition_tests k c.args.condition.now)) (sym (atoms_is _ _ _ c.in_ok-driving.driving c.in_ok-driving.ensures.driving c.atom_count.ensures.0)) ∙ c.in_err-codes.ensures) in search (rules, refused)

pub returns-in_err-set_up : goal.returns-in_err-set_up
returns-in_err-set_up c =
    let refused = ap Err c.in_err-set_up.ensures.0 ∙ count_of_twelve _ _ _ c.args.condition.now c.in_ok-driving.ensures.verdict (ap (λ (k : ℕ). first_of (condition_tests k c.args.condition.now)) (sym (atoms_is _ _ _ c.in_ok-driving.driving c.in_ok-driving.ensures.driving c.atom_count.ensures.0)) ∙ c.in_ok-codes.ensures.none) (limit_is _ _ _ c.in_ok-driving.driving c.in_ok-driving.ensures.driving c.in_err-set_up.ensures.1) in search (rules, refused)

pub returns : goal.returns
returns c =
    counted _ _ _ c.args.condition.now c.in_ok-driving.ensures.verdict (ap (λ (k : ℕ). first_of (condition_tests k c.args.condition.now)) (sym (atoms_is _ _ _ c.in_ok-driving.driving c.in_ok-driving.ensures.driving c.atom_count.ensures.0)) ∙ c.in_ok-codes.ensures.none) (limit_is _ _ _ c.in_ok-driving.driving c.in_ok-driving.ensures.driving c.in_ok-set_up.ensures.few) (alike_is _ _ _ c.in_ok-driving.driving c.in_ok-driving.ensures.driving c.in_ok-set_up.ensures.alike) (code_holds c.as_slice.result.now) (λ m. ap (λ codes. code_holds codes m) c.as_slice.ensures.value ∙ c.in_ok-codes.ensures.value m) _ c.count_found.ensures
