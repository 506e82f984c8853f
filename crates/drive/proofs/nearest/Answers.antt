-- `nearest` meets its contract: the causes of the layer, 10, 12, and else the call's own answer. Assumes nothing.
use mathlib.Core.Path.{◌≡◌, sym, ap, ◌∙◌}
use mathlib.Core.List.{List}
use Rattle.std.proofs.Common.{rules, Err}
use Rattle.drive.proofs.DriveLaws.{limit_is, alike_is, bad_is, near_of_layer, near_of_ten, near_of_twelve, neared}
use Prim.Native.Nat.{ℕ}
use Rattle.candidate.specs.Candidate.{is_bad_candidate}
use Rattle.models.specs.Program.{Program}
use Rattle.search.specs.Space.{space_program}
use Rattle.search.specs.declared.space.Space.{Space}
use Rattle.passes.specs.SetUp.{Spans}
use Rattle.passes.proofs.SpaceLaws.{space_size}
use Rattle.drive.proofs.nearest.Goals as goal

-- the space that is set up has as many facts as its program
sized : {P : Program} {book : List ℕ} {s : Space} → Spans P book s → s.plan.now.n ≡ (space_program s).atoms
sized {s = s} _ = space_size s

pub returns-in_err-driving-clause-answer : goal.returns-in_err-driving-clause-answer
returns-in_err-driving-clause-answer c =
    let refused = (near_of_layer _ _ _ c.args.candidate.now c.args.buffer.now c.in_err-driving.ensures.verdict).0 in search (rules, refused)

pub returns-in_err-driving-clause-bytes : goal.returns-in_err-driving-clause-bytes
returns-in_err-driving-clause-bytes c =
    (near_of_layer _ _ _ c.args.candidate.now c.args.buffer.now c.in_err-driving.ensures.verdict).1

pub returns-then-bad_candidate-clause-answer : goal.returns-then-bad_candidate-clause-answer
returns-then-bad_candidate-clause-answer c =
    (near_of_ten _ _ _ c.args.candidate.now c.args.buffer.now c.in_ok-driving.ensures.verdict (bad_is _ _ _ c.in_ok-driving.driving c.in_ok-driving.ensures.driving c.atom_count.ensures.0 c.args.candidate.now c.bad_candidate.ensures ∙ c.if-bad_candidate.true)).0

pub returns-then-bad_candidate-clause-bytes : goal.returns-then-bad_candidate-clause-bytes
returns-then-bad_candidate-clause-bytes c =
    (near_of_ten _ _ _ c.args.candidate.now c.args.buffer.now c.in_ok-driving.ensures.verdict (bad_is _ _ _ c.in_ok-driving.driving c.in_ok-driving.ensures.driving c.atom_count.ensures.0 c.args.candidate.now c.bad_candidate.ensures ∙ c.if-bad_candidate.true)).1

pub returns-in_err-set_up-clause-answer : goal.returns-in_err-set_up-clause-answer
returns-in_err-set_up-clause-answer c =
    let refused = ap Err c.in_err-set_up.ensures.0 ∙ (near_of_twelve _ _ _ c.args.candidate.now c.args.buffer.now c.in_ok-driving.ensures.verdict (bad_is _ _ _ c.in_ok-driving.driving c.in_ok-driving.ensures.driving c.atom_count.ensures.0 c.args.candidate.now c.bad_candidate.ensures ∙ c.if-bad_candidate.false) (limit_is _ _ _ c.in_ok-driving.driving c.in_ok-driving.ensures.driving c.in_err-set_up.ensures.1)).0 in search (rules, refused)

pub returns-in_err-set_up-clause-bytes : goal.returns-in_err-set_up-clause-bytes
returns-in_err-set_up-clause-bytes c =
    (near_of_twelve _ _ _ c.args.candidate.now c.args.buffer.now c.in_ok-driving.ensures.verdict (bad_is _ _ _ c.in_ok-driving.driving c.in_ok-driving.ensures.driving c.atom_count.ensures.0 c.args.candidate.now c.bad_candidate.ensures ∙ c.if-bad_candidate.false) (limit_is _ _ _ c.in_ok-driving.driving c.in_ok-driving.ensures.driving c.in_err-set_up.ensures.1)).1

pub near_found-requires : goal.near_found-requires
near_found-requires c =
    ap (λ (k : ℕ). is_bad_candidate k c.args.candidate.now) (sized c.in_ok-set_up.ensures ∙ sym (alike_is _ _ _ c.in_ok-driving.driving c.in_ok-driving.ensures.driving c.in_ok-set_up.ensures.alike).atoms_same) ∙ (bad_is _ _ _ c.in_ok-driving.driving c.in_ok-driving.ensures.driving c.atom_count.ensures.0 c.args.candidate.now c.bad_candidate.ensures ∙ c.if-bad_candidate.false)

pub returns-clause-answer : goal.returns-clause-answer
returns-clause-answer c =
    (neared _ _ _ c.args.candidate.now c.args.buffer.now c.in_ok-driving.ensures.verdict (bad_is _ _ _ c.in_ok-driving.driving c.in_ok-driving.ensures.driving c.atom_count.ensures.0 c.args.candidate.now c.bad_candidate.ensures ∙ c.if-bad_candidate.false) (limit_is _ _ _ c.in_ok-driving.driving c.in_ok-driving.ensures.driving c.in_ok-set_up.ensures.few) (alike_is _ _ _ c.in_ok-driving.driving c.in_ok-driving.ensures.driving c.in_ok-set_up.ensures.alike) _ (sized c.in_ok-set_up.ensures) c.near_found.ensures).0

pub returns-clause-bytes : goal.returns-clause-bytes
returns-clause-bytes c =
    (neared _ _ _ c.args.candidate.now c.args.buffer.now c.in_ok-driving.ensures.verdict (bad_is _ _ _ c.in_ok-driving.driving c.in_ok-driving.ensures.driving c.atom_count.ensures.0 c.args.candidate.now c.bad_candidate.ensures ∙ c.if-bad_candidate.false) (limit_is _ _ _ c.in_ok-driving.driving c.in_ok-driving.ensures.driving c.in_ok-set_up.ensures.few) (alike_is _ _ _ c.in_ok-driving.driving c.in_ok-driving.ensures.driving c.in_ok-set_up.ensures.alike) _ (sized c.in_ok-set_up.ensures) c.near_found.ensures).1
