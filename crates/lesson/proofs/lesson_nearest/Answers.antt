-- What a granted reply carries keeps to its bits, so that the number can be made.
use mathlib.Core.Path.{sym, ◌∙◌}
use Rattle.std.proofs.Common.{rules}
use Rattle.lesson.proofs.AnswerLaws.{near_fits}
use Rattle.lesson.proofs.lesson_nearest.Goals as goal

pub number-requires : goal.number-requires
number-requires c =
    λ told e. let fits = near_fits c.args.book.now c.args.layer c.args.off c.args.candidate.now c.args.buffer.now told (sym c.nearest.ensures.answer ∙ e) in search (rules, fits)
