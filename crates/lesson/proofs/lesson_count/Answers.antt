-- What a granted reply carries keeps to its bits, so that the number can be made.
use mathlib.Core.Path.{sym, ◌∙◌}
use Rattle.std.proofs.Common.{rules}
use Rattle.lesson.proofs.AnswerLaws.{count_fits}
use Rattle.lesson.proofs.lesson_count.Goals as goal

pub number-requires : goal.number-requires
number-requires c =
    λ told e. let fits = count_fits c.args.book.now c.args.layer c.args.off c.args.condition.now told (sym c.count.ensures ∙ e) in search (rules, fits)
