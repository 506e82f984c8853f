-- What a granted reply carries keeps to its bits, so that the number can be made.
use mathlib.Core.Path.{sym, ◌∙◌}
use Rattle.std.proofs.Common.{rules}
use Rattle.lesson.proofs.AnswerLaws.{place-fits}
use Rattle.lesson.proofs.lesson_place.Goals as goal

pub number-requires : goal.number-requires
number-requires c =
    λ told e. let fits = place-fits c.args.book.now c.args.layer c.args.off c.args.fact told (sym c.place.ensures ∙ e) in search (rules, fits)
