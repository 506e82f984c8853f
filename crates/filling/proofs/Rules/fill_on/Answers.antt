-- A fact that a pass reaches both ways is one of the whole filling.
use mathlib.Core.Path.{refl}
use mathlib.Core.Bool.{true}
use Rattle.filling.specs.Marks.{FilledOn}
use Rattle.filling.proofs.FillingLaws.{clashed}
use borrow.Author.Rules.{rules}
use Rattle.filling.proofs.Rules.fill_on.Goals as goal

pub returns-in_err-pass : goal.returns-in_err-pass
returns-in_err-pass c =
    let clash : FilledOn c.args.self.now.table.book.now c.args.self.now.table.rows.now c.args.self.now.rejects.now c.args.positive.now c.args.negative.now c.pass-in-loop-positive.new.positive c.pass-in-loop-positive.new.negative true = clashed c.loop-positive.invariant.grown c.in_err-pass.ensures refl in
    search (rules, clash)
