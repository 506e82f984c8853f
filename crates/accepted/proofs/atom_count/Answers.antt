-- The header's number of facts, which the check has found in its range.
use mathlib.Core.Path.{ap, ◌∙◌}
use Rattle.format.specs.Book.{atom_count}
use Rattle.accepted.proofs.RangeFacts.{atoms_are}
use Rattle.accepted.proofs.atom_count.Goals as goal

pub returns : goal.returns
returns c =
    atoms_are c.args.book.now c.requires c.read.result.atoms (c.read.result.says.atoms_are ∙ ap atom_count c.read.ensures)
