-- The invariant (`ListedTo`): the branching facts below f are counted, and listed as long as there is a place.
use Rattle.table.specs.Tabled.{tabled}
use Rattle.branching.proofs.ListLaws.{ListedTo}
use Rattle.branching.proofs.branching_atoms.Given as goal

abbrev pub invariant-loop-f : goal.invariant-loop-f
invariant-loop-f l = ListedTo (tabled l.table.book.now l.table.rows.now l.n) l.f l.atoms l.count
