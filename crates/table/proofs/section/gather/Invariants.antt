-- The invariant: the entries so far stand for the rules passed that count, and there is room for those that are left.
use mathlib.Core.Path.{◌≡◌}
use Rattle.table.specs.Records.{rules_from}
use Rattle.table.proofs.WalkLaws.{WalkedTo}
use Rattle.table.proofs.section.gather.Given as goal

abbrev pub invariant-loop-record : goal.invariant-loop-record
invariant-loop-record g l =
    let e = g.E.FromRecord in
    record {
      same_book : l.record-iterator.book ≡ l.rules.book;
      walked : WalkedTo e.takes e.stands l.rules.book.now l.rules.first l.mask l.out l.count (rules_from l.rules.book.now l.record-iterator.first);
    }
