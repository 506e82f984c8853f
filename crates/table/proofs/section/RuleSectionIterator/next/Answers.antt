-- The record at the offset is whole, and what follows it is a section again.
use native.Mathlib.Omega.{arith}
use Rattle.table.proofs.WalkLaws.{record_here, records_left}
use Rattle.table.proofs.section.RuleSectionIterator.next.Goals as goal

pub invariant_of-record-clause-whole : goal.invariant_of-record-clause-whole
invariant_of-record-clause-whole c =
    let s = c.args.self.now in
    record_here s.book.now s.first (omega (arith, c.if-self.false)) s.records

pub invariant_of-self : goal.invariant_of-self
invariant_of-self c =
    let s = c.args.self.now in
    record {
      records = rw c.end-self.ensures (records_left s.book.now s.first (omega (arith, c.if-self.false)) s.records);
      starts = rw c.end-self.ensures (record_here s.book.now s.first (omega (arith, c.if-self.false)) s.records).ends;
      short = s.short;
    }
