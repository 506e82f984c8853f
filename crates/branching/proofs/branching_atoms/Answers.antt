-- The invariant (`ListedTo`): the branching facts below f are counted, and listed as long as there is a place.
use mathlib.Core.Bool.{Bool, false}
use mathlib.Core.List.{List}
use Prim.Native.Nat.{ℕ, ◌<◌, ◌≤◌}
use lib.ListN.{length, take}
use Rattle.base.specs.Bounds.{max_atoms}
use mathlib.Core.Path.{◌≡◌, ◌∙◌, sym}
use Rattle.std.proofs.Common.{get_or-take, length-take-le, arith}
use Rattle.table.specs.Tabled.{tabled}
use Rattle.table.proofs.TabledLaws.{tabled-atoms}
use Rattle.branching.proofs.ListLaws.{listed_start, listed_yes, listed_no, listed_all, listed_many, marked-branches, table_alone}
use Rattle.branching.proofs.branching_atoms.Goals as goal
use Rattle.branching.proofs.branching_atoms.Goals.{then-branches, else-branches}

-- the marks below n are all passed
all_passed : (marks : List Bool) (n : ℕ) → length marks ≡ max_atoms → n ≤ max_atoms → {f : ℕ} → length (take n marks) ≤ f → f ≤ length (take n marks) → f ≡ n
all_passed marks n l b h k = omega (arith, length-take-le n marks (omega arith))

pub mark_branching-requires-clause-tabulates : goal.mark_branching-requires-clause-tabulates
mark_branching-requires-clause-tabulates c = table_alone c.args.table.book.now c.args.table.rows.now c.args.n c.requires.tabulates

pub loop-f-init : goal.loop-f-init
loop-f-init c = rw c.clear.ensures (listed_start (tabled c.args.table.book.now c.args.table.rows.now c.args.n))

pub loop-f-preserved : goal.loop-f-preserved
loop-f-preserved c =
    let before : c.loop-f.f < c.args.n = omega (arith, length-take-le c.args.n c.mark_branching.new.marks (omega (arith, c.mark_branching.array_long, c.requires.n_le_max_atoms)), c.loop-f-test.true) in
    let b = marked-branches c.args.table.book.now c.args.table.rows.now c.args.n _ c.mark_branching.ensures c.loop-f.f (omega (arith, before, c.requires.n_le_max_atoms)) in
    let at = get_or-take c.args.n c.mark_branching.new.marks c.loop-f.f false before in
    elim c.if-branches.branch [
      | then-branches w ↦ rw (w.atoms-is, w.count-is, w.put.ensures.value) (listed_yes (tabled c.args.table.book.now c.args.table.rows.now c.args.n) c.loop-f.f c.loop-f.atoms c.loop-f.count c.loop-f.invariant (b _ (sym at ∙ w.if-branches.true)))
      | else-branches w ↦ rw (w.atoms-is, w.count-is) (listed_no (tabled c.args.table.book.now c.args.table.rows.now c.args.n) c.loop-f.f c.loop-f.atoms c.loop-f.count c.loop-f.invariant (b _ (sym at ∙ w.if-branches.false)))
    ]

pub returns : goal.returns
returns c =
    let passed = all_passed c.mark_branching.new.marks c.args.n c.mark_branching.array_long c.requires.n_le_max_atoms c.loop-f-test.false c.loop-f.auto.f-end ∙ sym (tabled-atoms c.args.table.book.now c.args.table.rows.now c.args.n) in
    record {
      count_is = listed_many (tabled c.args.table.book.now c.args.table.rows.now c.args.n) c.loop-f.f c.loop-f.atoms c.loop-f.count passed c.loop-f.invariant;
      atoms_are = listed_all (tabled c.args.table.book.now c.args.table.rows.now c.args.n) c.loop-f.f c.loop-f.atoms c.loop-f.count passed c.loop-f.invariant;
    }
