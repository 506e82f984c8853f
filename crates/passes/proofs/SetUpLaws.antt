-- What a call works out before it searches: the layer's table and its branching facts, as the code lends them, cause 12, and the plan.
-- Assumes nothing.
use mathlib.Core.Path.{◌≡◌, refl, sym, ap, subst, ◌∙◌}
use mathlib.Core.Bool.{true, false}
use mathlib.Core.List.{List}
use Prim.Native.Nat.{ℕ, ◌<◌, ◌≤◌}
use native.Mathlib.Omega.{arith}
use borrow.Author.Tests.{lt-ltb, le-ltb}
use lib.ListN.{length, get_or}
use Rattle.branching.specs.Marks.{Listed}
use Rattle.base.specs.Bounds.{max_atoms, max_branching}
use Rattle.base.proofs.Members.{◌∈◌}
use Rattle.format.specs.Book.{book_of}
use Rattle.base.proofs.EntryLaws.{entry_in}
use Rattle.models.specs.Program.{Program, constrained}
use Rattle.models.specs.Alike.{Alike}
use Rattle.models.specs.StableModels.{WellFormed}
use Rattle.models.specs.Branching.{branching_atoms, branching_count}
use Rattle.models.proofs.AlikeLaws.{alike-count, alike-formed}
use Rattle.models.proofs.ConstraintLaws.{constrained-atoms}
use Rattle.bans.specs.Bans.{bodies_of, barred, BansMade}
use Rattle.table.specs.Table.{TableMade, Tabulates}
use Rattle.table.specs.Tabled.{tabled}
use Rattle.table.specs.declared.Row.{Row}
use Rattle.table.specs.declared.Span.{Span}
use Rattle.table.proofs.TabledLaws.{tabled-atoms, lent_alike, lent_tabled}
use Rattle.accepted.specs.Driving.{driven_program}
use Rattle.accepted.specs.declared.Driving.{Driving}
use Rattle.accepted.proofs.RecordFacts.{accepted-formed, program_atoms}
use Rattle.setting.specs.RuleMasks.{Low}
use Rattle.plan.specs.Plan.{Planned}
use Rattle.plan.specs.declared.Plan.{Plan}
use Rattle.leaf.specs.Searchable.{Searchable}
use Rattle.search.specs.Ready.{Ready}
use Rattle.leaf.proofs.FoundLaws.{branching-small}
use Rattle.passes.specs.Limit.{has_too_many_branching}

module _ (d : Driving) (rows : List Row) (made : TableMade (driven_program d) d.book.now rows) (n : ℕ) (e : n ≡ (book_of d.book.now).atoms) where
  abbrev P : Program
  P = driven_program d

  abbrev book : List ℕ
  book = d.book.now

  abbrev Q : Program
  Q = tabled book rows n

  size : n ≡ P.atoms
  size = program_atoms d.book.now d.layer d.off n e

  -- the driven layer's program and the one that its table stands for are alike, given the same constraints
  table-alike : Alike P (constrained Q P.constraints)
  table-alike = lent_alike made size P.constraints refl

  pub tabulates : Tabulates Q book rows
  tabulates = lent_tabled made size

  formed : WellFormed Q
  unfolding constrained
  formed = let f : WellFormed (constrained Q P.constraints) = alike-formed table-alike (accepted-formed d.book.now d.accepted d.layer d.off) in record { heads = f.heads; bodies = f.bodies }

  same_count : branching_count P ≡ branching_count Q
  unfolding branching_count
  same_count = alike-count table-alike ∙ ap length (constrained-atoms Q P.constraints)

  too_many : {count : ℕ} → count ≡ branching_count Q → max_branching < count → has_too_many_branching P ≡ true
  unfolding has_too_many_branching
  too_many l h = lt-ltb max_branching (branching_count P) (omega (arith, l, same_count))

  -- as many as a search goes through are all listed, and more give way to a cause
  pub listed : {facts : List ℕ} {count : ℕ} → Listed Q facts count → count ≤ max_branching → (facts ≡ branching_atoms Q) × (length facts ≤ max_branching)
  unfolding branching_count
  listed k h = let l : _ = k.atoms_are h in (l, omega (arith, ap length l, k.count_is, h))

  pub refused : {facts : List ℕ} {count : ℕ} → Listed Q facts count → max_branching < count → has_too_many_branching P ≡ true
  refused k h = too_many k.count_is h

  module _ {facts : List ℕ} (x : (facts ≡ branching_atoms Q) × (length facts ≤ max_branching)) where
    abbrev l : facts ≡ branching_atoms Q
    l = x.0

    abbrev h : length facts ≤ max_branching
    h = x.1

    pub listed_low : n ≤ max_atoms → Low facts
    listed_low b i k =
        let m : get_or facts i 0 ∈ branching_atoms Q = subst (λ (fs : List ℕ). get_or facts i 0 ∈ fs) l (entry_in facts i 0 k) in
        omega (arith, tabled-atoms book rows n, branching-small Q formed (get_or facts i 0) m)

    pub not_too_many : has_too_many_branching P ≡ false
    unfolding has_too_many_branching branching_count
    not_too_many = le-ltb max_branching (branching_count P) (omega (arith, h, ap length l, same_count))

    module _ (plan : Plan) (en : plan.n ≡ n) (bans : List Span) where
      -- the table can be searched over the plan's facts, whatever its entries are
      pub table_searchable : plan.atoms ≡ facts → (0 < n) → n ≤ max_atoms → Searchable book rows plan.atoms plan.n
      table_searchable ea some few = subst (λ (k : ℕ). Searchable book rows plan.atoms k) (sym en) (record {
        formed = formed;
        table = tabulates;
        listed = ea ∙ l;
        rows_few = made.room;
        atoms_few = omega (arith, ap length ea, h);
        size = sym (tabled-atoms book rows n);
        some = some;
        few = few;
      })

      -- the table and the plan can be searched
      pub plan_ready : Planned book rows bans facts plan → (0 < n) → n ≤ max_atoms → Ready book rows bans plan
      plan_ready p some few = record {
        table = table_searchable p.atoms_are some few;
        planned = subst (λ (fs : List ℕ). Planned book rows bans fs plan) (sym p.atoms_are) p;
      }

      -- and with the constraints they stand for a program that is alike to the driven layer's
      pub plan_alike : BansMade P.constraints book bans → Alike P (barred book rows bans plan.n)
      plan_alike b =
          subst (λ (k : ℕ). Alike P (barred book rows bans k)) (sym en) (lent_alike made size (bodies_of book bans) b.bodies_are)
