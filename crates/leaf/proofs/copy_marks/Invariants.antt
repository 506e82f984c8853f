-- The marks passed are kept.
use mathlib.Core.Path.{◌≡◌}
use mathlib.Core.Bool.{false}
use Prim.Native.Nat.{ℕ, ◌<◌}
use lib.ListN.{length, get_or}
use Rattle.leaf.proofs.copy_marks.Given as goal

abbrev pub invariant-loop-f : goal.invariant-loop-f
invariant-loop-f l = (length l.kept ≡ length l.initial.kept) × ((g : ℕ) → g < l.f → get_or l.kept g false ≡ get_or l.marks g false)
