-- The invariant: of the atoms passed, the array has those that are not supported.
use mathlib.Core.Path.{◌≡◌}
use mathlib.Core.Bool.{false, not}
use Prim.Native.Nat.{ℕ, ◌<◌}
use lib.ListN.{get_or}
use Rattle.tester.proofs.mark_defaults.Given as goal

abbrev pub invariant-loop-f : goal.invariant-loop-f
invariant-loop-f l = (g : ℕ) → g < l.f → get_or l.others g false ≡ not (get_or l.atoms g false)
