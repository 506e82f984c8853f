-- The rest, with what is open and the most so far, decides.
use mathlib.Core.Path.{◌≡◌}
use Prim.Native.Nat.{◌≤◌}
use lib.ListN.{drop}
use Rattle.condition.specs.Code.{deepest}
use Rattle.condition.proofs.bracket_depth.Given as goal

abbrev pub invariant-loop-c : goal.invariant-loop-c
invariant-loop-c l = record { few : l.unshut ≤ l.c-index; rest : deepest 0 0 l.text ≡ deepest l.unshut l.most (drop l.c-index l.text) }
