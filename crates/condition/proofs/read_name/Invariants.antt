-- The digits so far, at most four, are all of the bytes passed, and give the fact.
use mathlib.Core.Path.{◌≡◌}
use Prim.Native.Nat.{◌≤◌}
use lib.ListN.{take}
use Rattle.grammar.specs.Conditions.{Digits, max_digits}
use Rattle.condition.proofs.read_name.Given as goal

abbrev pub invariant-loop-c : goal.invariant-loop-c
invariant-loop-c l = record { all : l.digits ≡ l.c-index; few : l.digits ≤ max_digits; number : Digits 0 (take l.digits l.text) l.fact }
