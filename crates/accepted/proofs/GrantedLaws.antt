-- What an answer says that is a value unless a cause applies: where it is granted, no cause applies, and the value is that one. Assumes
-- nothing.
use mathlib.Core.Path.{◌≡◌, refl}
use Prim.Native.Nat.{ℕ}
use native.Mathlib.Omega.{arith}
use Rattle.std.proofs.Common.{Ok, Err}
use Rattle.std.specs.Result.{result_and}
use Rattle.book.specs.Causes.{Verdict}

pub granted : {A : Type 0} {a b : A} (v : Verdict) → result_and v (Ok a) ≡ Ok b → (v ≡ Ok tt) × (a ≡ b)
granted (Ok x) e = (refl, cc)
granted (Err c) e = let z : ◌≡◌ {A = ℕ} 0 1 = cc in absurd (omega arith)
