-- What the two iterators of this crate yield: for the chains and loops of the crates above. Assumes nothing.
use Rattle.std.proofs.Common.{refl, List, ℕ, Bor}
use Rattle.std.specs.Iterator.{YieldsFirst, YieldsFirstBy}
use Rattle.std.proofs.lemmas.Iterator.{YieldsList}
use Rattle.std.proofs.lemmas.Iterator.Consumers.{YieldsList-from_first}
use Rattle.format.specs.Book.{literals_of, records}
use Rattle.format.specs.declared.Literals.{Literals}
use Rattle.format.specs.declared.Records.{Records}

pub literals_yielded : (body : Bor (List ℕ)) → YieldsList (YieldsFirst (λ (s : Literals). literals_of s.0.now)) (λ x. x) (record { 0 = body }) (literals_of body.now)
literals_yielded body = YieldsList-from_first (λ x. x) (λ s. literals_of s.0.now) (literals_of body.now) refl

pub records_yielded : (part : Bor (List ℕ)) → YieldsList (YieldsFirstBy (λ (r : Bor (List ℕ)). r.now) (λ (s : Records). records s.0.now)) (λ r. r.now) (record { 0 = part }) (records part.now)
records_yielded part = YieldsList-from_first (λ r. r.now) (λ s. records s.0.now) (records part.now) refl
