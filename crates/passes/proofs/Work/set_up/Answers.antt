-- What is made is lent as it stands.
use mathlib.Core.Path.{refl}
use Rattle.passes.proofs.Work.set_up.Goals as goal

pub returns : goal.returns
returns c =
    let made = c.in_ok-made.ensures in
    record { of_book = refl; alike = made.alike; few = made.few }
