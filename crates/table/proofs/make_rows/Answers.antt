-- What is gathered are the rows (WalkLaws).
use Rattle.table.proofs.FilledLaws.{filled_as}
use Rattle.table.proofs.WalkLaws.{rows_made}
use Rattle.table.proofs.make_rows.Goals as goal

pub returns : goal.returns
returns c =
    filled_as (λ rows. rows_made) c.gather.ensures
