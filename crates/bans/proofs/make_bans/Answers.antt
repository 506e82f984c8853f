-- What is gathered are the bodies (BanLaws).
use Rattle.table.proofs.FilledLaws.{filled_as}
use Rattle.bans.proofs.BanLaws.{bans_made}
use Rattle.bans.proofs.make_bans.Goals as goal

pub returns : goal.returns
returns c =
    filled_as (λ bans. bans_made) c.gather.ensures
