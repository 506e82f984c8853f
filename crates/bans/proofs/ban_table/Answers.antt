-- The constraints that pass the mask are the relevant ones.
use mathlib.Core.Path.{subst}
use mathlib.Core.List.{List}
use Rattle.format.specs.Book.{Literal}
use Rattle.table.specs.Filled.{Filled}
use Rattle.table.proofs.TableLaws.{constraints-relevant}
use Rattle.bans.specs.Bans.{BansMade}
use Rattle.bans.proofs.ban_table.Goals as goal

pub returns : goal.returns
returns c =
    let s = c.args.source.now in
    subst (λ (bodies : List (List Literal)). Filled (BansMade bodies s.book.now) c.make_bans.new.bans c.make_bans.result)
    (constraints-relevant s.book.now s.first s.lower s.prepared s.layer s.off s.layer_low _ c.relevant.ensures)
    (rw (c.rules.ensures.0, c.rules.ensures.1) at c.make_bans.ensures)
