-- Each test's answer is its cause's predicate, and the masks of an accepted book are the closure of its arrows.
use Rattle.std.proofs.Common.{rules}
use Rattle.book.specs.Causes.{verdict_if}
use Rattle.book.proofs.CycleLaws.{masks_are, verdict_is}
use Rattle.book.proofs.Header.check_arrows.Goals as goal

pub returns-then-has_cycle-clause-verdict : goal.returns-then-has_cycle-clause-verdict
unfolding verdict_if
returns-then-has_cycle-clause-verdict c =
    let last = verdict_is c.args.self.now.says c.requires.0 c.requires.1 c.arrow_part.result.now c.arrow_part.ensures c.in_ok-masks.masks (rw c.in_ok-masks.ensures.ok_part at c.arrow_masks.ensures.masks) c.transitive_closure-lower.result c.transitive_closure-lower.ensures.sound c.transitive_closure-lower.ensures.full (rw c.in_ok-masks.ensures.ok_part at c.arrow_masks.ensures.repeated) c.has_cycle.result c.has_cycle.ensures in search (rules, last)

pub returns-clause-verdict : goal.returns-clause-verdict
unfolding verdict_if
returns-clause-verdict c =
    let last = verdict_is c.args.self.now.says c.requires.0 c.requires.1 c.arrow_part.result.now c.arrow_part.ensures c.in_ok-masks.masks (rw c.in_ok-masks.ensures.ok_part at c.arrow_masks.ensures.masks) c.transitive_closure-lower.result c.transitive_closure-lower.ensures.sound c.transitive_closure-lower.ensures.full (rw c.in_ok-masks.ensures.ok_part at c.arrow_masks.ensures.repeated) c.has_cycle.result c.has_cycle.ensures in search (rules, last)

pub returns-clause-masks : goal.returns-clause-masks
returns-clause-masks c =
    masks_are c.args.self.now.says c.requires.0 c.requires.1 c.arrow_part.result.now c.arrow_part.ensures c.in_ok-masks.masks (rw c.in_ok-masks.ensures.ok_part at c.arrow_masks.ensures.masks) c.transitive_closure-lower.result c.transitive_closure-lower.ensures.sound c.transitive_closure-lower.ensures.full
