-- The row's three kinds of entries go behind the others.
use mathlib.Core.Path.{refl}
use Prim.Native.Nat.{◌<◌}
use lib.ListN.{length}
use native.Mathlib.Omega.{arith}
use Rattle.std.proofs.lemmas.Option.{IfSome_then}
use Rattle.setting.proofs.RuleMaskLaws.{masks_put}
use Rattle.nogoods.specs.Nogoods.{of_row}
use Rattle.rejecting.proofs.RejectingLaws.{entry_of, made_put}
use Rattle.plan.proofs.PlanLaws.{put_in, nogood_put}
use Rattle.plan.proofs.plan_row.Goals as goal

pub returns : goal.returns
returns c =
    let w = c.requires.plan_to in
    let heads_few : length c.args.plan.now.heads < 1024 = omega (arith, w.masks_made.room, c.args.row.inside, c.requires.rows_bound) in
    let rejecting_few : length c.args.plan.now.rejecting < 1024 = omega (arith, w.rejecting_made.room, c.args.row.inside, c.requires.rows_bound) in
    record {
      made = record {
        masks_made = rw (c.put.ensures.value, put_in c.args.plan.now.heads 1024 c.head_masks.result heads_few, c.head_masks.ensures)
            (masks_put w.masks_made c.requires.atom_bits c.row_masks-body.result c.row_masks-body.ensures _ c.head-h.ensures.0 _ c.branching_bit.ensures);
        nogoods_made = rw c.put-2.ensures.value (nogood_put w.nogoods_made _ _ (IfSome_then c.row_nogood.result c.row_nogood.ensures (λ n x. of_row c.args.row.j x)));
        nogoods_few = c.put-2.ensures.few;
        rejecting_made = rw (c.put-3.ensures.value, put_in c.args.plan.now.rejecting 1024 c.rejecting_masks.result rejecting_few)
            (made_put w.rejecting_made c.row_masks-body.result c.opposite.result _ c.overridden.ensures
            (rw c.overridden.ensures (entry_of c.args.row.table.book.now c.args.row.table.rows.now c.args.row.j c.requires.atom_bits c.row_masks-body.ensures _ _ c.head-h.ensures.0 c.opposite.ensures.0 c.opposite.ensures.1))
            _ c.rejecting_masks.ensures);
      };
      same = record { facts_same = refl; atoms_same = refl };
    }
