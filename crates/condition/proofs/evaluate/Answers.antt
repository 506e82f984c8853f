-- `evaluate` meets its contract: the chain folds the codes, and no bit of the stack is lost (RunLaws).
use mathlib.Core.Path.{◌≡◌, refl, sym, ap, ◌∙◌}
use mathlib.Core.List.{List, [], ◌∷◌}
use Prim.Native.Nat.{ℕ}
use Rattle.std.proofs.Common.{rules}
use Rattle.std.specs.List.{fold}
use Rattle.std.proofs.lemmas.Fn.{fold_over, fronts, slice_gives}
use Rattle.std.proofs.lemmas.List.Sums.{fold-append}
use Rattle.condition.specs.declared.Code.{Code}
use Rattle.condition.specs.Code.{odd, kept}
use Rattle.condition.proofs.RunLaws.{fold_holds}
use Rattle.condition.proofs.evaluate.Goals as goal

pub returns : goal.returns
returns c =
    let m = c.args.state.now in
    let folded = fold_over fronts (λ y. y.now) _ (λ ys a. a ≡ fold (kept m) 0 ys) _
    (λ ys a x b f' j k.
    let e : b ≡ kept m a x.now = search rules in
    (e ∙ ap (λ (n : ℕ). kept m n x.now) j ∙ sym (fold-append (kept m) 0 ys (x.now ∷ [])), search rules))
    c.iter.result _ 0 _ (slice_gives c.iter.result) refl c.fold-stack.ensures.ran in
    ap odd (folded ∙ ap (λ (l : List Code). fold (kept m) 0 l) c.iter.ensures.rest) ∙ fold_holds c.args.codes.now m c.requires
