-- Document 02, (i), of the definitions: which rules lean on themselves, what these no longer do, and that displacement, defaults and
-- branching are else as published. proofs/SelfLeaningLaws.antt proves it. Assumes nothing.
use Rattle.std.specs.Prelude.{◌≡◌, ◌↔◌, false, ◌&&◌, ℕ, T}
use mathlib.Core.List.{Memᴰ}
use Rattle.format.specs.Book.{Literal, Rule}
use Rattle.models.specs.Program.{Program}
use Rattle.models.specs.StableModels.{Interpretation, positive, complement, same_literal, body_holds, leans_on_itself, overrides, default}
use Rattle.models.specs.Branching.{can_reject, branching}

pub record SelfLeaning : Type 0 where
  -- "a rule with its head among its own body literals", sign and all
  pub head_in_body : (r : Rule) → T (leans_on_itself r) ↔ Memᴰ r.head r.body
  -- "no longer displaces any rule", whether its body holds or not
  pub displaces_none : (P : Program) (t r : Rule) → T (leans_on_itself t) → overrides P t r ≡ false
  -- "no longer make facts branch by the second ground"
  pub no_second_ground : (P : Program) (t : Rule) → T (leans_on_itself t) → can_reject P t ≡ false
  -- every other rule displaces as published: a rule of a layer below it with the opposite head, which may itself lean
  pub else_published : (P : Program) (t r : Rule) → leans_on_itself t ≡ false
      → overrides P t r ≡ (P.below r.layer t.layer && same_literal t.head (complement r.head))
  -- any rule, leaning or not, counts against defaults, and its negated facts branch
  pub against_defaults : (P : Program) (m : Interpretation) (r : Rule) → Memᴰ r P.rules → (f : ℕ) → r.head ≡ positive f → T (body_holds m r)
      → default P m f ≡ false
  pub first_ground : (P : Program) (r : Rule) → Memᴰ r P.rules → (l : Literal) → Memᴰ l r.body → T l.negated → T (branching P l.atom)
