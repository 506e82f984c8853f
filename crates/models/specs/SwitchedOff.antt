-- Document 02, (h), of the definitions: what the set of layers that are switched off leaves as it was, and what is left where every
-- rule's layer is off. proofs/SwitchedOffLaws.antt proves it. Assumes nothing.
use Rattle.std.specs.Prelude.{◌≡◌, false, not, ◌&&◌, ◌||◌, ℕ, T, eqb, replicate}
use mathlib.Core.List.{[], ◌∷◌, map, Memᴰ}
use Rattle.base.specs.Lists.{filter}
use Rattle.layers.specs.Layers.{below}
use Rattle.format.specs.Book.{Rule, Book, is_constraint}
use Rattle.models.specs.Program.{Program, in_set, relevant, program_at}
use Rattle.models.specs.Branching.{branching_count}
use Rattle.models.specs.Listing.{stable_models}

-- "Paths through it still count": which layer is below which goes by all arrows, whatever the set, and a rule of a layer that is not
-- off itself counts as with nothing off, whatever lies between.
pub record PathsKept : Type 0 where
  pub same_order_lem : (b : Book) (layer off i j : ℕ) → (program_at b layer off).below i j ≡ below b.arrows i j
  pub counts_beyond : (b : Book) (layer off : ℕ) (r : Rule) → in_set off r.layer ≡ false → relevant b layer off r ≡ relevant b layer 0 r

-- document 01's text: the rules of the driven layer and of the layers below it, of which those with the head 32,767 are constraints
unfoldable pub whole_program : Book → ℕ → Program
whole_program b layer = record {
  atoms = b.atoms;
  rules = filter (λ r. (eqb r.layer layer || below b.arrows r.layer layer) && not (is_constraint r)) b.rules;
  constraints = map (λ r. r.body) (filter (λ r. (eqb r.layer layer || below b.arrows r.layer layer) && is_constraint r) b.rules);
  below = below b.arrows;
}

-- The set 0 switches nothing off. Stable states, branching facts and listings go by the program alone, so they are document 01's too.
pub record NothingOff : Type 0 where
  pub same_rules : (b : Book) (layer : ℕ) (r : Rule) → relevant b layer 0 r ≡ (eqb r.layer layer || below b.arrows r.layer layer)
  pub same_program : (b : Book) (layer : ℕ) → program_at b layer 0 ≡ whole_program b layer

abbrev pub EveryRuleOff : Book → ℕ → Type 0
EveryRuleOff b off = (r : Rule) → Memᴰ r b.rules → T (in_set off r.layer)

-- With every layer off there is exactly one stable state, the empty one, and g is 0.
pub record AllOff : Type 0 where
  pub one_state : (b : Book) (layer off : ℕ) → EveryRuleOff b off → stable_models (program_at b layer off) ≡ replicate b.atoms false ∷ []
  pub none_branch : (b : Book) (layer off : ℕ) → EveryRuleOff b off → branching_count (program_at b layer off) ≡ 0
