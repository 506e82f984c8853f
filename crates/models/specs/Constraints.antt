-- Document 02, (c), of the definitions: which rules are constraints, what these forbid, and that displacing, defaults, reaching and
-- branching go by the other rules alone, as they did. proofs/ConstraintLaws.antt proves it. Assumes nothing.
use Rattle.std.specs.Prelude.{◌≡◌, ◌↔◌, false, not, ◌&&◌, ℕ, ◌<◌, T}
use mathlib.Core.List.{List, [], Memᴰ}
use Rattle.base.specs.Lists.{all, any, filter}
use Rattle.layers.specs.Layers.{below}
use Rattle.format.specs.Book.{Literal, Rule, Book, literal_of, is_falsity, is_constraint}
use Rattle.models.specs.Program.{Program, relevant, program_at, constrained}
use Rattle.models.specs.StableModels.{Interpretation, holds, overrides, rejected, default, least, settled, stable}
use Rattle.models.specs.Branching.{branching, branching_count}
use Rattle.models.specs.Listing.{interpretations, stable_models}

-- what a driven layer saw of a book before there were constraints: every relevant rule
unfoldable pub rules_at : Book → ℕ → ℕ → Program
rules_at b layer off = record { atoms = b.atoms; rules = filter (relevant b layer off) b.rules; constraints = []; below = below b.arrows }

-- A book without such heads has the program, and so the stable models, that it had: `settled` is the whole of the published test.
pub record WithoutConstraints : Type 0 where
  pub same_program : (b : Book) (layer off : ℕ) → ((r : Rule) → Memᴰ r b.rules → is_constraint r ≡ false) → program_at b layer off ≡ rules_at b layer off
  pub same_models : (b : Book) (layer off : ℕ) → ((r : Rule) → Memᴰ r b.rules → is_constraint r ≡ false)
      → stable_models (program_at b layer off) ≡ filter (settled (rules_at b layer off)) (interpretations b.atoms)

pub record Constraints : Type 0 where
  -- "32,767 as its head": the two bytes 7F FF, and no others
  pub head_bytes : (x y : ℕ) → x < 256 → y < 256 → T (is_falsity (literal_of x y)) ↔ ((x ≡ 127) × (y ≡ 255))
  -- "It displaces nothing, is never displaced and reaches no name": none is among a program's rules
  pub no_rule : (b : Book) (layer off : ℕ) (r : Rule) → Memᴰ r (program_at b layer off).rules → is_constraint r ≡ false
  -- the bodies that must never hold are those of the relevant constraints; one of a layer that is not relevant, or is off, forbids nothing
  pub bodies : (b : Book) (layer off : ℕ) (body : List Literal)
      → Memᴰ body (program_at b layer off).constraints ↔ ((r : Rule) × Memᴰ r b.rules × T (relevant b layer off r) × T (is_constraint r) × (r.body ≡ body))
  -- whatever the constraints, the same rules are displaced, the same names are reached, and "its body adds no branching facts"
  pub same_overrides : (P : Program) (bodies : List (List Literal)) (t r : Rule) → overrides (constrained P bodies) t r ≡ overrides P t r
  pub same_rejected : (P : Program) (bodies : List (List Literal)) (m : Interpretation) (r : Rule) → rejected (constrained P bodies) m r ≡ rejected P m r
  pub same_default : (P : Program) (bodies : List (List Literal)) (m : Interpretation) (f : ℕ) → default (constrained P bodies) m f ≡ default P m f
  pub same_least : (P : Program) (bodies : List (List Literal)) (m : Interpretation) → least (constrained P bodies) m ≡ least P m
  pub same_branching : (P : Program) (bodies : List (List Literal)) (f : ℕ) → branching (constrained P bodies) f ≡ branching P f
  pub same_count : (P : Program) (bodies : List (List Literal)) → branching_count (constrained P bodies) ≡ branching_count P
  -- "a state in which such a relevant rule's body holds no longer counts", and every other counts as it did
  pub forbids : (P : Program) (bodies : List (List Literal)) (m : Interpretation) → stable (constrained P bodies) m ≡ (settled P m && not (any (all (holds m)) bodies))
  -- an empty body always holds
  pub empty_body : (P : Program) → Memᴰ [] P.constraints → stable_models P ≡ []
