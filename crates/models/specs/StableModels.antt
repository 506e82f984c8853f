-- Document 01, "What a stable state is" (000, section 3, Definition 6), with the one exception of document 02, (i), and the
-- constraints of document 02, (c): once computed, and once as the published inductive statement. proofs/LeastLaws.antt proves that the two agree. Assumes nothing.
use Rattle.std.specs.Prelude.{◌≡◌, ◌↔◌, Bool, true, false, not, ◌&&◌, ℕ, ◌<◌, T, eqb, length, get_or}
use Rattle.std.specs.Bool.{beq}
use mathlib.Core.List.{List, map, Memᴰ}
use Rattle.base.specs.Lists.{all, any, filter, up_to}
use Rattle.base.specs.Closure.{Clause, member, closure}
use Rattle.format.specs.Book.{Literal, Rule}
use Rattle.models.specs.Program.{Program}

-- Document 01: a state. It says of each fact whether it stands.
abbrev pub Interpretation : Type 0
Interpretation = List Bool

-- document 01: the fact stands
unfoldable pub atom_holds : Interpretation → ℕ → Bool
atom_holds m f = get_or m f false

-- "f" and "not f", as literals
abbrev pub positive : ℕ → Literal
positive f = record { atom = f; negated = false }

abbrev pub negative : ℕ → Literal
negative f = record { atom = f; negated = true }

-- the opposite literal
unfoldable pub complement : Literal → Literal
complement l = record { atom = l.atom; negated = not l.negated }

unfoldable pub same_literal : Literal → Literal → Bool
same_literal a b = eqb a.atom b.atom && beq a.negated b.negated

unfoldable pub signed : Bool → Bool → Bool
signed true b = not b
signed false b = b

-- a plain literal holds where its fact stands, a negated one where it does not
unfoldable pub holds : Interpretation → Literal → Bool
holds m l = signed l.negated (atom_holds m l.atom)

-- a body holds if each of its literals does; an empty body holds
unfoldable pub body_holds : Interpretation → Rule → Bool
body_holds m r = all (holds m) r.body

-- Document 02, (i): the rule's head is among its own body's literals, the same fact with the same sign.
unfoldable pub leans_on_itself : Rule → Bool
leans_on_itself r = any (same_literal r.head) r.body

-- a rule, as a clause on names: "f" and "not f" are separate names
unfoldable pub clause_of : Rule → Clause Literal
clause_of r = record { premises = r.body; conclusion = r.head }

-- of fact f, exactly the name that m gives is among the names
unfoldable pub agrees_at : List Literal → Interpretation → ℕ → Bool
agrees_at names m f =
    beq (member same_literal (positive f) names) (atom_holds m f)
    && beq (member same_literal (negative f) names) (not (atom_holds m f))

module _ (P : Program) where
  -- r's layer is below t's, and their heads are opposite: what displacement asks, but for the body. That t does not lean on itself is the
  -- one exception to the published definition; document 02 asked for it as (i).
  unfoldable pub overrides : Rule → Rule → Bool
  overrides t r = P.below r.layer t.layer && same_literal t.head (complement r.head) && not (leans_on_itself t)

  -- Document 01: displaced (000: Reject). The displacing rule may itself be displaced.
  unfoldable pub rejected : Interpretation → Rule → Bool
  rejected m r = any (λ t. overrides t r && body_holds m t) P.rules

  -- Document 01: default, "not f" where f is the plain head of no rule with a body that holds. Displaced rules count too.
  unfoldable pub default : Interpretation → ℕ → Bool
  default m f = not (any (λ r. same_literal r.head (positive f) && body_holds m r) P.rules)

  unfoldable pub defaults : Interpretation → List Literal
  defaults m = map negative (filter (default m) (up_to P.atoms))

  unfoldable pub active_rules : Interpretation → List Rule
  active_rules m = filter (λ r. not (rejected m r)) P.rules

  -- Document 01: the reached names (000: least), computed.
  unfoldable pub least : Interpretation → List Literal
  least m = closure same_literal (map clause_of (active_rules m)) (defaults m)

  -- Document 01: stable, computed, as far as the rules go: the reached names are those that m gives.
  unfoldable pub settled : Interpretation → Bool
  settled m = let names : List Literal = least m in all (agrees_at names m) (up_to P.atoms)

  -- Document 02, (c): the body of a constraint holds.
  unfoldable pub forbidden : Interpretation → Bool
  forbidden m = any (all (holds m)) P.constraints

  -- Document 01: stable, computed; document 02, (c): and no constraint's body holds.
  unfoldable pub stable : Interpretation → Bool
  stable m = settled m && not (forbidden m)

  -- Document 01: reached, as a statement. The defaults, and the head of each undisplaced rule all of whose body literals are reached.
  pub data Derived (m : Interpretation) : Literal → Type 0 where
    by_default : (f : ℕ) → f < P.atoms → T (default m f) → Derived m (negative f)
    by_rule : (r : Rule) → Memᴰ r P.rules → T (not (rejected m r))
        → ((l : Literal) → Memᴰ l r.body → Derived m l) → Derived m r.head

  -- Document 01: M is a stable state, the mission's stable model: the reached names are exactly, for each fact, the one that M gives.
  -- Document 02, (c): "a state in which such a relevant rule's body holds no longer counts".
  pub record StableModel (m : Interpretation) : Type 0 where
    pub size : length m ≡ P.atoms
    pub exact : (l : Literal) → l.atom < P.atoms → Derived m l ↔ T (holds m l)
    pub allowed : (body : List Literal) → Memᴰ body P.constraints → ((l : Literal) → Memᴰ l body → T (holds m l)) → ⊥

  -- every literal of a rule names a fact of the book: cause 6 sees to that
  pub record WellFormed : Type 0 where
    pub heads : (r : Rule) → Memᴰ r P.rules → r.head.atom < P.atoms
    pub bodies : (r : Rule) → Memᴰ r P.rules → (l : Literal) → Memᴰ l r.body → l.atom < P.atoms
