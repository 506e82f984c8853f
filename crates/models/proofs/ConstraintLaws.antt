-- Constraints stand apart from the rules, so that nothing that goes by the rules looks at them: a program with other constraints rejects,
-- assumes, reaches and branches as it did, by definition. Assumes nothing.
use mathlib.Core.Path.{◌≡◌, refl, sym, ap, ap₂, subst, ◌∙◌}
use mathlib.Core.Bool.{Bool, false, not, ◌&&◌}
use mathlib.Core.List.Memᴰ
use mathlib.Core.List.{List, [], map}
use Prim.Native.Nat.{ℕ, ◌+◌, ◌*◌, ◌%◌, ◌<◌}
use native.Mathlib.Decide.{dec_lt}
use native.Mathlib.Omega.{arith}
use lib.Dec.{T, T_not, eqb, eqb→eq, leb}
use lib.ListN.{length}
use borrow.Author.Tests.{le-leb}
use Rattle.std.proofs.Math.Bool.{and-true}
use Rattle.base.specs.Lists.{all, any, filter}
use Rattle.base.proofs.Members.{◌∈◌, and_left, and_right, and_both, filter-from, filter_into}
use Rattle.base.proofs.UpTo.{failed}
use Rattle.layers.specs.Layers.{below}
use Rattle.format.specs.Book.{Literal, Rule, Book, literal_of, is_falsity, is_constraint}
use Rattle.models.specs.Program.{Program, relevant, program_at, constrained}
use Rattle.models.specs.StableModels.{Interpretation, holds, overrides, rejected, default, defaults, active_rules, least, settled, forbidden, stable, StableModel, WellFormed}
use Rattle.models.specs.Branching.{can_reject, branching, branching_atoms, branching_count}
use Rattle.models.specs.Listing.{interpretations, stable_models}
use Rattle.models.specs.Constraints.{rules_at, WithoutConstraints, Constraints}
use Rattle.models.proofs.LeastLaws.{stable_sound, stable_complete, forbidden_complete}
use Rattle.models.proofs.AlikeLaws.{filter_same, filter-within, filter_none}

-- ---- whatever the constraints
module _ (P : Program) (bodies : List (List Literal)) where
  pub constrained-overrides : (t r : Rule) → overrides (constrained P bodies) t r ≡ overrides P t r
  unfolding overrides constrained
  constrained-overrides t r = refl

  constrained-rejected : (m : Interpretation) (r : Rule) → rejected (constrained P bodies) m r ≡ rejected P m r
  unfolding rejected overrides constrained
  constrained-rejected m r = refl

  constrained-default : (m : Interpretation) (f : ℕ) → default (constrained P bodies) m f ≡ default P m f
  unfolding default constrained
  constrained-default m f = refl

  constrained-least : (m : Interpretation) → least (constrained P bodies) m ≡ least P m
  unfolding least active_rules rejected overrides defaults default constrained
  constrained-least m = refl

  constrained-settled : (m : Interpretation) → settled (constrained P bodies) m ≡ settled P m
  unfolding settled least active_rules rejected overrides defaults default constrained
  constrained-settled m = refl

  constrained-branching : (f : ℕ) → branching (constrained P bodies) f ≡ branching P f
  unfolding branching can_reject overrides constrained
  constrained-branching f = refl

  pub constrained-atoms : branching_atoms (constrained P bodies) ≡ branching_atoms P
  unfolding branching_atoms branching can_reject overrides constrained
  constrained-atoms = refl

  constrained-count : branching_count (constrained P bodies) ≡ branching_count P
  unfolding branching_count
  constrained-count = ap length constrained-atoms

  pub constrained-stable : (m : Interpretation) → stable (constrained P bodies) m ≡ (settled P m && not (any (all (holds m)) bodies))
  unfolding stable forbidden constrained
  constrained-stable m = ap (λ (c : Bool). c && not (any (all (holds m)) bodies)) (constrained-settled m)

  pub constrained-formed : WellFormed P → WellFormed (constrained P bodies)
  unfolding constrained
  constrained-formed w = record { heads = w.heads; bodies = w.bodies }

  -- in a program without constraints stable is settled
  module _ (free : P.constraints ≡ []) where
    pub free-stable : (m : Interpretation) → stable P m ≡ settled P m
    unfolding stable forbidden any
    free-stable m = ap (λ (bs : List (List Literal)). settled P m && not (any (all (holds m)) bs)) free ∙ and-true (settled P m)

    pub constrained-filter : (m : Interpretation) → stable (constrained P bodies) m ≡ (stable P m && not (any (all (holds m)) bodies))
    constrained-filter m = constrained-stable m ∙ ap (λ (c : Bool). c && not (any (all (holds m)) bodies)) (sym (free-stable m))

    -- a stable model is one of the rules alone
    pub constrained_model : (m : Interpretation) → StableModel (constrained P bodies) m → StableModel P m
    unfolding constrained
    constrained_model m s =
        let t : T (stable P m && not (any (all (holds m)) bodies)) = subst T (constrained-filter m) (stable_complete (constrained P bodies) m s) in
        stable_sound P m s.size (and_left (stable P m) (not (any (all (holds m)) bodies)) t)

-- ---- of a book
head-bytes_in : (x y : ℕ) → x < 256 → y < 256 → T (is_falsity (literal_of x y)) → (x ≡ 127) × (y ≡ 255)
unfolding is_falsity literal_of
head-bytes_in x y bx by t = go (dec_lt (x * 256 + y) 32768)
  where
    a : Bool
    a = eqb ((x * 256 + y) % 32768) 32767

    e : (x * 256 + y) % 32768 ≡ 32767
    e = eqb→eq ((x * 256 + y) % 32768) 32767 (and_left a (not (leb 32768 (x * 256 + y))) t)

    go : Dec (x * 256 + y < 32768) → (x ≡ 127) × (y ≡ 255)
    go (yes l) = (omega (arith, e), omega (arith, e))
    go (no l) = absurd (T_not (leb 32768 (x * 256 + y)) (and_right a (not (leb 32768 (x * 256 + y))) t) (leb_of l))
      where
        leb_of : (x * 256 + y < 32768 → ⊥) → T (leb 32768 (x * 256 + y))
        leb_of n = subst T (sym (le-leb 32768 (x * 256 + y) (omega arith))) tt

head-bytes_out : (x y : ℕ) → (x ≡ 127) × (y ≡ 255) → T (is_falsity (literal_of x y))
unfolding is_falsity literal_of
head-bytes_out x y e = rw (e.0, e.1) tt

module _ (b : Book) (layer off : ℕ) where
  no_rule : (r : Rule) → r ∈ (program_at b layer off).rules → is_constraint r ≡ false
  unfolding program_at
  no_rule r k =
      let v : r ∈ b.rules × T (relevant b layer off r && not (is_constraint r)) = filter-from (λ r. relevant b layer off r && not (is_constraint r)) b.rules k in
      failed (is_constraint r) (λ t. T_not (is_constraint r) (and_right (relevant b layer off r) (not (is_constraint r)) v.1) t)

  body-from : (body : List Literal) → body ∈ (program_at b layer off).constraints → (r : Rule) × r ∈ b.rules × T (relevant b layer off r) × T (is_constraint r) × (r.body ≡ body)
  unfolding program_at
  body-from body k =
      let u : (r : Rule) × r ∈ filter (λ r. relevant b layer off r && is_constraint r) b.rules × (r.body ≡ body) = Memᴰ.of_map (λ r. r.body) (filter (λ r. relevant b layer off r && is_constraint r) b.rules) k in
      let v : u.0 ∈ b.rules × T (relevant b layer off u.0 && is_constraint u.0) = filter-from (λ r. relevant b layer off r && is_constraint r) b.rules u.1 in
      (u.0, v.0, and_left (relevant b layer off u.0) (is_constraint u.0) v.1, and_right (relevant b layer off u.0) (is_constraint u.0) v.1, u.2)

  body_into : (body : List Literal) → (r : Rule) × r ∈ b.rules × T (relevant b layer off r) × T (is_constraint r) × (r.body ≡ body) → body ∈ (program_at b layer off).constraints
  unfolding program_at
  body_into body u =
      subst (λ (x : List Literal). x ∈ map (λ r. r.body) (filter (λ r. relevant b layer off r && is_constraint r) b.rules)) u.4
      (Memᴰ.map (λ r. r.body) (filter_into (λ r. relevant b layer off r && is_constraint r) u.1 (and_both (relevant b layer off u.0) (is_constraint u.0) u.2 u.3)))

  module _ (none : (r : Rule) → r ∈ b.rules → is_constraint r ≡ false) where
    same_program : program_at b layer off ≡ rules_at b layer off
    unfolding program_at rules_at
    same_program =
        ap₂ (λ (rs cs : List Rule). record { atoms = b.atoms; rules = rs; constraints = map (λ r. r.body) cs; below = below b.arrows })
        (filter-within (λ r. relevant b layer off r && not (is_constraint r)) (relevant b layer off) b.rules (λ r k. rw (none r k) (and-true (relevant b layer off r))))
        (filter_none (λ r. relevant b layer off r && is_constraint r) b.rules (λ r k t. subst T (none r k) (and_right (relevant b layer off r) (is_constraint r) t)))

    same_models : stable_models (program_at b layer off) ≡ filter (settled (rules_at b layer off)) (interpretations b.atoms)
    unfolding stable_models rules_at
    same_models =
        ap stable_models same_program
        ∙ filter_same (stable (rules_at b layer off)) (settled (rules_at b layer off)) (λ m. free-stable (rules_at b layer off) [] refl m) (interpretations b.atoms)

empty_body : (P : Program) → [] ∈ P.constraints → stable_models P ≡ []
unfolding stable_models stable
empty_body P k =
    filter_none (stable P) (interpretations P.atoms)
    (λ m i t. T_not (forbidden P m) (and_right (settled P m) (not (forbidden P m)) t) (forbidden_complete P m [] k (λ l j. absurd (Memᴰ.not-nil j))))

pub without_constraints : WithoutConstraints
without_constraints = record { same_program = same_program; same_models = same_models }

pub constraints-apart : Constraints
constraints-apart = record {
  head_bytes = λ x y bx by. (head-bytes_in x y bx by, head-bytes_out x y);
  no_rule = no_rule;
  bodies = λ b layer off body. (body-from b layer off body, body_into b layer off body);
  same_overrides = constrained-overrides;
  same_rejected = constrained-rejected;
  same_default = constrained-default;
  same_least = constrained-least;
  same_branching = constrained-branching;
  same_count = constrained-count;
  forbids = constrained-stable;
  empty_body = empty_body;
}
