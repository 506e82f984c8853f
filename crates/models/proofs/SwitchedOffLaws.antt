-- What the set of layers that are switched off leaves as it was: the order of layers, and with 0, where no bit is set, every program. And
-- where every rule's layer is off, only defaults are left, so that the empty state is the one stable state. Assumes nothing.
use mathlib.Core.Path.{◌≡◌, refl, sym, ap, ap₂, subst, ◌∙◌}
use mathlib.Core.Bool.{Bool, true, false, not, ◌&&◌, ◌||◌}
use mathlib.Core.List.Memᴰ
use mathlib.Core.List.{List, [], ◌∷◌, map}
use mathlib.Core.Logic.{◌⊎◌, inl, inr}
use Prim.Native.Nat.{ℕ, ◌<◌, ◌^◌}
use native.Mathlib.Nat.{zero-div}
use lib.Dec.{T, T_not, not_T, eqb}
use lib.ListN.{length, get_or, replicate, length-replicate}
use lib.Seq.{ext_get_or}
use Rattle.std.proofs.Math.Bool.{and-true}
use Rattle.base.specs.Lists.{cons_if, any, filter, up_to}
use Rattle.base.proofs.Members.{◌∈◌, and_left, and_right, any_at, filter-from}
use Rattle.base.proofs.MapLaws.{constant_at}
use Rattle.base.proofs.UpTo.{failed}
use Rattle.layers.specs.Layers.{below}
use Rattle.format.specs.Book.{Literal, Rule, Book, is_constraint}
use Rattle.models.specs.Program.{Program, in_set, relevant, program_at}
use Rattle.models.specs.StableModels.{Interpretation, atom_holds, positive, same_literal, signed, holds, body_holds, default, stable, Derived, by_default, by_rule, StableModel}
use Rattle.models.specs.Branching.{can_reject, branching, branching_atoms, branching_count}
use Rattle.models.specs.Listing.{stable_models}
use Rattle.models.specs.SwitchedOff.{whole_program, NothingOff, PathsKept, EveryRuleOff, AllOff}
use Rattle.models.proofs.AlikeLaws.{filter_same, filter_none}
use Rattle.models.proofs.InterpretationLaws.{listed}
use Rattle.models.proofs.LeastLaws.{stable_sound, stable_complete, free-allowed}

-- ---- paths kept
none_in : (i : ℕ) → in_set 0 i ≡ false
unfolding in_set
none_in i = rw (zero-div (2 ^ i)) refl

-- a rule's layer that is not in the set is as good as not in 0
counts_beyond : (b : Book) (layer off : ℕ) (r : Rule) → in_set off r.layer ≡ false → relevant b layer off r ≡ relevant b layer 0 r
unfolding relevant
counts_beyond b layer off r e = rw (e, none_in r.layer) refl

same_order_lem : (b : Book) (layer off i j : ℕ) → (program_at b layer off).below i j ≡ below b.arrows i j
unfolding program_at
same_order_lem b layer off i j = refl

pub paths_kept : PathsKept
paths_kept = record { same_order_lem = same_order_lem; counts_beyond = counts_beyond }

-- ---- nothing off
relevant-none : (b : Book) (layer : ℕ) (r : Rule) → relevant b layer 0 r ≡ (eqb r.layer layer || below b.arrows r.layer layer)
unfolding relevant
relevant-none b layer r = rw (none_in r.layer) (and-true (eqb r.layer layer || below b.arrows r.layer layer))

program_none : (b : Book) (layer : ℕ) → program_at b layer 0 ≡ whole_program b layer
unfolding program_at whole_program
program_none b layer =
    ap₂ (λ (rs cs : List Rule). record { atoms = b.atoms; rules = rs; constraints = map (λ r. r.body) cs; below = below b.arrows })
    (same-filter (λ r. not (is_constraint r))) (same-filter is_constraint)
  where
    same-filter : (p : Rule → Bool) → filter (λ r. relevant b layer 0 r && p r) b.rules ≡ filter (λ r. (eqb r.layer layer || below b.arrows r.layer layer) && p r) b.rules
    same-filter p =
        filter_same (λ r. relevant b layer 0 r && p r) (λ r. (eqb r.layer layer || below b.arrows r.layer layer) && p r)
        (λ r. ap (λ (c : Bool). c && p r) (relevant-none b layer r)) b.rules

pub nothing-off : NothingOff
nothing-off = record { same_rules = relevant-none; same_program = program_none }

-- ---- no rule at all
module _ (P : Program) (none : (r : Rule) → r ∈ P.rules → ⊥) (free : P.constraints ≡ []) where
  abbrev empty : Interpretation
  empty = replicate P.atoms false

  -- only negations are reached, and every one of them
  negated_only : (m : Interpretation) (l : Literal) → Derived P m l → l.negated ≡ true
  negated_only m l (by_default f h d) = refl
  negated_only m l (by_rule r k u below) = absurd (none r k)

  every-default : (m : Interpretation) (f : ℕ) → T (default P m f)
  unfolding default
  every-default m f =
      not_T (any (λ r. same_literal r.head (positive f) && body_holds m r) P.rules)
      (λ t. let v = any_at (λ r. same_literal r.head (positive f) && body_holds m r) P.rules t in none v.0 v.1)

  empty_at : (f : ℕ) → atom_holds empty f ≡ false
  unfolding atom_holds
  empty_at f = constant_at false P.atoms f

  empty_exact : (f : ℕ) (c : Bool) → f < P.atoms → T (holds empty (record { atom = f; negated = c })) → Derived P empty (record { atom = f; negated = c })
  unfolding holds signed
  empty_exact f true h t = by_default f h (every-default empty f)
  empty_exact f false h t = absurd (subst T (empty_at f) t)

  empty_stable : StableModel P empty
  unfolding holds signed
  empty_stable = record {
    size = length-replicate P.atoms false;
    allowed = free-allowed P empty free;
    exact = λ l h. (
      λ d. rw (negated_only empty l d, empty_at l.atom) tt,
      empty_exact l.atom l.negated h,
    );
  }

  stable_empty : (m : Interpretation) → StableModel P m → m ≡ empty
  unfolding atom_holds holds signed
  stable_empty m s =
      ext_get_or false m empty (s.size ∙ sym (length-replicate P.atoms false))
      (λ f h. failed (get_or m f false) (λ t. let e : false ≡ true = negated_only m (positive f) ((s.exact (positive f) (subst (λ (k : ℕ). f < k) s.size h)).1 t) in subst T (sym e) tt) ∙ sym (constant_at false P.atoms f))

  models_empty : stable_models P ≡ empty ∷ []
  unfolding stable_models
  models_empty =
      sym (listed P.atoms (stable P) (empty ∷ []) (λ y k. absurd (Memᴰ.not-nil k), tt)
      (λ m k. only m (Memᴰ.cases_cons k))
      (λ m l t. Memᴰ.head (stable_empty m (stable_sound P m l t))))
    where
      only : (m : Interpretation) → (m ≡ empty) ⊎ m ∈ [] → (length m ≡ P.atoms) × T (stable P m)
      only m (inl e) = rw e (length-replicate P.atoms false, stable_complete P empty empty_stable)
      only m (inr k) = absurd (Memᴰ.not-nil k)

  none-branching : (f : ℕ) → branching P f ≡ false
  unfolding branching
  none-branching f =
      failed (any (λ r. any (λ l. eqb l.atom f && (l.negated || can_reject P r)) r.body) P.rules)
      (λ t. let v = any_at (λ r. any (λ l. eqb l.atom f && (l.negated || can_reject P r)) r.body) P.rules t in none v.0 v.1)

  none_left : (fs : List ℕ) → filter (branching P) fs ≡ []
  unfolding filter cons_if
  none_left [] = refl
  none_left (f ∷ fs) = rw (none-branching f) (none_left fs)

  count-zero : branching_count P ≡ 0
  unfolding branching_count branching_atoms
  count-zero = ap length (none_left (up_to P.atoms))

-- ---- every rule's layer off
none-relevant : (b : Book) (layer off : ℕ) → EveryRuleOff b off → (r : Rule) → r ∈ b.rules → T (relevant b layer off r) → ⊥
unfolding relevant
none-relevant b layer off h r k t =
    T_not (in_set off r.layer) (and_right (eqb r.layer layer || below b.arrows r.layer layer) (not (in_set off r.layer)) t) (h r k)

rules-off : (b : Book) (layer off : ℕ) → EveryRuleOff b off → (r : Rule) → r ∈ (program_at b layer off).rules → ⊥
unfolding program_at
rules-off b layer off h r k =
    let v : r ∈ b.rules × T (relevant b layer off r && not (is_constraint r)) = filter-from (λ r. relevant b layer off r && not (is_constraint r)) b.rules k in
    none-relevant b layer off h r v.0 (and_left (relevant b layer off r) (not (is_constraint r)) v.1)

-- so are the constraints
constraints-off : (b : Book) (layer off : ℕ) → EveryRuleOff b off → (program_at b layer off).constraints ≡ []
unfolding program_at
constraints-off b layer off h =
    ap (map (λ r. r.body))
    (filter_none (λ r. relevant b layer off r && is_constraint r) b.rules (λ r k t. none-relevant b layer off h r k (and_left (relevant b layer off r) (is_constraint r) t)))

pub all-off : AllOff
unfolding program_at
all-off = record {
  one_state = λ b layer off h. models_empty (program_at b layer off) (rules-off b layer off h) (constraints-off b layer off h);
  none_branch = λ b layer off h. count-zero (program_at b layer off) (rules-off b layer off h) (constraints-off b layer off h);
}
