-- Marking the facts of a body, literal by literal. Used by mark_body. Assumes nothing.
use mathlib.Core.Path.{◌≡◌, refl, sym, ap, subst, ◌∙◌}
use mathlib.Core.Bool.{Bool, true, false, ◌&&◌, ◌||◌}
use mathlib.Core.List.{List, [], ◌∷◌, ◌++◌}
use Prim.Native.Nat.{ℕ, ◌<◌}
use native.Mathlib.Decide.{ℕ_discrete}
use native.Mathlib.Omega.{arith}
use borrow.Author.Tests.{eq-eqb, ne_eqb, lt-ltb, ltb-true}
use lib.Dec.{eqb, ltb}
use lib.ListN.{length, get_or, set, length-set}
use lib.Seq.{get_or-set_same, get_or-set_other}
use Rattle.std.proofs.lemmas.List.Folds.{list_any-append}
use Rattle.base.specs.Bounds.{max_atoms}
use Rattle.base.specs.Lists.{any}
use Rattle.format.specs.Book.{Literal}
use Rattle.models.specs.StableModels.{atom_holds}
use Rattle.layers.proofs.BitLaws.{or_true, or_false, or_assoc, and_left, and_right}
use Rattle.branching.specs.Marks.{branches_in}

-- the facts that these literals make branch are marked besides those that were
pub record Marking (rejecting : Bool) (before : List Bool) (done : List Literal) (marks : List Bool) : Type 0 where
  pub size : length marks ≡ max_atoms
  pub marked : (f : ℕ) → f < max_atoms → atom_holds marks f ≡ (atom_holds before f || branches_in rejecting f done)

pub marking_start : (rejecting : Bool) (marks : List Bool) → length marks ≡ max_atoms → Marking rejecting marks [] marks
unfolding branches_in any
marking_start rejecting marks e = record { size = e; marked = λ f h. sym (or_false (atom_holds marks f)) }

-- one literal more
module _ (rejecting : Bool) (before : List Bool) (done : List Literal) (marks : List Bool) (w : Marking rejecting before done marks) (l : Literal) where
  here : ℕ → Bool
  here f = eqb l.atom f && (l.negated || rejecting)

  one_more : (f : ℕ) → branches_in rejecting f (done ++ (l ∷ [])) ≡ (branches_in rejecting f done || here f)
  unfolding branches_in any here
  one_more f = list_any-append (λ (l : Literal). eqb l.atom f && (l.negated || rejecting)) done (l ∷ []) ∙ ap (λ (c : Bool). any (λ (l : Literal). eqb l.atom f && (l.negated || rejecting)) done || c) (or_false (here f))

  -- marks that also have the literal's fact, where it branches
  marked_more : (next : List Bool) → length next ≡ length marks → ((f : ℕ) → f < max_atoms → atom_holds next f ≡ (atom_holds marks f || here f)) → Marking rejecting before (done ++ (l ∷ [])) next
  marked_more next size now_marked = record {
    size = size ∙ w.size;
    marked = λ f b.
        now_marked f b
        ∙ ap (λ (c : Bool). c || here f) (w.marked f b)
        ∙ or_assoc (atom_holds before f) (branches_in rejecting f done) (here f)
        ∙ ap (λ (c : Bool). atom_holds before f || c) (sym (one_more f));
  }

  -- the marks as the test of the literal leaves them
  module _ (t : Bool) (et : t ≡ (ltb l.atom max_atoms && (l.negated || rejecting))) where
    small : t ≡ true → l.atom < max_atoms
    small q = ltb-true l.atom max_atoms (and_left (ltb l.atom max_atoms) (l.negated || rejecting) (sym et ∙ q))

    pub marking_set : t ≡ true → Marking rejecting before (done ++ (l ∷ [])) (set marks l.atom true)
    unfolding here atom_holds
    marking_set q = marked_more (set marks l.atom true) (length-set marks l.atom true) (λ f b. go f (ℕ_discrete l.atom f))
      where
        yes_it : (l.negated || rejecting) ≡ true
        yes_it = and_right (ltb l.atom max_atoms) (l.negated || rejecting) (sym et ∙ q)

        go : (f : ℕ) → Dec (l.atom ≡ f) → get_or (set marks l.atom true) f false ≡ (get_or marks f false || (eqb l.atom f && (l.negated || rejecting)))
        go f (yes e) =
            subst (λ (x : ℕ). get_or (set marks l.atom true) x false ≡ true) e (get_or-set_same marks l.atom true false (omega (arith, w.size, small q)))
            ∙ or_true (get_or marks f false)
            ∙ ap (λ (c : Bool). get_or marks f false || c) (sym (rw (eq-eqb l.atom f e, yes_it) refl))
        go f (no n) =
            get_or-set_other marks l.atom f true false (λ e. n (sym e))
            ∙ sym (or_false (get_or marks f false))
            ∙ ap (λ (c : Bool). get_or marks f false || c) (sym (rw (ne_eqb l.atom f n) refl))

    pub marking_pass : t ≡ false → Marking rejecting before (done ++ (l ∷ [])) marks
    unfolding here
    marking_pass q = marked_more marks refl (λ f b. sym (or_false (atom_holds marks f)) ∙ ap (λ (c : Bool). atom_holds marks f || c) (sym (off f b (ℕ_discrete l.atom f))))
      where
        off : (f : ℕ) → f < max_atoms → Dec (l.atom ≡ f) → (eqb l.atom f && (l.negated || rejecting)) ≡ false
        off f b (no n) = rw (ne_eqb l.atom f n) refl
        off f b (yes e) =
            let z : (l.negated || rejecting) ≡ false = rw (lt-ltb l.atom max_atoms (omega arith)) at (sym et ∙ q) in
            rw (eq-eqb l.atom f e, z) refl
