-- The setting of a mask: what stands in it, when another array is the same, and one atom more. Used by the leaf of the search and by its turns.
-- Assumes nothing.
use mathlib.Core.Path.{◌≡◌, sym, ap, subst, ◌∙◌}
use mathlib.Core.Logic.{⊎_elim}
use mathlib.Core.Bool.{Bool, true, false, ◌&&◌}
use mathlib.Core.List.{List}
use Prim.Native.Nat.{ℕ, ◌<◌}
use native.Mathlib.Decide.{ℕ_discrete}
use native.Mathlib.Omega.{arith}
use lib.Bits.{bit_or}
use lib.Dec.{T, eqb, eqb→eq, eqb_refl}
use lib.ListN.{length, get_or, set, length-set, replicate, length-replicate}
use lib.Seq.{ext_get_or, get_or-set_same, get_or-set_other, set-set}
use Rattle.base.specs.Bounds.{max_atoms}
use Rattle.base.specs.Lists.{any, up_to}
use Rattle.base.proofs.MapLaws.{map-length, map_at, constant_at}
use Rattle.base.proofs.Members.{◌∈◌, and_left, and_right, and_both, any_at, any_of, same_test}
use Rattle.base.proofs.UpTo.{up_to_lt, up_to_has}
use Rattle.layers.specs.Masks.{bit_of}
use Rattle.layers.proofs.BitLaws.{no_bit, or_cases, or_left, or_right}
use Rattle.models.specs.StableModels.{Interpretation}
use Rattle.setting.specs.Setting.{setting_of}
use Rattle.setting.proofs.BitMaskLaws.{single, single_only, single_has}

-- bit i is set, and the i-th atom is f
pub record SetAt (atoms : List ℕ) (standing n f : ℕ) : Type 0 where
  pub place : ℕ
  pub before : place < n
  pub atom_is : get_or atoms place 0 ≡ f
  pub bit : bit_of standing place ≡ 1

module _ (atoms : List ℕ) (standing : ℕ) where
  pub setting_size : length (setting_of atoms standing) ≡ max_atoms
  unfolding setting_of
  setting_size = map-length (λ f. any (λ i. eqb (get_or atoms i 0) f && eqb (bit_of standing i) 1) (up_to (length atoms))) max_atoms

  at : (f : ℕ) → f < max_atoms → get_or (setting_of atoms standing) f false ≡ any (λ i. eqb (get_or atoms i 0) f && eqb (bit_of standing i) 1) (up_to (length atoms))
  unfolding setting_of
  at f h = map_at (λ f. any (λ i. eqb (get_or atoms i 0) f && eqb (bit_of standing i) 1) (up_to (length atoms))) max_atoms false f h

  module _ (f : ℕ) (h : f < max_atoms) where
    pub stands_at : T (get_or (setting_of atoms standing) f false) → SetAt atoms standing (length atoms) f
    stands_at t =
        let v : (i : ℕ) × i ∈ up_to (length atoms) × T (eqb (get_or atoms i 0) f && eqb (bit_of standing i) 1) =
        any_at (λ i. eqb (get_or atoms i 0) f && eqb (bit_of standing i) 1) (up_to (length atoms)) (subst T (at f h) t) in
        record {
          place = v.0;
          before = up_to_lt (length atoms) v.0 v.1;
          atom_is = eqb→eq (get_or atoms v.0 0) f (and_left (eqb (get_or atoms v.0 0) f) (eqb (bit_of standing v.0) 1) v.2);
          bit = eqb→eq (bit_of standing v.0) 1 (and_right (eqb (get_or atoms v.0 0) f) (eqb (bit_of standing v.0) 1) v.2);
        }

    pub at_stands : SetAt atoms standing (length atoms) f → T (get_or (setting_of atoms standing) f false)
    at_stands x =
        subst T (sym (at f h))
        (any_of (λ i. eqb (get_or atoms i 0) f && eqb (bit_of standing i) 1) (up_to_has (length atoms) x.place x.before)
        (and_both (eqb (get_or atoms x.place 0) f) (eqb (bit_of standing x.place) 1)
        (subst (λ (y : ℕ). T (eqb (get_or atoms x.place 0) y)) x.atom_is (eqb_refl (get_or atoms x.place 0)))
        (subst (λ (y : ℕ). T (eqb (bit_of standing x.place) y)) x.bit (eqb_refl (bit_of standing x.place)))))

  -- an array in which the same atoms stand
  pub setting_same : (o : List Bool) → length o ≡ max_atoms → ((f : ℕ) → f < max_atoms → T (get_or o f false) → SetAt atoms standing (length atoms) f)
      → ((f : ℕ) → f < max_atoms → SetAt atoms standing (length atoms) f → T (get_or o f false)) → o ≡ setting_of atoms standing
  setting_same o l from into =
      ext_get_or false o (setting_of atoms standing) (l ∙ sym setting_size)
      (λ f h.
      let b : f < max_atoms = subst (λ (k : ℕ). f < k) l h in
      same_test (get_or o f false) (get_or (setting_of atoms standing) f false) (λ t. at_stands f b (from f b t)) (λ t. into f b (stands_at f b t)))

pub setting_none : (atoms : List ℕ) → replicate max_atoms false ≡ setting_of atoms 0
setting_none atoms =
    setting_same atoms 0 (replicate max_atoms false) (length-replicate {A = Bool} max_atoms false) (λ f b t. absurd (subst T (constant_at false max_atoms f) t)) (λ f b x. absurd (no_bit x.place x.bit))

-- ---- one atom more, that was not set: the i-th, f
module _ (atoms : List ℕ) (standing i f : ℕ) (h : i < length atoms) (b : i < 32) (e : get_or atoms i 0 ≡ f) (bf : f < max_atoms)
    (unset : (k : ℕ) → bit_of standing k ≡ 1 → get_or atoms k 0 ≡ f → ⊥) where
  abbrev X : Interpretation
  X = setting_of atoms standing

  pub setting_false : set X f false ≡ setting_of atoms standing
  setting_false =
      setting_same atoms standing (set X f false) (length-set X f false ∙ setting_size atoms standing) (λ g q t. from g q t (ℕ_discrete g f)) (λ g q x. into g q x (ℕ_discrete g f))
    where
      from : (g : ℕ) → g < max_atoms → T (get_or (set X f false) g false) → Dec (g ≡ f) → SetAt atoms standing (length atoms) g
      from g q t (yes z) = absurd (subst T (ap (λ (k : ℕ). get_or (set X f false) k false) z ∙ get_or-set_same X f false false (omega (arith, setting_size atoms standing))) t)
      from g q t (no z) = stands_at atoms standing g q (subst T (get_or-set_other X f g false false z) t)

      into : (g : ℕ) → g < max_atoms → SetAt atoms standing (length atoms) g → Dec (g ≡ f) → T (get_or (set X f false) g false)
      into g q x (yes z) = absurd (unset x.place x.bit (x.atom_is ∙ z))
      into g q x (no z) = subst T (sym (get_or-set_other X f g false false z)) (at_stands atoms standing g q x)

  pub setting_true : set (set X f false) f true ≡ setting_of atoms (bit_or standing (single i))
  setting_true =
      set-set X f false true
      ∙ setting_same atoms (bit_or standing (single i)) (set X f true) (length-set X f true ∙ setting_size atoms standing) (λ g q t. from g q t (ℕ_discrete g f)) (λ g q x. into g q x (ℕ_discrete g f))
    where
      from : (g : ℕ) → g < max_atoms → T (get_or (set X f true) g false) → Dec (g ≡ f) → SetAt atoms (bit_or standing (single i)) (length atoms) g
      from g q t (yes z) = record { place = i; before = h; atom_is = e ∙ sym z; bit = or_right standing (single i) i (single_has i b) }
      from g q t (no z) =
          let x : SetAt atoms standing (length atoms) g = stands_at atoms standing g q (subst T (get_or-set_other X f g true false z) t) in
          record { place = x.place; before = x.before; atom_is = x.atom_is; bit = or_left standing (single i) x.place x.bit }

      into : (g : ℕ) → g < max_atoms → SetAt atoms (bit_or standing (single i)) (length atoms) g → Dec (g ≡ f) → T (get_or (set X f true) g false)
      into g q x (yes z) = subst T (sym (ap (λ (k : ℕ). get_or (set X f true) k false) z ∙ get_or-set_same X f true false (omega (arith, setting_size atoms standing)))) tt
      into g q x (no z) =
          subst T (sym (get_or-set_other X f g true false z))
          (at_stands atoms standing g q
          (⊎_elim
          (λ a. record { place = x.place; before = x.before; atom_is = x.atom_is; bit = a })
          (λ a. absurd (z (sym x.atom_is ∙ ap (λ (k : ℕ). get_or atoms k 0) (single_only i b x.place a) ∙ e)))
          (or_cases standing (single i) x.place x.bit)))
