-- Names of literals: which literal a name stands for, the opposite's name, and the name of two bytes. Used by
-- opposite and name_of, and wherever marks or masks stand at a name. Assumes nothing.
use mathlib.Core.Path.{◌≡◌, refl, sym, ap, ◌∙◌}
use mathlib.Core.Bool.{Bool, true, false, not, cond}
use Prim.Native.Nat.{ℕ, ◌+◌, ◌-◌, ◌<◌, ◌≤◌}
use native.Mathlib.Omega.{arith}
use borrow.Author.Tests.{le-leb, lt-leb}
use lib.Dec.{T, leb, leb→le}
use Rattle.base.specs.Bounds.{max_atoms, max_names}
use Rattle.format.specs.Book.{Literal}
use Rattle.models.specs.StableModels.{positive, negative, complement}
use Rattle.table.specs.Names.{literal_named, name_of}

pub name_low : (h : ℕ) → h < max_atoms → literal_named h ≡ positive h
unfolding literal_named
name_low h k = ap (λ (c : Bool). record { atom = cond c (h - max_atoms) h; negated = c }) (lt-leb max_atoms h k)

pub name-high : (h : ℕ) → max_atoms ≤ h → literal_named h ≡ negative (h - max_atoms)
unfolding literal_named
name-high h k = ap (λ (c : Bool). record { atom = cond c (h - max_atoms) h; negated = c }) (le-leb max_atoms h k)

pub opposite_low : (h : ℕ) → h < max_atoms → literal_named (h + max_atoms) ≡ complement (literal_named h)
unfolding complement
opposite_low h k =
    name-high (h + max_atoms) (omega arith)
    ∙ ap negative {x = h + max_atoms - max_atoms} {y = h} (omega arith)
    ∙ ap complement (sym (name_low h k))

pub opposite_high : (h : ℕ) → max_atoms ≤ h → h < max_names → literal_named (h - max_atoms) ≡ complement (literal_named h)
unfolding complement
opposite_high h k b = name_low (h - max_atoms) (omega arith) ∙ ap complement (sym (name-high h k))

pub complement_twice : (l : Literal) → complement (complement l) ≡ l
unfolding complement
complement_twice l = ap (λ (c : Bool). record { atom = l.atom; negated = c }) (twice l.negated)
  where
    twice : (c : Bool) → not (not c) ≡ c
    twice true = refl
    twice false = refl

-- a literal has one name
pub name_back : (h : ℕ) → name_of (literal_named h) ≡ h
unfolding name_of literal_named
name_back h = go (leb max_atoms h) (λ t. leb→le max_atoms h t)
  where
    go : (c : Bool) → (T c → max_atoms ≤ h) → cond c (cond c (h - max_atoms) h + max_atoms) (cond c (h - max_atoms) h) ≡ h
    go true f = let u : max_atoms ≤ h = f tt in omega arith
    go false f = refl

pub one_name : (h o : ℕ) → literal_named h ≡ literal_named o → h ≡ o
one_name h o e = sym (name_back h) ∙ ap name_of e ∙ name_back o

-- the name of a literal: its fact, or the bound on facts more
pub named_plain : (l : Literal) → l.negated ≡ false → l.atom < max_atoms → literal_named l.atom ≡ l
named_plain l e h = name_low l.atom h ∙ ap (λ (c : Bool). record { atom = l.atom; negated = c }) (sym e)

pub named_negated : (l : Literal) → l.negated ≡ true → literal_named (l.atom + max_atoms) ≡ l
named_negated l e =
    name-high (l.atom + max_atoms) (omega arith)
    ∙ ap negative {x = l.atom + max_atoms - max_atoms} {y = l.atom} (omega arith)
    ∙ ap (λ (c : Bool). record { atom = l.atom; negated = c }) (sym e)
