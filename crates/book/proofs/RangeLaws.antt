-- The header, and what follows for its numbers where cause 5 does not apply. Used by read and wherever a section is cut; CycleLaws and the
-- crate `accepted` cite `ranges`. Assumes nothing.
use mathlib.Core.Path.{◌≡◌, refl}
use mathlib.Core.Bool.{Bool, true, false, not, ◌&&◌, ◌||◌}
use mathlib.Core.List.{List}
use Prim.Native.Nat.{ℕ, ◌+◌, ◌≤◌}
use native.Mathlib.Omega.{arith}
use borrow.Author.Tests.{leb-true, not-false}
use lib.Dec.{leb}
use lib.ListN.{length, get_or}
use Rattle.base.specs.Bounds.{max_atoms, max_layers, max_arrows, max_rules}
use Rattle.format.specs.Book.{u16_at, u32_at, section_bytes, section_count, section_end, atom_count, layer_count, rule_section}
use Rattle.format.specs.Sections.{has_broken_section}
use Rattle.book.specs.Causes.{within, is_out_of_range}
use Rattle.book.specs.Header.{HeaderOf}
use Rattle.layers.proofs.BitLaws.{and_left, and_right}
use Rattle.format.proofs.SectionLaws.{or_first, or_second, Laid, laid}

-- the header, as the code reads it
pub header_of : {s : List ℕ} → has_broken_section s ≡ false → (n l b : ℕ) → n ≡ u16_at s 5 → l ≡ get_or s 7 0 → b ≡ u32_at s 8 → HeaderOf s n l (14 + b)
unfolding atom_count layer_count rule_section section_end section_bytes
header_of e n l b en el eb = record { whole = e; atoms_are = en; layers_are = el; rules_at_lem = rw eb refl }

-- where both sections lie
pub header_in : {s : List ℕ} {n l k : ℕ} → HeaderOf s n l k → (14 ≤ k) × (k + 6 ≤ length s)
header_in {s} h = let w : Laid s = laid s h.whole in (omega (arith, w.first_in, h.rules_at_lem), omega (arith, w.second_in, h.rules_at_lem))

-- where cause 5 does not apply
in_range : (low high x : ℕ) → not (within low high x) ≡ false → (low ≤ x) × (x ≤ high)
unfolding within
in_range low high x e =
    let f : (leb low x && leb x high) ≡ true = not-false (leb low x && leb x high) e in
    (leb-true low x (and_left (leb low x) (leb x high) f), leb-true x high (and_right (leb low x) (leb x high) f))

-- n, L and the counts are in their ranges
pub record Ranges (s : List ℕ) : Type 0 where
  pub some_atom : 1 ≤ atom_count s
  pub atoms_few : atom_count s ≤ max_atoms
  pub layers_few : layer_count s ≤ max_layers
  pub arrows_few : section_count s 8 ≤ max_arrows
  pub rules_few : section_count s (rule_section s) ≤ max_rules

pub ranges : (s : List ℕ) → is_out_of_range s ≡ false → Ranges s
unfolding is_out_of_range
ranges s e =
    let a : Bool = not (within 1 max_atoms (atom_count s)) in
    let b : Bool = not (within 1 max_layers (layer_count s)) in
    let c : Bool = not (within 0 max_arrows (section_count s 8)) in
    let d : Bool = not (within 0 max_rules (section_count s (rule_section s))) in
    let abc : (a || b || c) ≡ false = or_first (a || b || c) d e in
    let ab : (a || b) ≡ false = or_first (a || b) c abc in
    record {
      some_atom = (in_range 1 max_atoms (atom_count s) (or_first a b ab)).0;
      atoms_few = (in_range 1 max_atoms (atom_count s) (or_first a b ab)).1;
      layers_few = (in_range 1 max_layers (layer_count s) (or_second a b ab)).1;
      arrows_few = (in_range 0 max_arrows (section_count s 8) (or_second (a || b) c abc)).1;
      rules_few = (in_range 0 max_rules (section_count s (rule_section s)) (or_second (a || b || c) d e)).1;
    }
