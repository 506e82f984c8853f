-- What is kept of a state, fact by fact: the branching facts passed are ahead, and every fact that stands among those passed is known. Used
-- by outline. Assumes nothing.
use mathlib.Core.Path.{◌≡◌, refl, sym, ap, subst, ◌∙◌}
use mathlib.Core.Logic.{◌⊎◌, inl, inr}
use mathlib.Core.Bool.{Bool, true, false, not, false≢true}
use mathlib.Core.List.Memᴰ
use mathlib.Core.List.{List, [], ◌∷◌}
use Prim.Native.Nat.{ℕ, ◌+◌, ◌<◌, ◌≤◌}
use native.Mathlib.Decide.{dec_lt}
use native.Mathlib.Omega.{arith}
use lib.Bits.{bit_or}
use lib.Dec.{T}
use lib.ListN.{length, get_or, get_or-eq_default}
use Rattle.base.specs.Bounds.{max_atoms, max_branching}
use Rattle.base.proofs.Members.{◌∈◌}
use Rattle.layers.specs.Masks.{bit_of}
use Rattle.layers.proofs.BitLaws.{no_bit, or_cases, or_left, or_right}
use Rattle.models.specs.Program.{Program}
use Rattle.models.specs.StableModels.{Interpretation, atom_holds}
use Rattle.models.specs.Branching.{branching_atoms}
use Rattle.bans.specs.Bans.{barred}
use Rattle.base.proofs.EntryLaws.{entry_in}
use Rattle.setting.specs.Setting.{setting_of}
use Rattle.setting.proofs.SettingLaws.{SetAt, stands_at}
use Rattle.setting.proofs.BitMaskLaws.{single, single_only, single_has}
use Rattle.leaf.specs.Found.{at_setting}
use Rattle.leaf.specs.Searchable.{Searchable}
use Rattle.leaf.proofs.FoundLaws.{branching-small, setting_from}
use Rattle.leaf.proofs.ModelLaws.{once-place}
use Rattle.search.proofs.AllowedLaws.{barred-formed, barred-listed, barred-size}
use Rattle.search.proofs.QuickLaws.{listed-once}
use Rattle.first.specs.declared.Held.{Held}
use Rattle.first.specs.InHand.{Known, StandingHas, Outlined}
use Rattle.table.specs.declared.Row.{Row}
use Rattle.table.specs.declared.Span.{Span}

-- i branching facts and f facts are passed
pub record OutlinedTo (atoms : List ℕ) (sure : List Bool) (m : Interpretation) (ahead i f : ℕ) : Type 0 where
  pub few : i ≤ length atoms
  pub ahead_in : (k : ℕ) → bit_of ahead k ≡ 1 → (k < i) × ((g : ℕ) → g < get_or atoms k 0 → T (atom_holds m g) → Known atoms sure ahead k g)
  pub passed : (g : ℕ) → g < f → T (atom_holds m g) → Known atoms sure ahead i g

pub not_unsure : (b : Bool) → not b ≡ false → T b
not_unsure true e = tt
not_unsure false e = absurd (false≢true (sym e))

module _ (atoms : List ℕ) (sure : List Bool) (m : Interpretation) where
  pub outlined_start : OutlinedTo atoms sure m 0 0 0
  outlined_start = record { few = omega arith; ahead_in = λ k e. absurd (no_bit k e); passed = λ g h t. absurd (omega arith) }

  module _ (ahead i f : ℕ) (o : OutlinedTo atoms sure m ahead i f) where
    -- the next fact branches
    module _ (low : i < length atoms) (few : length atoms ≤ max_branching) (is : get_or atoms i 0 ≡ f) where
      abbrev more : ℕ
      more = bit_or ahead (single i)

      small : i < 32
      small = omega arith

      grown : (k k' g : ℕ) → k ≤ k' → Known atoms sure ahead k g → Known atoms sure more k' g
      grown k k' g h (inl a) = inl (record { place = a.place; before = omega (arith, a.before); atom_is = a.atom_is; bit = or_left ahead (single i) a.place a.bit })
      grown k k' g h (inr s) = inr s

      in_more : (k : ℕ) → (bit_of ahead k ≡ 1) ⊎ (bit_of (single i) k ≡ 1) → (k < i + 1) × ((g : ℕ) → g < get_or atoms k 0 → T (atom_holds m g) → Known atoms sure more k g)
      in_more k (inl e) = let v = o.ahead_in k e in (omega (arith, v.0), λ g h t. grown k k g (omega arith) (v.1 g h t))
      in_more k (inr e) =
          let q : k ≡ i = single_only i small k e in
          (omega arith, λ g h t. grown i k g (omega arith) (o.passed g (let z : get_or atoms k 0 ≡ f = ap (λ (x : ℕ). get_or atoms x 0) q ∙ is in omega (arith, z)) t))

      passed_more : (g : ℕ) → g < f + 1 → T (atom_holds m g) → Dec (g < f) → Known atoms sure more (i + 1) g
      passed_more g h t (yes l) = grown i (i + 1) g (omega arith) (o.passed g l t)
      passed_more g h t (no l) = inl (record { place = i; before = omega arith; atom_is = is ∙ (let z : f ≡ g = omega arith in z); bit = or_right ahead (single i) i (single_has i small) })

      pub outlined_branching : OutlinedTo atoms sure m more (i + 1) (f + 1)
      outlined_branching = record { few = omega arith; ahead_in = λ k e. in_more k (or_cases ahead (single i) k e); passed = λ g h t. passed_more g h t (dec_lt g f) }

    -- it does not, and is sure if it stands
    pub outlined_other : (T (atom_holds m f) → T (atom_holds sure f)) → OutlinedTo atoms sure m ahead i (f + 1)
    outlined_other s = record { few = o.few; ahead_in = o.ahead_in; passed = λ g h t. go g h t (dec_lt g f) }
      where
        go : (g : ℕ) → g < f + 1 → T (atom_holds m g) → Dec (g < f) → Known atoms sure ahead i g
        go g h t (yes l) = o.passed g l t
        go g h t (no l) = let z : f ≡ g = omega arith in inr (subst (λ (x : ℕ). T (atom_holds sure x)) z (s (subst (λ (x : ℕ). T (atom_holds m x)) (sym z) t)))

    module _ (held : Held) (has : StandingHas atoms m held.standing) (same : held.ahead ≡ ahead) where
      ahead_within : (k : ℕ) → bit_of held.ahead k ≡ 1 → (k < length atoms) × ((g : ℕ) → g < get_or atoms k 0 → T (atom_holds m g) → Known atoms sure held.ahead k g)
      ahead_within k e =
          let v = o.ahead_in k (subst (λ (x : ℕ). bit_of x k ≡ 1) same e) in
          (omega (arith, v.0, o.few), λ g h t. subst (λ (x : ℕ). Known atoms sure x k g) (sym same) (v.1 g h t))

      -- a fact that is neither was met
      pub outlined_part : held.alone ≡ false → Outlined atoms sure m held
      outlined_part z = record { standing_has = has; ahead_in = ahead_within; alone_in = λ y. absurd (false≢true (sym z ∙ y)) }

      -- all facts are passed
      pub outlined_whole : length m ≤ f → Outlined atoms sure m held
      unfolding atom_holds
      outlined_whole l = record { standing_has = has; ahead_in = ahead_within; alone_in = λ y g t. subst (λ (x : ℕ). Known atoms sure x (length atoms) g) (sym same) (wider g (o.passed g (inside g t (dec_lt g f)) t)) }
        where
          wider : (g : ℕ) → Known atoms sure ahead i g → Known atoms sure ahead (length atoms) g
          wider g (inl a) = inl (record { place = a.place; before = omega (arith, a.before, o.few); atom_is = a.atom_is; bit = a.bit })
          wider g (inr s) = inr s

          inside : (g : ℕ) → T (get_or m g false) → Dec (g < f) → g < f
          inside g t (yes h) = h
          inside g t (no h) = absurd (subst T (get_or-eq_default m false {n = g} (omega arith)) t)

-- ---- the branching facts that stand in the model of a setting are those of its mask
module _ {book : List ℕ} {rows : List Row} {atoms : List ℕ} {n : ℕ} (w : Searchable book rows atoms n) (bans : List Span) (standing : ℕ) where
  abbrev B : Program
  B = barred book rows bans n

  setting_has : (m : Interpretation) → m ∈ at_setting B atoms (setting_of atoms standing) → StandingHas atoms m standing
  unfolding atom_holds
  setting_has m k i h t =
      let inside : get_or atoms i 0 ∈ branching_atoms B = subst (λ (l : List ℕ). get_or atoms i 0 ∈ l) (barred-listed w bans) (entry_in atoms i 0 h) in
      let v = setting_from B (barred-formed w bans) (setting_of atoms standing) m (subst (λ (l : List ℕ). m ∈ at_setting B l (setting_of atoms standing)) (barred-listed w bans) k) in
      let low : get_or atoms i 0 < max_atoms = omega (arith, branching-small B (barred-formed w bans) (get_or atoms i 0) inside, barred-size w bans, w.few) in
      let s : SetAt atoms standing (length atoms) (get_or atoms i 0) = stands_at atoms standing (get_or atoms i 0) low (subst T (v.2 (get_or atoms i 0) inside) t) in
      subst (λ (x : ℕ). bit_of standing x ≡ 1) (once-place atoms (listed-once w) s.place i s.before h s.atom_is) s.bit

  module _ (m : Interpretation) (e : at_setting B atoms (setting_of atoms standing) ≡ m ∷ []) where
    found_in : m ∈ at_setting B atoms (setting_of atoms standing)
    found_in = subst (λ (l : List Interpretation). m ∈ l) (sym e) (Memᴰ.head refl)

    pub found_has : StandingHas atoms m standing
    found_has = setting_has m found_in
