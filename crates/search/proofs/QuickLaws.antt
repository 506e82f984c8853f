-- The quick tests pass wherever there is a stable model: each branching atom that stands in it is the head of a rule whose body holds in
-- it, so nothing that is decided denies a literal of that body; and it has no nogood. Used by search. Assumes nothing.
use mathlib.Core.Path.{◌≡◌, refl, sym, ap, subst, ◌∙◌}
use mathlib.Core.Logic.{⊎_elim}
use mathlib.Core.Bool.{Bool, true, false, not, cond, false≢true}
use mathlib.Core.List.Memᴰ
use mathlib.Core.List.{List, [], ◌∷◌}
use Prim.Native.Nat.{ℕ, zero, suc, ◌-◌, ◌<◌, ◌≤◌}
use native.Mathlib.Decide.{ℕ_discrete}
use native.Mathlib.Omega.{arith}
use lib.Bits.{bit_and, bit_or}
use lib.Dec.{T, T_not}
use lib.ListN.{length, get_or, set, take, drop, length-set}
use lib.Seq.{drop-cons, take_all, set-set, get_or-set_same, get_or-set_other}
use Rattle.base.specs.Bounds.{max_atoms, max_branching}
use Rattle.base.proofs.Members.{◌∈◌}
use Rattle.layers.specs.Masks.{bit_of}
use Rattle.layers.proofs.BitLaws.{no_bit, or_cases, and_first, and_second, some-bit}
use Rattle.format.specs.Book.{Literal, Rule}
use Rattle.models.specs.Program.{Program, constrained}
use Rattle.models.specs.StableModels.{Interpretation, atom_holds, positive, negative, complement, signed, holds, Derived, by_default, by_rule, StableModel}
use Rattle.models.specs.Branching.{branching_atoms}
use Rattle.table.specs.Rows.{row_count, head_name, row_at}
use Rattle.table.specs.Tabled.{tabled}
use Rattle.bans.specs.Bans.{body_of, bodies_of, barred}
use Rattle.table.proofs.RowLaws.{row_in, row_of}
use Rattle.setting.specs.Setting.{setting_of}
use Rattle.setting.specs.RuleMasks.{AtomBits, RuleMask, MaskOf, RuleMasks, Open, Headed}
use Rattle.setting.specs.declared.HeadMasks.{HeadMasks}
use Rattle.setting.proofs.BitMaskLaws.{single, single_only}
use Rattle.setting.proofs.SettingLaws.{setting_size, setting_false, setting_true}
use Rattle.nogoods.specs.declared.Nogood.{Nogood}
use Rattle.nogoods.specs.Nogoods.{Rejectable, Within, NogoodOf, NogoodAt, of_row, of_ban, Nogoods, Violated}
use Rattle.insertion.proofs.Once.{Once}
use Rattle.base.proofs.EntryLaws.{entry_in}
use Rattle.leaf.specs.Found.{at_setting, found_by}
use Rattle.search.specs.Decided.{DecidedAt, Decided}
use Rattle.search.proofs.AllowedLaws.{barred-formed, barred-listed, barred_model}
use Rattle.search.proofs.RejectableLaws.{never-rejected}
use Rattle.leaf.specs.Searchable.{Searchable}
use Rattle.leaf.proofs.FoundLaws.{branching-small, branching-once, found_decided}
use Rattle.table.specs.declared.Row.{Row}
use Rattle.table.specs.declared.Span.{Span}

-- a mask with no bit
none-set : (a : ℕ) → ((i : ℕ) → bit_of a i ≡ 1 → ⊥) → a ≡ 0
none-set a none = go (ℕ_discrete a 0)
  where
    go : Dec (a ≡ 0) → a ≡ 0
    go (yes e) = e
    go (no n) = let x : (i : ℕ) × (bit_of a i ≡ 1) = some-bit (suc a) a (omega arith) (omega arith) in absurd (none x.0 x.1)

module _ {book : List ℕ} {rows : List Row} {atoms : List ℕ} {n : ℕ} (w : Searchable book rows atoms n) (bans : List Span) {masks : List HeadMasks}
    (k : RuleMasks book rows atoms masks) {undecided : List ℕ} (o : Interpretation) {standing denied : ℕ} (s : Decided atoms undecided o standing denied) where
  -- the rules alone, and with the constraints
  abbrev P : Program
  P = tabled book rows n

  abbrev B : Program
  B = barred book rows bans n

  module _ (m : Interpretation) (sm : StableModel P m) (same : (f : ℕ) → f ∈ branching_atoms P → (f ∈ undecided → ⊥) → atom_holds m f ≡ atom_holds o f) where
    listed_at : (i : ℕ) → i < length atoms → get_or atoms i 0 ∈ branching_atoms P
    listed_at i h = subst (λ (l : List ℕ). get_or atoms i 0 ∈ l) w.listed (entry_in atoms i 0 h)

    agrees_at_lem : (i : ℕ) → DecidedAt atoms undecided i → atom_holds m (get_or atoms i 0) ≡ atom_holds o (get_or atoms i 0)
    agrees_at_lem i d = same (get_or atoms i 0) (listed_at i d.0) d.1

    -- a plain name that is derived is the head of a rule whose body holds
    record Supporter (l : Literal) : Type 0 where
      rule : Rule
      inside : rule ∈ P.rules
      head_is : rule.head ≡ l
      body_holds_lem : (x : Literal) → x ∈ rule.body → T (holds m x)

    supporter : (l : Literal) → Derived P m l → l.negated ≡ false → Supporter l
    supporter l (by_default f h d) e = absurd (false≢true (sym e))
    supporter l (by_rule r i u below) e = record {
      rule = r;
      inside = i;
      head_is = λ j. r.head;
      body_holds_lem = λ x q. (sm.exact x (w.formed.bodies r i x q)).0 (below x q);
    }

    plain_holds : (f : ℕ) → T (holds m (positive f)) → T (atom_holds m f)
    unfolding holds signed
    plain_holds f t = t

    holds_plain : (f : ℕ) → T (atom_holds m f) → T (holds m (positive f))
    unfolding holds signed
    holds_plain f t = t

    negated-holds : (f : ℕ) → T (holds m (negative f)) → T (not (atom_holds m f))
    unfolding holds signed
    negated-holds f t = t

    -- a row whose body holds in the model is open, in the masks of its entry
    open_row : (j : ℕ) (p : HeadMasks) → RuleMask atoms (row_at book rows j) p → ((x : Literal) → x ∈ (row_at book rows j).body → T (holds m x)) → Open p standing denied
    open_row j p r body_holds_lem =
        none-set (bit_or (bit_and p.plain denied) (bit_and p.negated standing))
        (λ i z. ⊎_elim
        (λ c.
        let d = s.denied_in i (and_second p.plain denied i c) in
        T_not (atom_holds o (get_or atoms i 0)) d.1 (subst T (agrees_at_lem i d.0) (plain_holds (get_or atoms i 0) (body_holds_lem (positive (get_or atoms i 0)) (r.plain_in i (and_first p.plain denied i c))))))
        (λ c.
        let d = s.standing_in i (and_second p.negated standing i c) in
        T_not (atom_holds m (get_or atoms i 0)) (negated-holds (get_or atoms i 0) (body_holds_lem (negative (get_or atoms i 0)) (r.negated_in i (and_first p.negated standing i c)))) (subst T (sym (agrees_at_lem i d.0)) d.1))
        (or_cases (bit_and p.plain denied) (bit_and p.negated standing) i z))

    all_headed : Headed masks standing denied
    all_headed i z =
        let d = s.standing_in i z in
        let f : ℕ = get_or atoms i 0 in
        let h : f < P.atoms = branching-small P w.formed f (listed_at i d.0.0) in
        let y : Derived P m (positive f) = (sm.exact (positive f) h).1 (holds_plain f (subst T (sym (agrees_at_lem i d.0)) d.1)) in
        let x : Supporter (positive f) = supporter (positive f) y (λ j. false) in
        let v : (j : ℕ) × (j < row_count rows) × (row_at book rows j ≡ x.rule) = row_of book rows x.rule (subst (λ (rs : List Rule). x.rule ∈ rs) (sym w.table.rules) x.inside) in
        let h : (row_at book rows v.0).head ≡ positive f = ap (λ (r : Rule). r.head) v.2 ∙ x.head_is in
        let e : MaskOf book rows atoms masks v.0 = k.each v.0 i v.1 d.0.0 h in (
          e.entry,
          e.listed,
          open_row v.0 e.entry e.mask (λ l q. x.body_holds_lem l (subst (λ (r : Rule). l ∈ r.body) v.2 q)),
          e.mask.head_in i d.0.0 h,
        )

    -- what the masks of a nogood have, decided so, holds in the model
    module _ {bits : List ℕ} (ab : AtomBits atoms bits (length atoms)) (ng : Nogood) (es : bit_and ng.standing standing ≡ ng.standing) (ed : bit_and ng.denied denied ≡ ng.denied) where
      within-holds : (l : Literal) → Within bits ng l → T (holds m l)
      unfolding holds signed
      within-holds l x = subst (λ (f : ℕ). T (signed l.negated (atom_holds m f))) (ab.sound l.atom x.place x.atom_bit).1 (go l.negated x.bit)
        where
          i : ℕ
          i = x.place

          go : (c : Bool) → bit_of (cond c ng.denied ng.standing) i ≡ 1 → T (signed c (atom_holds m (get_or atoms i 0)))
          go true z = let d = s.denied_in i (and_second ng.denied denied i (subst (λ (y : ℕ). bit_of y i ≡ 1) (sym ed) z)) in subst (λ (y : Bool). T (not y)) (sym (agrees_at_lem i d.0)) d.1
          go false z = let d = s.standing_in i (and_second ng.standing standing i (subst (λ (y : ℕ). bit_of y i ≡ 1) (sym es) z)) in subst T (sym (agrees_at_lem i d.0)) d.1

    -- so no nogood of a row is decided
    no_row_nogood : {rejectable bits : List ℕ} → Rejectable rows rejectable (row_count rows) → (ng : Nogood) (j : ℕ) → ((l : Literal) → Within bits ng l → T (holds m l)) → NogoodOf book rows rejectable bits j ng → ⊥
    unfolding row_at holds signed complement
    no_row_nogood all ng j inside y =
        let r : Rule = row_at book rows j in
        let i : r ∈ P.rules = subst (λ (rs : List Rule). r ∈ rs) w.table.rules (row_in book rows j y.before) in
        let derived : Derived P m r.head =
        by_rule r i (never-rejected n w.table m all r i (head_name rows j) (w.table.fits.bounded.name j y.before) refl y.lives)
        (λ l q. (sm.exact l (w.formed.bodies r i l q)).1 (inside l (y.body_in l q)))
        in
        apart r.head ((sm.exact r.head (w.formed.heads r i)).0 derived) (inside (complement r.head) y.head_in)
      where
        go : (c b : Bool) → T (signed c b) → T (signed (not c) b) → ⊥
        go true b t u = T_not b t u
        go false b t u = T_not b u t

        apart : (l : Literal) → T (holds m l) → T (holds m (complement l)) → ⊥
        apart l = go l.negated (atom_holds m l.atom)

    -- nor one of a constraint
    no_nogood : {nogoods : List Nogood} → StableModel B m → Nogoods book rows bans atoms nogoods → Violated nogoods standing denied → ⊥
    unfolding constrained bodies_of
    no_nogood bm g x = go (g.each x.nogood x.listed)
      where
        inside : (l : Literal) → Within g.bits x.nogood l → T (holds m l)
        inside = within-holds g.bits_of x.nogood x.decided.0 x.decided.1

        go : NogoodAt book rows bans g.rejectable g.bits x.nogood → ⊥
        go (of_row j y) = no_row_nogood g.rejects_all x.nogood j inside y
        go (of_ban ban k y) = bm.allowed (body_of book ban) (Memᴰ.map (body_of book) k) (λ l q. inside l (y l q))

  -- where no model agrees with what is decided there is nothing to find
  nothing_found : ((m : Interpretation) → StableModel B m → ((f : ℕ) → f ∈ branching_atoms P → (f ∈ undecided → ⊥) → atom_holds m f ≡ atom_holds o f) → ⊥) → found_by (at_setting B atoms) undecided o ≡ []
  nothing_found none =
      ap (λ (l : List ℕ). found_by (at_setting B l) undecided o) (barred-listed w bans)
      ∙ empty (found_by (at_setting B (branching_atoms B)) undecided o)
      (λ m q.
      let v = found_decided B (barred-formed w bans) undecided o m q in
      none m v.0 (subst (λ (l : List ℕ). (f : ℕ) → f ∈ l → (f ∈ undecided → ⊥) → atom_holds m f ≡ atom_holds o f) (sym (barred-listed w bans) ∙ w.listed) v.1))
    where
      empty : (ms : List Interpretation) → ((m : Interpretation) → m ∈ ms → ⊥) → ms ≡ []
      empty [] h = refl
      empty (m ∷ ms) h = absurd (h m (Memᴰ.head refl))

  -- a test failed: there is nothing to find
  pub none_headed : (Headed masks standing denied → ⊥) → found_by (at_setting B atoms) undecided o ≡ []
  none_headed told = nothing_found (λ m sm same. told (all_headed m (barred_model w bans m sm) same))

  pub none_allowed : {nogoods : List Nogood} → Nogoods book rows bans atoms nogoods → Violated nogoods standing denied → found_by (at_setting B atoms) undecided o ≡ []
  none_allowed g x = nothing_found (λ m sm same. no_nogood m (barred_model w bans m sm) same sm g x)

-- ---- what is decided, from call to call
pub listed-once : {book : List ℕ} {rows : List Row} {atoms : List ℕ} {n : ℕ} → Searchable book rows atoms n → Once atoms
listed-once {book} {rows} {n = n} w = subst Once (sym w.listed) (branching-once (tabled book rows n) w.formed)

pub decided-start : (atoms : List ℕ) → Decided atoms atoms (setting_of atoms 0) 0 0
decided-start atoms = record {
  size = setting_size atoms 0;
  few = omega arith;
  last = let z : length atoms - length atoms ≡ 0 = omega arith in ap (λ (k : ℕ). drop k atoms) (sym z);
  standing_in = λ i z. absurd (no_bit i z);
  denied_in = λ i z. absurd (no_bit i z);
}

once-drop : (i : ℕ) (xs : List ℕ) → Once xs → Once (drop i xs)
once-drop zero xs w = w
once-drop (suc i) [] w = tt
once-drop (suc i) (x ∷ xs) w = once-drop i xs w.1

-- one atom more is decided: f, the first of the undecided ones, the i-th of all
module _ (atoms : List ℕ) (once : Once atoms) (few : length atoms ≤ max_branching) (undecided : List ℕ) (o : Interpretation) (standing denied : ℕ) (s : Decided atoms undecided o standing denied)
    (some : length undecided ≡ 0 → ⊥) (f : ℕ) (ef : f ≡ get_or undecided 0 0) (bf : f < max_atoms) where
  abbrev i : ℕ
  i = length atoms - length undecided

  abbrev later : List ℕ
  later = take (length undecided - 1) (drop 1 undecided)

  before_end : i < length atoms
  before_end = omega (arith, s.few)

  split : undecided ≡ get_or atoms i 0 ∷ drop (suc i) atoms
  split = s.last ∙ drop-cons atoms i 0 before_end

  f_is : get_or atoms i 0 ≡ f
  f_is = sym (ef ∙ ap (λ (l : List ℕ). get_or l 0 0) split)

  later_is : later ≡ drop (suc i) atoms
  later_is = ap (λ (l : List ℕ). take (length l - 1) (drop 1 l)) split ∙ take_all (length (get_or atoms i 0 ∷ drop (suc i) atoms) - 1) (drop (suc i) atoms) (omega arith)

  later-size : length undecided ≡ suc (length later)
  later-size = ap length split ∙ ap (λ (l : List ℕ). suc (length l)) (sym later_is)

  first_in : f ∈ undecided
  first_in = subst (λ (l : List ℕ). f ∈ l) (sym split) (Memᴰ.head (sym f_is))

  later_in : (g : ℕ) → g ∈ later → g ∈ undecided
  later_in g m = subst (λ (l : List ℕ). g ∈ l) (sym split) (Memᴰ.tail (subst (λ (l : List ℕ). g ∈ l) later_is m))

  not-later : f ∈ later → ⊥
  not-later m =
      (subst Once (drop-cons atoms i 0 before_end) (once-drop i atoms once)).0
      (subst (λ (g : ℕ). g ∈ drop (suc i) atoms) (sym f_is) (subst (λ (l : List ℕ). f ∈ l) later_is m))

  -- an atom decided before stays as it was
  module _ (p : ℕ) (d : DecidedAt atoms undecided p) where
    still : DecidedAt atoms later p
    still = (d.0, λ m. d.1 (later_in (get_or atoms p 0) m))

    not_first : get_or atoms p 0 ≡ f → ⊥
    not_first e = d.1 (subst (λ (g : ℕ). g ∈ undecided) (sym e) first_in)

  now_decided : (p : ℕ) → p ≡ i → DecidedAt atoms later p
  now_decided p e = subst (DecidedAt atoms later) (sym e) (before_end, λ m. not-later (subst (λ (g : ℕ). g ∈ later) f_is m))

  low : i < 32
  low = omega arith

  suffix : later ≡ drop (length atoms - length later) atoms
  suffix = later_is ∙ (let e : suc i ≡ length atoms - length later = omega (arith, later-size, s.few) in ap (λ (x : ℕ). drop x atoms) e)

  decided_false : Decided atoms later (set o f false) standing (bit_or denied (single i))
  unfolding atom_holds
  decided_false = record {
    size = length-set o f false ∙ s.size;
    few = omega (arith, later-size, s.few);
    last = suffix;
    standing_in = λ p z. let d = s.standing_in p z in (still p d.0, subst T (sym (get_or-set_other o f (get_or atoms p 0) false false (not_first p d.0))) d.1);
    denied_in = λ p z. ⊎_elim
        (λ a. let d = s.denied_in p a in (still p d.0, subst (λ (c : Bool). T (not c)) (sym (get_or-set_other o f (get_or atoms p 0) false false (not_first p d.0))) d.1))
        (λ a.
        let e : p ≡ i = single_only i low p a in
        (now_decided p e, subst (λ (c : Bool). T (not c)) (sym (ap (λ (x : ℕ). get_or (set o f false) x false) (ap (λ (x : ℕ). get_or atoms x 0) e ∙ f_is) ∙ get_or-set_same o f false false (omega (arith, s.size)))) tt))
        (or_cases denied (single i) p z);
  }

  decided_true : Decided atoms later (set (set o f false) f true) (bit_or standing (single i)) denied
  unfolding atom_holds
  decided_true = rw (set-set o f false true) (record {
    size = length-set o f true ∙ s.size;
    few = omega (arith, later-size, s.few);
    last = suffix;
    standing_in = λ p z. ⊎_elim
        (λ a. let d = s.standing_in p a in (still p d.0, subst T (sym (get_or-set_other o f (get_or atoms p 0) true false (not_first p d.0))) d.1))
        (λ a.
        let e : p ≡ i = single_only i low p a in
        (now_decided p e, subst T (sym (ap (λ (x : ℕ). get_or (set o f true) x false) (ap (λ (x : ℕ). get_or atoms x 0) e ∙ f_is) ∙ get_or-set_same o f true false (omega (arith, s.size)))) tt))
        (or_cases standing (single i) p z);
    denied_in = λ p z. let d = s.denied_in p z in (still p d.0, subst (λ (c : Bool). T (not c)) (sym (get_or-set_other o f (get_or atoms p 0) true false (not_first p d.0))) d.1);
  })

-- the same for the setting that the masks stand for, as the two halves of the search have it
module _ (atoms : List ℕ) (once : Once atoms) (few : length atoms ≤ max_branching) (undecided : List ℕ) (standing denied : ℕ) (s : Decided atoms undecided (setting_of atoms standing) standing denied)
    (some : length undecided ≡ 0 → ⊥) (bf : get_or undecided 0 0 < max_atoms) where
  abbrev X : Interpretation
  X = setting_of atoms standing

  abbrev f : ℕ
  f = get_or undecided 0 0

  unset : (k : ℕ) → bit_of standing k ≡ 1 → get_or atoms k 0 ≡ f → ⊥
  unset k z e = not_first atoms once few undecided X standing denied s some f refl bf k (s.standing_in k z).0 e

  pub first_half_lem : set X f false ≡ setting_of atoms standing
  first_half_lem =
      setting_false atoms standing (length atoms - length undecided) f (before_end atoms once few undecided X standing denied s some f refl bf) (low atoms once few undecided X standing denied s some f refl bf)
      (f_is atoms once few undecided X standing denied s some f refl bf) bf unset

  pub second_half_lem : set (set X f false) f true ≡ setting_of atoms (bit_or standing (single (length atoms - length undecided)))
  second_half_lem =
      setting_true atoms standing (length atoms - length undecided) f (before_end atoms once few undecided X standing denied s some f refl bf) (low atoms once few undecided X standing denied s some f refl bf)
      (f_is atoms once few undecided X standing denied s some f refl bf) bf unset

  pub decided_first : Decided atoms (take (length undecided - 1) (drop 1 undecided)) (setting_of atoms standing) standing (bit_or denied (single (length atoms - length undecided)))
  decided_first =
      subst (λ (o : Interpretation). Decided atoms (take (length undecided - 1) (drop 1 undecided)) o standing (bit_or denied (single (length atoms - length undecided)))) first_half_lem
      (decided_false atoms once few undecided X standing denied s some f refl bf)

  pub decided_second : Decided atoms (take (length undecided - 1) (drop 1 undecided)) (setting_of atoms (bit_or standing (single (length atoms - length undecided)))) (bit_or standing (single (length atoms - length undecided))) denied
  decided_second =
      subst (λ (o : Interpretation). Decided atoms (take (length undecided - 1) (drop 1 undecided)) o (bit_or standing (single (length atoms - length undecided))) denied) second_half_lem
      (decided_true atoms once few undecided X standing denied s some f refl bf)

-- an undecided atom is one that there may be
pub first_small : {book : List ℕ} {rows : List Row} {atoms : List ℕ} {n : ℕ} (w : Searchable book rows atoms n) (undecided : List ℕ) (o : Interpretation) (standing denied : ℕ)
    → Decided atoms undecided o standing denied → (length undecided ≡ 0 → ⊥) → get_or undecided 0 0 < max_atoms
first_small {book} {rows} {atoms = atoms} {n = n} w undecided o standing denied s some =
    let h : length atoms - length undecided < length atoms = omega (arith, s.few) in
    let e : get_or undecided 0 0 ≡ get_or atoms (length atoms - length undecided) 0 = ap (λ (l : List ℕ). get_or l 0 0) (s.last ∙ drop-cons atoms (length atoms - length undecided) 0 h) in
    let m : get_or atoms (length atoms - length undecided) 0 ∈ branching_atoms (tabled book rows n) = subst (λ (l : List ℕ). get_or atoms (length atoms - length undecided) 0 ∈ l) w.listed (entry_in atoms (length atoms - length undecided) 0 h) in
    omega (arith, branching-small (tabled book rows n) w.formed (get_or atoms (length atoms - length undecided) 0) m, w.size, w.few)
