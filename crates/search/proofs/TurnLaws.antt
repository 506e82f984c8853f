-- From turn to turn of the recursion: of the facts that are left, the first is decided each way. Used by search and search_first.
-- Assumes nothing.
use mathlib.Core.Path.{◌≡◌, sym, ap, ap₂, subst, ◌∙◌}
use mathlib.Core.Logic.{◌⊎◌, inl, inr, ∥∥₁_elim}
use mathlib.Core.Bool.{Bool, true, false}
use mathlib.Core.List.{List, [], ◌++◌}
use Prim.Native.Nat.{ℕ, ◌+◌, ◌-◌, ◌^◌, ◌<◌, ◌≤◌}
use native.Mathlib.Omega.{arith}
use lib.Bits.{bit_or}
use lib.ListN.{length, get_or, set, take, drop, length-drop, length-append}
use Rattle.base.specs.Bounds.{max_atoms, max_branching}
use Rattle.layers.proofs.BitLaws.{pow-fits}
use Rattle.models.specs.StableModels.{Interpretation}
use Rattle.table.specs.declared.Span.{Span}
use Rattle.setting.specs.Setting.{setting_of}
use Rattle.setting.specs.RuleMasks.{Headed}
use Rattle.setting.proofs.BitMaskLaws.{single}
use Rattle.nogoods.specs.Nogoods.{Violated}
use Rattle.plan.specs.Plan.{Planned}
use Rattle.std.proofs.Props.{props}
use Rattle.search.proofs.ReadyLaws.{space_searchable}
use Rattle.leaf.specs.Found.{at_setting, found_by}
use Rattle.leaf.proofs.FoundLaws.{found_le}
use Rattle.search.specs.declared.Goal.{Goal}
use Rattle.search.specs.declared.space.Space.{Space}
use Rattle.search.specs.declared.Turn.{Turn}
use Rattle.search.specs.declared.Visit.{Visit}
use Rattle.search.specs.Decided.{Decided, undecided, decided_turn, Turned}
use Rattle.search.specs.Space.{space_atoms, space_program, models_at, models_left}
use Rattle.search.specs.Visits.{RoomFor, Kept, Searched, Combines}
use Rattle.search.proofs.QuickLaws as quick
use Rattle.search.proofs.KeptLaws.{room_less, room-same}
use Rattle.search.proofs.VisitLaws.{searched-count, seen_few, kept-after, searched_combined}
use Rattle.search.proofs.StepLaws as steps

pub undecided-length : (atoms : List ℕ) (left : ℕ) → left ≤ length atoms → length (undecided atoms left) ≡ left
undecided-length atoms left h = length-drop (length atoms - left) atoms ∙ omega arith

-- nothing is decided at first
pub turned_start : (atoms : List ℕ) (left : ℕ) → left ≡ length atoms → Turned atoms (record { left = left; standing = 0; denied = 0 })
turned_start atoms left e = record { few = omega arith; decided = subst (λ (l : List ℕ). Decided atoms l (setting_of atoms 0) 0 0) whole (quick.decided-start atoms) }
  where
    whole : atoms ≡ undecided atoms left
    whole = ap (λ (k : ℕ). drop k atoms) {x = 0} {y = length atoms - left} (omega arith)

module _ (s : Space) {turn : Turn} (t : Turned (space_atoms s) turn) where
  abbrev atoms : List ℕ
  atoms = space_atoms s

  abbrev bans : List Span
  bans = s.bans.spans.now

  abbrev U : List ℕ
  U = undecided atoms turn.left

  abbrev O : Interpretation
  O = setting_of atoms turn.standing

  abbrev leaf : Interpretation → List Interpretation
  leaf = at_setting (space_program s) atoms

  -- the quick tests failed: there is nothing to find
  pub none_promised : (r : Bool)
      → (r ≡ false → (Headed s.plan.now.heads turn.standing turn.denied → ⊥) ⊎ Violated s.plan.now.nogoods turn.standing turn.denied)
      → r ≡ false → models_left s turn ≡ []
  none_promised r told e = ∥∥₁_elim s.ready (Prim.hlevel props) (λ ready. go ready.planned (told e))
    where
      go : Planned s.table.book.now s.table.rows.now s.bans.spans.now atoms s.plan.now
          → (Headed s.plan.now.heads turn.standing turn.denied → ⊥) ⊎ Violated s.plan.now.nogoods turn.standing turn.denied
          → models_left s turn ≡ []
      go planned (inl f) = quick.none_headed (space_searchable s) bans planned.rule_masks O t.decided f
      go planned (inr x) = quick.none_allowed (space_searchable s) bans planned.rule_masks O t.decided planned.nogood_masks x

  -- no fact is left: the setting itself
  pub leaf_is : turn.left ≡ 0 → models_left s turn ≡ models_at s turn.standing
  leaf_is e = steps.found_at_leaf leaf U O (undecided-length atoms turn.left t.few ∙ e)

  module _ (e : turn.left ≡ 0) (goal : Goal) (v : Visit) (p : List ℕ) where
    pub leaf_kept : Kept goal s.plan.now.n (length (models_left s turn)) v p → Kept goal s.plan.now.n (length (models_at s turn.standing)) v p
    leaf_kept k = subst (λ (ms : List Interpretation). Kept goal s.plan.now.n (length ms) v p) (leaf_is e) k

    pub leaf_searched : (v' : Visit) (p' : List ℕ) → Searched goal s.plan.now.n (models_at s turn.standing) v p v' p' → Searched goal s.plan.now.n (models_left s turn) v p v' p'
    leaf_searched v' p' k = subst (λ (ms : List Interpretation). Searched goal s.plan.now.n ms v p v' p') (sym (leaf_is e)) k

  -- a fact is left, the i-th
  module _ (some : turn.left ≡ 0 → ⊥) (i : ℕ) (ei : i ≡ length (space_atoms s) - turn.left) where
    -- which there is
    pub at_small : i < max_branching
    at_small = omega (arith, ei, some, t.few, (space_searchable s).atoms_few)

    size : length U ≡ turn.left
    size = undecided-length atoms turn.left t.few

    not_none : length U ≡ 0 → ⊥
    not_none e = some (sym size ∙ e)

    low : get_or U 0 0 < max_atoms
    low = quick.first_small (space_searchable s) U O turn.standing turn.denied t.decided not_none

    abbrev later : List ℕ
    later = take (length U - 1) (drop 1 U)

    later-size : length later ≡ turn.left - 1
    later-size = omega (arith, steps.later-length leaf U O not_none, size)

    shift : length atoms - length U ≡ i
    shift = ap (λ (k : ℕ). length atoms - k) size ∙ sym ei

    bit_is : single (length atoms - length U) ≡ 2 ^ i
    bit_is = ap single shift ∙ pow-fits i (omega (arith, at_small))

    later_is : (o : Interpretation) (a b : ℕ) → Decided atoms later o a b → later ≡ undecided atoms (turn.left - 1)
    later_is o a b d = d.last ∙ ap (λ (k : ℕ). drop (length atoms - k) atoms) later-size

    turn_with : (a b : ℕ) → Decided atoms later (setting_of atoms a) a b → Turned atoms (record { left = turn.left - 1; standing = a; denied = b })
    turn_with a b d = record { few = omega (arith, t.few); decided = subst (λ (l : List ℕ). Decided atoms l (setting_of atoms a) a b) (later_is (setting_of atoms a) a b d) d }

    first_decided : Decided atoms later O turn.standing (bit_or turn.denied (2 ^ i))
    first_decided = subst (λ (x : ℕ). Decided atoms later O turn.standing (bit_or turn.denied x)) bit_is (quick.decided_first atoms (quick.listed-once (space_searchable s)) (space_searchable s).atoms_few U turn.standing turn.denied t.decided not_none low)

    second_decided : Decided atoms later (setting_of atoms (bit_or turn.standing (2 ^ i))) (bit_or turn.standing (2 ^ i)) turn.denied
    second_decided = subst (λ (x : ℕ). Decided atoms later (setting_of atoms (bit_or turn.standing x)) (bit_or turn.standing x) turn.denied) bit_is (quick.decided_second atoms (quick.listed-once (space_searchable s)) (space_searchable s).atoms_few U turn.standing turn.denied t.decided not_none low)

    later_same : later ≡ undecided atoms (turn.left - 1)
    later_same = later_is O turn.standing (bit_or turn.denied (2 ^ i)) first_decided

    -- the turns of the two halves
    module _ {first second : Turn} (e₁ : first ≡ decided_turn turn i false) (e₂ : second ≡ decided_turn turn i true) where
      pub turned_first : Turned atoms first
      turned_first = subst (Turned atoms) (sym e₁) (turn_with turn.standing (bit_or turn.denied (2 ^ i)) first_decided)

      pub turned_second : Turned atoms second
      turned_second = subst (Turned atoms) (sym e₂) (turn_with (bit_or turn.standing (2 ^ i)) turn.denied second_decided)

      -- the two halves are the whole
      pub halves_are : models_left s turn ≡ models_left s first ++ models_left s second
      halves_are =
          steps.both_halves leaf U O not_none O (quick.first_half_lem atoms (quick.listed-once (space_searchable s)) (space_searchable s).atoms_few U turn.standing turn.denied t.decided not_none low)
          (setting_of atoms (bit_or turn.standing (2 ^ i))) (subst (λ (x : ℕ). set (set O (get_or U 0 0) false) (get_or U 0 0) true ≡ setting_of atoms (bit_or turn.standing x)) bit_is (quick.second_half_lem atoms (quick.listed-once (space_searchable s)) (space_searchable s).atoms_few U turn.standing turn.denied t.decided not_none low))
          ∙ ap (λ (l : List ℕ). found_by leaf l O ++ found_by leaf l (setting_of atoms (bit_or turn.standing (2 ^ i)))) later_same
          ∙ sym (ap₂ (λ (x y : Turn). models_left s x ++ models_left s y) e₁ e₂)

      halves_count : length (models_left s turn) ≡ length (models_left s first) + length (models_left s second)
      halves_count = ap length halves_are ∙ length-append (models_left s first) (models_left s second)

      half_few : (h : Turn) → h.left ≡ turn.left - 1 → length (models_left s h) ≤ 2 ^ (turn.left - 1)
      half_few h e =
          let f : length (models_left s h) ≤ 2 ^ length (undecided atoms h.left) = found_le leaf (steps.leaf_one s.table.book.now s.table.rows.now bans atoms s.plan.now.n (space_searchable s)) (undecided atoms h.left) (setting_of atoms h.standing) in
          subst (λ (k : ℕ). length (models_left s h) ≤ 2 ^ k) (undecided-length atoms h.left (omega (arith, e, t.few)) ∙ e) f

      left_first : first.left ≡ turn.left - 1
      left_first = ap (λ (h : Turn). h.left) e₁

      left_second : second.left ≡ turn.left - 1
      left_second = ap (λ (h : Turn). h.left) e₂

      pub first_fits : (c : ℕ) → c + 2 ^ turn.left ≤ steps.limit → c + 2 ^ first.left ≤ steps.limit
      first_fits c h = subst (λ (k : ℕ). c + 2 ^ k ≤ steps.limit) (sym left_first) (steps.half_fits c c turn.left some (omega arith) h)

      abbrev n : ℕ
      n = s.plan.now.n

      module _ (goal : Goal) (v : Visit) (p : List ℕ) (k : Kept goal n (length (models_left s turn)) v p) where
        halves_kept : Kept goal n (length (models_left s first) + length (models_left s second)) v p
        halves_kept = subst (λ (x : ℕ). Kept goal n x v p) halves_count k

        pub first_kept : Kept goal n (length (models_left s first)) v p
        first_kept = record {
          asks = k.asks;
          room = room_less goal n (v.count + length (models_left s first)) (v.count + (length (models_left s first) + length (models_left s second))) p (omega arith) halves_kept.room;
          light = k.light;
        }

        module _ (v₁ : Visit) (p₁ : List ℕ) (a : Searched goal n (models_left s first) v p v₁ p₁) where
          pub second_kept : length p₁ ≡ length p → Kept goal n (length (models_left s second)) v₁ p₁
          second_kept l = kept-after goal n (models_left s first) v p v₁ p₁ a (length (models_left s second)) l halves_kept

          second_fits : v.count + 2 ^ turn.left ≤ steps.limit → v₁.count + 2 ^ (turn.left - 1) ≤ steps.limit
          second_fits h = steps.half_fits v.count v₁.count turn.left some (omega (arith, searched-count goal n (models_left s first) v p v₁ p₁ a, seen_few goal n (models_left s first) v p v₁ p₁ a, half_few first left_first)) h

          pub second_left : v.count + 2 ^ turn.left ≤ steps.limit → v₁.count + 2 ^ second.left ≤ steps.limit
          second_left h = subst (λ (k : ℕ). v₁.count + 2 ^ k ≤ steps.limit) (sym left_second) (second_fits h)

          module _ (v₂ : Visit) (p₂ : List ℕ) (b : Searched goal n (models_left s second) v₁ p₁ v₂ p₂) where
            end_low : v₂.count ≤ v.count + (length (models_left s first) + length (models_left s second))
            end_low = omega (
              arith,
              searched-count goal n (models_left s first) v p v₁ p₁ a,
              seen_few goal n (models_left s first) v p v₁ p₁ a,
              searched-count goal n (models_left s second) v₁ p₁ v₂ p₂ b,
              seen_few goal n (models_left s second) v₁ p₁ v₂ p₂ b,
            )

            both_room : RoomFor goal n v₂.count p
            both_room = room_less goal n v₂.count (v.count + (length (models_left s first) + length (models_left s second))) p end_low halves_kept.room

            -- what `combine` asks
            pub combine_counts : v.count + 2 ^ turn.left ≤ steps.limit → (v.count ≤ v₁.count) × (v₁.count ≤ v₂.count) × (v₂.count ≤ steps.limit)
            combine_counts h = (
              omega (arith, searched-count goal n (models_left s first) v p v₁ p₁ a),
              omega (arith, searched-count goal n (models_left s second) v₁ p₁ v₂ p₂ b),
              omega (arith, second_fits h, searched-count goal n (models_left s second) v₁ p₁ v₂ p₂ b, seen_few goal n (models_left s second) v₁ p₁ v₂ p₂ b, half_few second left_second),
            )

            pub combine_room : length p₂ ≡ length p → RoomFor goal n v₂.count p₂
            combine_room l = room-same goal n v₂.count p p₂ l both_room

            pub both_searched : (p₃ : List ℕ) → Combines goal n v.count v₁.count v₂.count p₂ p₃ → Searched goal n (models_left s turn) v p v₂ p₃
            both_searched p₃ j =
                subst (λ (ms : List Interpretation). Searched goal n ms v p v₂ p₃) (sym halves_are) (searched_combined goal n (models_left s first) (models_left s second) v p v₁ p₁ v₂ p₂ p₃ a b both_room j)
