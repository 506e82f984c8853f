-- What is promised of the closest state, by the inductive definition of a stable state. Assumes nothing.
use mathlib.Core.Path.{◌≡◌, refl, sym, ap, ap₂, subst, ◌∙◌}
use mathlib.Core.Logic.{◌⊎◌, inl, inr}
use mathlib.Core.Bool.{Bool, true, false, not, beq}
use mathlib.Core.List.Memᴰ
use mathlib.Core.List.{List, [], ◌∷◌, ◌++◌, map, append-nil}
use Prim.Native.Nat.{ℕ, ◌<◌, ◌≤◌}
use native.Mathlib.Omega.{arith}
use borrow.Author.Tests.{ltb-true}
use lib.Dec.{T, ltb}
use lib.ListN.{length, get_or, take, drop}
use lib.Seq.{ext_get_or}
use Rattle.base.specs.Lists.{flat, filter, up_to}
use Rattle.base.proofs.Members.{◌∈◌, filter_into}
use Rattle.base.proofs.UpTo.{passed, up_to_has}
use Rattle.format.specs.Book.{book_of}
use Rattle.base.proofs.EntryLaws.{entry_in}
use Rattle.models.specs.Program.{Program, program_at}
use Rattle.models.specs.StableModels.{Interpretation, atom_holds, StableModel}
use Rattle.models.specs.Listing.{stable_models, record_size, record_of, interpretation_of}
use Rattle.models.proofs.AlikeLaws.{filter_none}
use Rattle.models.proofs.LeastLaws.{beq_same, beq_refl}
use Rattle.models.proofs.ListingLaws.{stable_models-length}
use Rattle.models.proofs.InterpretationLaws.{◌⊏◌}
use Rattle.table.specs.Table.{program_of}
use Rattle.records.specs.Written.{before}
use Rattle.records.proofs.OrderLaws.{record_rises}
use Rattle.candidate.proofs.CandidateLaws.{Bytes, ok_length, read_length, record_read, candidate_is_record}
use Rattle.first.specs.Nearest.{differs, distance, closest}
use Rattle.first.specs.InHand.{far}
use Rattle.passes.specs.Nearest.{chosen}
use Rattle.passes.proofs.StateLaws.{models_from, models_into}
use Rattle.passes.proofs.FirstLaws.{chosen-some, chosen-listed, chosen-closest, chosen_first}
use Rattle.near_call.specs.Reply.{nearest, least_distance, near_buffer}
use Rattle.near_call.specs.Closest.{Granted, ClosestState, Closest}
use Rattle.near_call.proofs.NearLaws.{nearest-chosen, granted-candidate, granted-some, granted-distance, granted_bytes}

-- ---- distance 0
count_none : {A : Type 0} (p : A → Bool) (xs : List A) → length (filter p xs) ≡ 0 → (x : A) → x ∈ xs → T (p x) → ⊥
count_none p xs e x k t = go (filter p xs) e (filter_into p k t)
  where
    go : (l : List _) → length l ≡ 0 → x ∈ l → ⊥
    go [] e i = Memᴰ.not-nil i
    go (y ∷ l) e i = omega (arith, e)

module _ (n : ℕ) (c : Interpretation) where
  -- two states that differ in no fact are the same
  distance-zero : (m : Interpretation) → length c ≡ n → length m ≡ n → distance n c m ≡ 0 → c ≡ m
  unfolding distance atom_holds
  distance-zero m l k e = ext_get_or false c m (l ∙ sym k) (λ f h. beq_same (get_or c f false) (get_or m f false) (double (beq (get_or c f false) (get_or m f false)) (count_none (differs c m) (up_to n) e f (up_to_has n f (omega arith)))))
    where
      double : (b : Bool) → (T (not b) → ⊥) → T b
      double true h = tt
      double false h = absurd (h tt)

  distance_self : distance n c c ≡ 0
  unfolding distance
  distance_self = ap length (filter_none (differs c c) (up_to n) (λ f k t. subst T (ap not (passed (beq (atom_holds c f) (atom_holds c f)) (beq_refl (atom_holds c f)))) t))

-- ---- the one that is written
one_of : {A : Type 0} (l : List A) (d : A) → 0 < length l → length l ≤ 1 → l ≡ get_or l 0 d ∷ []
one_of [] d h k = absurd (omega arith)
one_of (x ∷ []) d h k = refl
one_of (x ∷ y ∷ l) d h k = absurd (omega (arith, k))

first_few : {A : Type 0} (l : List A) → length (take 1 l) ≤ 1
first_few [] = omega arith
first_few (x ∷ l) = omega arith

module _ (book : List ℕ) (layer off : ℕ) (candidate old : List ℕ) where
  abbrev P : Program
  P = program_of book layer off

  abbrev n : ℕ
  n = (book_of book).atoms

  abbrev c : Interpretation
  c = interpretation_of n candidate

  c_size : length c ≡ n
  c_size = read_length n candidate

  -- over the facts of the book
  far_is : (o : Interpretation) → far c o ≡ distance n c o
  far_is o = ap (λ (k : ℕ). distance k c o) c_size

  module _ (d g : ℕ) (e : Granted book layer off candidate old d g) where
    m : Interpretation
    m = get_or (nearest P c) 0 []

    same : nearest P c ≡ chosen P c
    unfolding program_at
    same = nearest-chosen P c c_size

    some : 0 < length (nearest P c)
    some = ltb-true 0 (length (nearest P c)) (ap (λ (l : List Interpretation). ltb 0 (length l)) same ∙ chosen-some P c ∙ ap not (granted-some book layer off candidate old d g e))

    member : m ∈ chosen P c
    unfolding m
    member = subst (λ (l : List Interpretation). get_or (nearest P c) 0 [] ∈ l) same (entry_in (nearest P c) 0 [] some)

    listed : m ∈ stable_models P
    listed = chosen-listed P c m member

    m_size : length m ≡ n
    unfolding program_at
    m_size = stable_models-length P m listed

    only : nearest P c ≡ m ∷ []
    unfolding m nearest
    only = one_of (nearest P c) [] some (first_few (closest P.atoms c (stable_models P)))

    bytes : near_buffer book layer off candidate old ≡ record_of n m ++ drop (record_size n) old
    unfolding flat
    bytes =
        granted_bytes book layer off candidate old d g e
        ∙ ap (λ (l : List Interpretation). flat (map (record_of n) l) ++ drop (record_size n) old) only
        ∙ ap (λ (l : List ℕ). l ++ drop (record_size n) old) (append-nil (record_of n m))

    told : d ≡ distance n c m
    unfolding least_distance m program_at
    told = granted-distance book layer off candidate old d g e

    model_size : (o : Interpretation) → StableModel P o → length o ≡ n
    unfolding program_at
    model_size o s = s.size

    closest_state : ClosestState book layer off candidate old d m
    closest_state = record {
      is_stable = models_from P m listed;
      written = bytes;
      distance_is = told;
      no_closer = λ o s. omega (arith, chosen-closest P c m member o (models_into P o s), far_is m, far_is o);
      first_of_equals = λ o s q. later o s (chosen_first P c m member o (models_into P o s) (far_is o ∙ q ∙ sym (far_is m)));
    }
      where
        later : (o : Interpretation) → StableModel P o → (o ≡ m) ⊎ (m ⊏ o) → (o ≡ m) ⊎ (before n m o ≡ true)
        later o s (inl q) = inl q
        later o s (inr p) = inr (record_rises n m o m_size (model_size o s) p)

    -- the candidate is stable exactly where it is the one
    zero-stable : d ≡ 0 → StableModel P c
    zero-stable z = subst (StableModel P) (sym (distance-zero n c m c_size m_size (sym told ∙ z))) (models_from P m listed)

    stable-zero : StableModel P c → d ≡ 0
    stable-zero s = omega (arith, told, closest_state.no_closer c s, distance_self n c)

    own_record : Bytes candidate → record_of n c ≡ candidate
    own_record b =
        let v = (candidate_is_record n candidate b).0 (granted-candidate book layer off candidate old d g e) in
        ap (λ (s : List ℕ). record_of n (interpretation_of n s)) (sym v.2) ∙ ap (record_of n) (record_read n v.0 v.1) ∙ v.2

    own-bytes : StableModel P c → Bytes candidate → near_buffer book layer off candidate old ≡ candidate ++ drop (length candidate) old
    own-bytes s b =
        bytes ∙ ap (λ (o : Interpretation). record_of n o ++ drop (record_size n) old) (sym (distance-zero n c m c_size m_size (sym told ∙ stable-zero s)))
        ∙ ap₂ (λ (l : List ℕ) (k : ℕ). l ++ drop k old) (own_record b) (sym (ok_length n candidate (granted-candidate book layer off candidate old d g e)))

  pub closest-exactly : Closest book layer off candidate old
  closest-exactly = record {
    closest_written = λ d g e. (m d g e, closest_state d g e);
    zero_exactly = λ d g e. (zero-stable d g e, stable-zero d g e);
    itself = λ d g e s b. own-bytes d g e s b;
  }
