-- The order of records is the order of states, so states found in any order, none twice, are in the listing's order when they
-- are sorted by their records. The search cites `sorted-listed`. Assumes nothing.
use mathlib.Core.Path.{◌≡◌, refl, sym, subst, ◌∙◌}
use mathlib.Core.Logic.{◌⊎◌, inl, inr}
use mathlib.Core.Bool.{Bool, true, false}
use mathlib.Core.List.Memᴰ
use mathlib.Core.List.{List, [], ◌∷◌}
use Prim.Native.Nat.{ℕ, ◌<◌}
use native.Mathlib.Omega.{arith}
use lib.Dec.{T}
use lib.ListN.{length}
use Rattle.base.specs.Lists.{filter}
use Rattle.base.proofs.Members.{◌∈◌}
use Rattle.base.proofs.Rising.{Rising}
use Rattle.insertion.specs.Runs.{bytes_before}
use Rattle.insertion.specs.Sorted.{insert_all, Up}
use Rattle.insertion.proofs.ByteOrder.{before_cases, bytes_le_lt, bytes_asym, bytes_same}
use Rattle.insertion.proofs.SortedLaws.{insert_all-keeps_up, insert_all-length, insert_all-from, insert_all_into}
use Rattle.insertion.proofs.Once.{Once, insert_all-once}
use Rattle.models.specs.StableModels.{Interpretation}
use Rattle.models.specs.Listing.{record_size, record_of, interpretations}
use Rattle.models.proofs.InterpretationLaws.{◌⊏◌, asym, listed}
use Rattle.models.proofs.RecordLaws.{record_same, record_length}
use Rattle.models.proofs.RecordOrder.{Less, packed_less}
use Rattle.records.specs.Written.{before, sorted}

pub sorted-length : (n : ℕ) (ms : List Interpretation) → length (sorted n ms) ≡ length ms
unfolding sorted
sorted-length n ms = insert_all-length (before n) ms [] ∙ omega arith

less_true : (x y : List ℕ) → length x ≡ length y → bytes_before x y ≡ true → Less x y
unfolding bytes_before
less_true [] [] l h = subst T (sym h) tt
less_true [] (b ∷ y) l h = absurd (omega arith)
less_true (a ∷ x) [] l h = absurd (omega arith)
less_true (a ∷ x) (b ∷ y) l h = go (λ q. less_true x y (omega arith) q) (before_cases a b x y h)
  where
    go : (bytes_before x y ≡ true → Less x y) → (a < b) ⊎ ((a ≡ b) × (bytes_before x y ≡ true)) → (a < b) ⊎ ((a ≡ b) × Less x y)
    go f (inl q) = inl q
    go f (inr q) = inr (q.0, f q.1)

total : (x y : List ℕ) → bytes_before y x ≡ false → (bytes_before x y ≡ true) ⊎ (x ≡ y)
total x y h = go (bytes_before x y) refl
  where
    go : (c : Bool) → bytes_before x y ≡ c → (bytes_before x y ≡ true) ⊎ (x ≡ y)
    go true e = inl e
    go false e = inr (bytes_same x y e h)

rise : (n : ℕ) (x y : Interpretation) → length x ≡ n → length y ≡ n → (x ≡ y → ⊥) → before n y x ≡ false → x ⊏ y
unfolding record_of
rise n x y l k d h = go (total (record_of n x) (record_of n y) h)
  where
    go : (bytes_before (record_of n x) (record_of n y) ≡ true) ⊎ (record_of n x ≡ record_of n y) → x ⊏ y
    go (inl q) = packed_less (record_size n) x y (l ∙ sym k) (less_true (record_of n x) (record_of n y) (record_length n x ∙ sym (record_length n y)) q)
    go (inr q) = absurd (d (record_same n x y l k q))

-- and the other way round: a state that comes before another has the smaller record
pub record_rises : (n : ℕ) (x y : Interpretation) → length x ≡ n → length y ≡ n → x ⊏ y → before n x y ≡ true
unfolding record_of
record_rises n x y l k r = go (before n y x) refl
  where
    never : x ≡ y → ⊥
    never e = let z : x ⊏ x = subst (λ (o : Interpretation). x ⊏ o) (sym e) r in asym x x z z

    last : (bytes_before (record_of n x) (record_of n y) ≡ true) ⊎ (record_of n x ≡ record_of n y) → before n x y ≡ true
    last (inl q) = q
    last (inr q) = absurd (never (record_same n x y l k q))

    go : (c : Bool) → before n y x ≡ c → before n x y ≡ true
    go false e = last (total (record_of n x) (record_of n y) e)
    go true e =
        absurd (asym x y r (packed_less (record_size n) y x (k ∙ sym l) (less_true (record_of n y) (record_of n x) (record_length n y ∙ sym (record_length n x)) e)))

-- by their records weakly, and none twice: as states strictly
up_rising : (n : ℕ) (ms : List Interpretation) → ((m : Interpretation) → m ∈ ms → length m ≡ n) → Up (before n) ms → Once ms → Rising ◌⊏◌ ms
up_rising n [] f u o = tt
up_rising n (x ∷ xs) f u o = (
  λ y m. rise n x y (f x (Memᴰ.head refl)) (f y (Memᴰ.tail m)) (λ e. o.0 (subst (λ (z : Interpretation). z ∈ xs) (sym e) m)) (u.0 y m),
  up_rising n xs (λ m k. f m (Memᴰ.tail k)) u.1 o.1,
)

-- all states of n facts that pass the test, each once, are in the listing's order when sorted
pub sorted-listed : (n : ℕ) (p : Interpretation → Bool) (ms : List Interpretation) → Once ms → ((m : Interpretation) → m ∈ ms → (length m ≡ n) × T (p m))
    → ((m : Interpretation) → length m ≡ n → T (p m) → m ∈ ms) → sorted n ms ≡ filter p (interpretations n)
unfolding sorted
sorted-listed n p ms once sound complete =
    listed n p (insert_all (before n) ms [])
    (up_rising n (insert_all (before n) ms []) (λ m k. (from m k).0)
    (insert_all-keeps_up (before n) (λ y x r. bytes_le_lt (record_of n y) (record_of n x) (record_of n r)) (λ x y. bytes_asym (record_of n x) (record_of n y)) ms [] tt)
    (insert_all-once (before n) ms [] once tt (λ z a b. Memᴰ.not-nil b)))
    from
    (λ m e t. insert_all_into (before n) ms [] m (inl (complete m e t)))
  where
    from : (m : Interpretation) → m ∈ insert_all (before n) ms [] → (length m ≡ n) × T (p m)
    from m k = go (insert_all-from (before n) ms [] m k)
      where
        go : m ∈ ms ⊎ m ∈ [] → (length m ≡ n) × T (p m)
        go (inl j) = sound m j
        go (inr j) = absurd (Memᴰ.not-nil j)
