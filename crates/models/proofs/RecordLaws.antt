-- A record settles its state, and the bytes of a listing settle n and the list of states; how long they are. Used for condition 3 and
-- wherever records are cut. Assumes nothing.
use mathlib.Core.Path.{◌≡◌, refl, sym, ap, ap₂, ◌∙◌}
use mathlib.Core.Bool.{Bool, true, false}
use mathlib.Core.List.Memᴰ
use mathlib.Core.List.{List, [], ◌∷◌, ◌++◌, map, head-eq_of_cons-eq, tail-eq_of_cons-eq}
use Prim.Native.Nat.{ℕ, zero, suc, ◌+◌, ◌*◌, ◌/◌, ◌^◌, ◌<◌, ◌≤◌}
use native.Mathlib.Omega.{arith}
use lib.Pow.{pow_pos}
use lib.ListN.{length, take, drop, get_or, take-append-drop, length-drop, length-append}
use lib.Seq.{take_at, drop_at}
use Rattle.base.specs.Lists.{flat}
use Rattle.models.specs.StableModels.{Interpretation}
use Rattle.models.specs.Listing.{bit_value, bits_value, packed, be16, be32, record_size, record_of, listing_of}
use Rattle.base.proofs.Members.{◌∈◌}

-- a bit
pub bit_le : (b : Bool) → bit_value b 1 ≤ 1
unfolding bit_value
bit_le true = omega arith
bit_le false = omega arith

pub high_lt : (k : ℕ) (m : Interpretation) → bits_value k m < 2 ^ k
unfolding bits_value bit_value
high_lt zero m = omega arith
high_lt (suc k) [] = omega (arith, pow_pos k)
high_lt (suc k) (true ∷ m) = omega (arith, high_lt k m)
high_lt (suc k) (false ∷ m) = omega (arith, high_lt k m)

pub high_same : (k : ℕ) (m o : Interpretation) → length m ≡ length o → bits_value k m ≡ bits_value k o → take k m ≡ take k o
unfolding bits_value bit_value
high_same zero m o l e = refl
high_same (suc k) [] [] l e = refl
high_same (suc k) [] (b ∷ o) l e = absurd (omega arith)
high_same (suc k) (a ∷ m) [] l e = absurd (omega arith)
high_same (suc k) (true ∷ m) (true ∷ o) l e = ap (λ (t : Interpretation). true ∷ t) (high_same k m o (omega arith) (omega arith))
high_same (suc k) (false ∷ m) (false ∷ o) l e = ap (λ (t : Interpretation). false ∷ t) (high_same k m o (omega arith) (omega arith))
high_same (suc k) (true ∷ m) (false ∷ o) l e = absurd (omega (arith, high_lt k o))
high_same (suc k) (false ∷ m) (true ∷ o) l e = absurd (omega (arith, high_lt k m))

none : (m : Interpretation) → length m ≤ 0 → m ≡ []
none [] h = refl
none (a ∷ m) h = absurd (omega arith)

packed-same : (k : ℕ) (m o : Interpretation) → length m ≡ length o → length m ≤ 8 * k → packed k m ≡ packed k o → m ≡ o
unfolding packed
packed-same zero m o l h e = none m (omega arith) ∙ sym (none o (omega arith))
packed-same (suc k) m o l h e =
    sym (take-append-drop 8 m)
    ∙ ap₂ (λ (x y : Interpretation). x ++ y) (high_same 8 m o l (head-eq_of_cons-eq e))
    (packed-same k (drop 8 m) (drop 8 o) (simp length-drop (omega arith)) (simp length-drop (omega arith)) (tail-eq_of_cons-eq e))
    ∙ take-append-drop 8 o

pub packed-length : (k : ℕ) (m : Interpretation) → length (packed k m) ≡ k
unfolding packed
packed-length zero m = refl
packed-length (suc k) m = ap suc (packed-length k (drop 8 m))

pub record_length : (n : ℕ) (m : Interpretation) → length (record_of n m) ≡ record_size n
unfolding record_of
record_length n m = packed-length (record_size n) m

pub record_same : (n : ℕ) (m o : Interpretation) → length m ≡ n → length o ≡ n → record_of n m ≡ record_of n o → m ≡ o
unfolding record_of record_size
record_same n m o l j e = packed-same ((n + 7) / 8) m o (omega arith) (omega arith) e

-- two parts of the same length in front: they are equal, and so is what follows
front_same : (p q r s : List ℕ) (n : ℕ) → length p ≡ n → length q ≡ n → p ++ r ≡ q ++ s → p ≡ q
front_same p q r s n a b e = sym (take_at p r n a) ∙ ap (take n) e ∙ take_at q s n b

back_same : (p q r s : List ℕ) (n : ℕ) → length p ≡ n → length q ≡ n → p ++ r ≡ q ++ s → r ≡ s
back_same p q r s n a b e = sym (drop_at p r n a) ∙ ap (drop n) e ∙ drop_at q s n b

empty_front : (n : ℕ) (m : Interpretation) (r : List ℕ) → 0 < n → [] ≡ record_of n m ++ r → ⊥
unfolding record_size
empty_front n m r h e = omega (arith, record_length n m, simp length-append at (ap length e))

records-same : (n : ℕ) → 0 < n → (ms os : List Interpretation) → ((m : Interpretation) → m ∈ ms → length m ≡ n) → ((m : Interpretation) → m ∈ os → length m ≡ n)
    → flat (map (record_of n) ms) ≡ flat (map (record_of n) os) → ms ≡ os
unfolding flat
records-same n h [] [] f g e = refl
records-same n h [] (o ∷ os) f g e = absurd (empty_front n o (flat (map (record_of n) os)) h e)
records-same n h (m ∷ ms) [] f g e = absurd (empty_front n m (flat (map (record_of n) ms)) h (sym e))
records-same n h (m ∷ ms) (o ∷ os) f g e =
    ap₂ (λ (x : Interpretation) (xs : List Interpretation). x ∷ xs)
    (record_same n m o (f m (Memᴰ.head refl)) (g o (Memᴰ.head refl))
    (front_same (record_of n m) (record_of n o) (flat (map (record_of n) ms)) (flat (map (record_of n) os)) (record_size n) (record_length n m) (record_length n o) e))
    (records-same n h ms os (λ x k. f x (Memᴰ.tail k)) (λ x k. g x (Memᴰ.tail k))
    (back_same (record_of n m) (record_of n o) (flat (map (record_of n) ms)) (flat (map (record_of n) os)) (record_size n) (record_length n m) (record_length n o) e))

-- the head names n
listing-facts : (n i : ℕ) (ms os : List Interpretation) → n < 65536 → i < 65536 → listing_of n ms ≡ listing_of i os → n ≡ i
unfolding listing_of be16 be32
listing-facts n i ms os a b e = omega (arith, ap (λ (l : List ℕ). get_or l 5 0) e, ap (λ (l : List ℕ). get_or l 6 0) e)

listing-records : (n i : ℕ) (ms os : List Interpretation) → listing_of n ms ≡ listing_of i os → flat (map (record_of n) ms) ≡ flat (map (record_of i) os)
unfolding listing_of be16 be32
listing-records n i ms os e = ap (drop 11) e

pub listing-same : (n i : ℕ) (ms os : List Interpretation) → 0 < n → n < 65536 → i < 65536
    → ((m : Interpretation) → m ∈ ms → length m ≡ n) → ((m : Interpretation) → m ∈ os → length m ≡ i) → listing_of n ms ≡ listing_of i os → (n ≡ i) × (ms ≡ os)
listing-same n i ms os p a b f g e =
    let h : n ≡ i = listing-facts n i ms os a b e in
    (h, records-same n p ms os f (λ m k. g m k ∙ sym h) (listing-records n i ms os e ∙ ap (λ (j : ℕ). flat (map (record_of j) os)) (sym h)))

pub records-length : (n : ℕ) (ms : List Interpretation) → length (flat (map (record_of n) ms)) ≡ length ms * record_size n
unfolding flat
records-length n [] = omega arith
records-length n (m ∷ ms) =
    length-append (record_of n m) (flat (map (record_of n) ms))
    ∙ (let h : length (flat (map (record_of n) ms)) ≡ length ms * record_size n = records-length n ms in omega (arith, record_length n m))

pub listing-length : (n : ℕ) (ms : List Interpretation) → length (listing_of n ms) ≡ 11 + length ms * record_size n
unfolding listing_of be16 be32
listing-length n ms = omega (arith, records-length n ms)
