-- The states of n facts: all of them, each once, rising, so a list of those that pass a test is settled by its members. Used for
-- listings and by the search. Assumes nothing.
use mathlib.Core.Path.{◌≡◌, refl, sym, ap, subst, ◌∙◌}
use mathlib.Core.Logic.{◌⊎◌, inl, inr}
use mathlib.Core.Bool.{Bool, true, false}
use mathlib.Core.List.Memᴰ
use mathlib.Core.List.{List, [], ◌∷◌, ◌++◌, map}
use Prim.Native.Nat.{ℕ, zero, suc}
use lib.Dec.{T}
use lib.ListN.{length}
use Rattle.base.specs.Lists.{filter}
use Rattle.models.specs.StableModels.{Interpretation}
use Rattle.models.specs.Listing.{interpretations}
use Rattle.base.proofs.Members.{◌∈◌, filter-from, filter_into, same_test}
use Rattle.base.proofs.Rising.{Rising, filter-rising, rising-same}

-- at the first fact where the two differ, the one in which it does not stand comes first
abbrev pub ◌⊏◌ : Interpretation → Interpretation → Type 0
◌⊏◌ [] m = ⊥
◌⊏◌ (a ∷ k) [] = ⊥
◌⊏◌ (false ∷ k) (false ∷ m) = ◌⊏◌ k m
◌⊏◌ (true ∷ k) (true ∷ m) = ◌⊏◌ k m
◌⊏◌ (false ∷ k) (true ∷ m) = Unit {0}
◌⊏◌ (true ∷ k) (false ∷ m) = ⊥

infix 50 ◌⊏◌
pub asym : (k m : Interpretation) → k ⊏ m → m ⊏ k → ⊥
asym [] m p q = p
asym (a ∷ k) [] p q = p
asym (false ∷ k) (false ∷ m) p q = asym k m p q
asym (true ∷ k) (true ∷ m) p q = asym k m p q
asym (false ∷ k) (true ∷ m) p q = q
asym (true ∷ k) (false ∷ m) p q = p

append-rising : (xs ys : List Interpretation) → Rising ◌⊏◌ xs → Rising ◌⊏◌ ys → ((x : Interpretation) → x ∈ xs → (y : Interpretation) → y ∈ ys → x ⊏ y) → Rising ◌⊏◌ (xs ++ ys)
append-rising [] ys r s h = s
append-rising (x ∷ xs) ys r s h =
    (λ y m. go y (Memᴰ.append_cases xs m), append-rising xs ys r.1 s (λ z k. h z (Memᴰ.tail k)))
  where
    go : (y : Interpretation) → y ∈ xs ⊎ y ∈ ys → x ⊏ y
    go y (inl k) = r.0 y k
    go y (inr k) = h x (Memᴰ.head refl) y k

cons_rise : (a : Bool) (k m : Interpretation) → k ⊏ m → (a ∷ k) ⊏ (a ∷ m)
cons_rise true k m p = p
cons_rise false k m p = p

map-rising : (a : Bool) (xs : List Interpretation) → Rising ◌⊏◌ xs → Rising ◌⊏◌ (map (λ m. a ∷ m) xs)
map-rising a [] r = tt
map-rising a (x ∷ xs) r = (λ y m. go y (Memᴰ.of_map (λ m. a ∷ m) xs m), map-rising a xs r.1)
  where
    go : (y : Interpretation) → (m : Interpretation) × m ∈ xs × (a ∷ m ≡ y) → (a ∷ x) ⊏ y
    go y w = subst (λ (z : Interpretation). (a ∷ x) ⊏ z) w.2 (cons_rise a x w.0 (r.0 w.0 w.1))

pub interpretations-rising : (n : ℕ) → Rising ◌⊏◌ (interpretations n)
unfolding interpretations
interpretations-rising zero = (λ y m. absurd (Memᴰ.not-nil m), tt)
interpretations-rising (suc n) =
    append-rising (map (λ m. false ∷ m) (interpretations n)) (map (λ m. true ∷ m) (interpretations n)) (map-rising false (interpretations n) (interpretations-rising n)) (map-rising true (interpretations n) (interpretations-rising n))
    (λ x k y m. apart x y (Memᴰ.of_map (λ m. false ∷ m) (interpretations n) k) (Memᴰ.of_map (λ m. true ∷ m) (interpretations n) m))
  where
    apart : (x y : Interpretation) → (m : Interpretation) × m ∈ interpretations n × (false ∷ m ≡ x) → (m : Interpretation) × m ∈ interpretations n × (true ∷ m ≡ y) → x ⊏ y
    apart x y u v = subst (λ (z : Interpretation). z ⊏ y) u.2 (subst (λ (z : Interpretation). (false ∷ u.0) ⊏ z) v.2 tt)

pub interpretations-length : (n : ℕ) (m : Interpretation) → m ∈ interpretations n → length m ≡ n
unfolding interpretations
interpretations-length zero m k = go (Memᴰ.cases_cons k)
  where
    go : (m ≡ []) ⊎ m ∈ [] → length m ≡ zero
    go (inl e) = ap length e
    go (inr j) = absurd (Memᴰ.not-nil j)
interpretations-length (suc n) m k = go (λ x j. interpretations-length n x j) (Memᴰ.append_cases (map (λ m. false ∷ m) (interpretations n)) k)
  where
    one : ((x : Interpretation) → x ∈ interpretations n → length x ≡ n) → (a : Bool) → (x : Interpretation) × x ∈ interpretations n × (a ∷ x ≡ m) → length m ≡ suc n
    one f a w = sym (ap length w.2) ∙ ap suc (f w.0 w.1)

    go : ((x : Interpretation) → x ∈ interpretations n → length x ≡ n) → m ∈ map (λ m. false ∷ m) (interpretations n) ⊎ m ∈ map (λ m. true ∷ m) (interpretations n) → length m ≡ suc n
    go f (inl j) = one f false (Memᴰ.of_map (λ m. false ∷ m) (interpretations n) j)
    go f (inr j) = one f true (Memᴰ.of_map (λ m. true ∷ m) (interpretations n) j)

interpretations-all : (m : Interpretation) → m ∈ interpretations (length m)
unfolding interpretations
interpretations-all [] = Memᴰ.head refl
interpretations-all (false ∷ m) = Memᴰ.append_left (map (λ k. true ∷ k) (interpretations (length m))) (Memᴰ.map (λ k. false ∷ k) (interpretations-all m))
interpretations-all (true ∷ m) = Memᴰ.append_right (map (λ k. false ∷ k) (interpretations (length m))) (Memᴰ.map (λ k. true ∷ k) (interpretations-all m))

pub interpretations_has : (n : ℕ) (m : Interpretation) → length m ≡ n → m ∈ interpretations n
interpretations_has n m e = subst (λ (k : ℕ). m ∈ interpretations k) e (interpretations-all m)

-- A rising list whose members are exactly the states of n facts that pass the test is the filtered list.
pub listed : (n : ℕ) (p : Interpretation → Bool) (ms : List Interpretation) → Rising ◌⊏◌ ms
    → ((m : Interpretation) → m ∈ ms → (length m ≡ n) × T (p m)) → ((m : Interpretation) → length m ≡ n → T (p m) → m ∈ ms)
    → ms ≡ filter p (interpretations n)
listed n p ms r f g =
    rising-same ◌⊏◌ asym ms (filter p (interpretations n)) r (filter-rising ◌⊏◌ p (interpretations n) (interpretations-rising n))
    (λ m k. filter_into p (interpretations_has n m (f m k).0) (f m k).1)
    (λ m k. let w : m ∈ interpretations n × T (p m) = filter-from p (interpretations n) k in g m (interpretations-length n m w.0) w.1)

-- Two tests filter the states of n facts alike exactly if they agree on them.
pub agree : (n : ℕ) (p q : Interpretation → Bool) → filter p (interpretations n) ≡ filter q (interpretations n) → (m : Interpretation) → length m ≡ n → p m ≡ q m
agree n p q e m l =
    same_test (p m) (q m)
    (λ t. (filter-from q (interpretations n) (subst (λ (ms : List Interpretation). m ∈ ms) e (filter_into p (interpretations_has n m l) t))).1)
    (λ t. (filter-from p (interpretations n) (subst (λ (ms : List Interpretation). m ∈ ms) (sym e) (filter_into q (interpretations_has n m l) t))).1)

pub agree_same : (n : ℕ) (p q : Interpretation → Bool) → ((m : Interpretation) → length m ≡ n → p m ≡ q m) → filter p (interpretations n) ≡ filter q (interpretations n)
agree_same n p q h =
    listed n q (filter p (interpretations n)) (filter-rising ◌⊏◌ p (interpretations n) (interpretations-rising n))
    (λ m k.
    let w : m ∈ interpretations n × T (p m) = filter-from p (interpretations n) k in
    let l : length m ≡ n = interpretations-length n m w.0 in
    (l, subst T (h m l) w.1))
    (λ m l t. filter_into p (interpretations_has n m l) (subst T (sym (h m l)) t))
