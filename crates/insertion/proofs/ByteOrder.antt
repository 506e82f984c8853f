-- The order of byte strings, `bytes_before`: what the first bytes say, and that it is an order. RunLaws inserts by it, and the
-- crate `records` compares states by it. Assumes nothing.
use Rattle.std.proofs.Common.{arith, ◌≡◌, ℕ, ◌<◌, ◌⊎◌, inl, inr, true, false, List, ◌∷◌, refl, sym, ◌∙◌, ap, Ordering, Less, Equal, Greater}
use Rattle.std.specs.Ordering.{nat_cmp, is_lt, ordering_then, ordering_reverse}
use Rattle.std.specs.Cmp.Lexicographic.{slice_cmp}
use Rattle.std.proofs.lemmas.Cmp.{ranked, by_ranked, nat_list_cmp_total}
use Rattle.std.proofs.lemmas.Map.Lookups.{exact_bytes}
use Rattle.insertion.specs.Runs.{bytes_before}

module _ (x y : ℕ) (xs ys : List ℕ) where
  first_is : (o : Ordering) → nat_cmp x y ≡ o → bytes_before (x ∷ xs) (y ∷ ys) ≡ is_lt (ordering_then o (slice_cmp nat_cmp xs ys))
  unfolding bytes_before
  first_is o e = ap (λ (r : Ordering). is_lt (ordering_then r (slice_cmp nat_cmp xs ys))) e

  -- the first bytes, the smaller one in front, the same, or behind
  by_first : {G : Type 0} → (nat_cmp x y ≡ Less → x < y → G) → (nat_cmp x y ≡ Equal → x ≡ y → G) → (nat_cmp x y ≡ Greater → y < x → G) → G
  by_first = by_ranked (x < y) (x ≡ y) (y < x) (nat_cmp x y) (ranked x y (nat_cmp x y) refl)

  pub before_cases : bytes_before (x ∷ xs) (y ∷ ys) ≡ true → (x < y) ⊎ ((x ≡ y) × (bytes_before xs ys ≡ true))
  unfolding bytes_before
  before_cases h = by_first (λ e l. inl l) (λ e q. inr (q, sym (first_is Equal e) ∙ h)) (λ e g. let k : false ≡ true = sym (first_is Greater e) ∙ h in cc)

  pub not-before_cases : bytes_before (x ∷ xs) (y ∷ ys) ≡ false → (y < x) ⊎ ((x ≡ y) × (bytes_before xs ys ≡ false))
  unfolding bytes_before
  not-before_cases h = by_first (λ e l. let k : true ≡ false = sym (first_is Less e) ∙ h in cc) (λ e q. inr (q, sym (first_is Equal e) ∙ h)) (λ e g. inl g)

  pub before_by_first : x < y → bytes_before (x ∷ xs) (y ∷ ys) ≡ true
  before_by_first h = by_first (λ e l. first_is Less e) (λ e q. absurd (omega arith)) (λ e g. absurd (omega arith))

  pub not-before_by_first : y < x → bytes_before (x ∷ xs) (y ∷ ys) ≡ false
  not-before_by_first h = by_first (λ e l. absurd (omega arith)) (λ e q. absurd (omega arith)) (λ e g. first_is Greater e)

  pub before_by_rest : x ≡ y → bytes_before (x ∷ xs) (y ∷ ys) ≡ bytes_before xs ys
  unfolding bytes_before
  before_by_rest h = by_first (λ e l. absurd (omega arith)) (λ e q. first_is Equal e) (λ e g. absurd (omega arith))

-- x is not after y, and y is before r
pub bytes_le_lt : (y x r : List ℕ) → bytes_before y x ≡ false → bytes_before y r ≡ true → bytes_before x r ≡ true
unfolding bytes_before
bytes_le_lt y x r p q = go (slice_cmp nat_cmp y x) refl
  where
    less : slice_cmp nat_cmp y r ≡ Less
    less = of_lt (slice_cmp nat_cmp y r) q
      where
        of_lt : (o : Ordering) → is_lt o ≡ true → o ≡ Less
        of_lt Less e = refl
        of_lt Equal e = cc
        of_lt Greater e = cc

    go : (o : Ordering) → slice_cmp nat_cmp y x ≡ o → is_lt (slice_cmp nat_cmp x r) ≡ true
    go Less e = let k : true ≡ false = sym (ap is_lt e) ∙ p in cc
    go Equal e = ap is_lt (sym (nat_list_cmp_total.congr y x r e) ∙ less)
    go Greater e = ap is_lt (nat_list_cmp_total.trans x y r (nat_list_cmp_total.antisymm x y ∙ ap ordering_reverse e) less)

pub bytes_asym : (x y : List ℕ) → bytes_before x y ≡ true → bytes_before y x ≡ false
unfolding bytes_before
bytes_asym x y p = go (slice_cmp nat_cmp x y) p (ap is_lt (nat_list_cmp_total.antisymm y x))
  where
    go : (o : Ordering) → is_lt o ≡ true → is_lt (slice_cmp nat_cmp y x) ≡ is_lt (ordering_reverse o) → is_lt (slice_cmp nat_cmp y x) ≡ false
    go Less e f = f
    go Equal e f = cc
    go Greater e f = cc

-- byte strings neither of which comes before the other are the same
pub bytes_same : (x y : List ℕ) → bytes_before x y ≡ false → bytes_before y x ≡ false → x ≡ y
unfolding bytes_before
bytes_same x y p q = go (slice_cmp nat_cmp x y) refl p (sym (ap is_lt (nat_list_cmp_total.antisymm y x)) ∙ q)
  where
    go : (o : Ordering) → slice_cmp nat_cmp x y ≡ o → is_lt o ≡ false → is_lt (ordering_reverse (slice_cmp nat_cmp x y)) ≡ false → x ≡ y
    go Less e f g = cc
    go Equal e f g = exact_bytes x y e
    go Greater e f g = let k : true ≡ false = sym (ap (λ (o : Ordering). is_lt (ordering_reverse o)) e) ∙ g in cc
