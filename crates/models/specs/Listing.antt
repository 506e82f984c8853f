-- Document 01, "The listing": a state's record, and the head and records of all stable states in rising order. Assumes nothing.
use Rattle.std.specs.Prelude.{Bool, true, false, List, [], ◌∷◌, ◌++◌, map, ℕ, zero, suc, ◌+◌, ◌*◌, ◌-◌, ◌/◌, ◌%◌, ◌^◌, length, get_or, drop, eqb}
use Rattle.base.specs.Lists.{filter, flat, up_to}
use Rattle.models.specs.Program.{Program}
use Rattle.models.specs.StableModels.{Interpretation, stable}

-- all states of n facts, rising: at the first fact where two differ, the one in which it does not stand comes first
unfoldable pub interpretations : ℕ → List Interpretation
interpretations zero = [] ∷ []
interpretations (suc n) = map (λ m. false ∷ m) (interpretations n) ++ map (λ m. true ∷ m) (interpretations n)

-- the stable states, rising
unfoldable pub stable_models : Program → List Interpretation
stable_models P = filter (stable P) (interpretations P.atoms)

unfoldable pub bit_value : Bool → ℕ → ℕ
bit_value true v = v
bit_value false v = 0

-- the first k facts as a number of k bits, the first fact in the highest bit; a fact that is missing is 0
unfoldable pub bits_value : ℕ → Interpretation → ℕ
bits_value zero m = 0
bits_value (suc k) [] = 0
bits_value (suc k) (a ∷ m) = bit_value a (2 ^ k) + bits_value k m

-- k bytes, eight facts a byte
unfoldable pub packed : ℕ → Interpretation → List ℕ
packed zero m = []
packed (suc k) m = bits_value 8 m ∷ packed k (drop 8 m)

unfoldable pub be16 : ℕ → List ℕ
be16 v = (v / 256 % 256) ∷ (v % 256) ∷ []

unfoldable pub be32 : ℕ → List ℕ
be32 v = (v / 16777216 % 256) ∷ (v / 65536 % 256) ∷ (v / 256 % 256) ∷ (v % 256) ∷ []

-- n / 8 bytes, rounded up
unfoldable pub record_size : ℕ → ℕ
record_size n = (n + 7) / 8

-- a state as a record; `record_bit` of proofs/RecordBits.antt: fact f is the bit that `bit_at` reads
unfoldable pub record_of : ℕ → Interpretation → List ℕ
record_of n m = packed (record_size n) m

-- version 1, length of the whole listing, n, k, then the k records
unfoldable pub listing_of : ℕ → List Interpretation → List ℕ
listing_of n ms =
    1 ∷ (be32 (11 + length ms * record_size n) ++ (be16 n ++ (be32 (length ms) ++ flat (map (record_of n) ms))))

unfoldable pub listing : Program → List ℕ
listing P = listing_of P.atoms (stable_models P)

-- fact f is bit 7 - (f mod 8) of byte f div 8, bit 0 being the lowest
unfoldable pub bit_at : List ℕ → ℕ → Bool
bit_at s f = eqb (get_or s (f / 8) 0 / 2 ^ (7 - f % 8) % 2) 1

-- the state that a record gives
unfoldable pub interpretation_of : ℕ → List ℕ → Interpretation
interpretation_of n s = map (bit_at s) (up_to n)
