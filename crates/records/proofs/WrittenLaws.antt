-- The listing in a lent buffer: the part that is lent for the records, and the buffer once they and the head are written. The
-- listing call cites it. Assumes nothing.
use mathlib.Core.Path.{◌≡◌, refl, sym, ap, ◌∙◌}
use mathlib.Core.List.{List, ◌∷◌, ◌++◌, map, append_assoc}
use Prim.Native.Nat.{ℕ, ◌+◌, ◌-◌, ◌*◌, ◌^◌, ◌≤◌}
use native.Mathlib.Nat.{mul-le-mul}
use native.Mathlib.Omega.{arith}
use borrow.Rule.Slice.PartMut.{put_mid}
use lib.ListN.{length, take, drop, length-drop, take-append-drop}
use lib.Seq.{drop-drop, drop_at, drop-append-le, length-take-le}
use Rattle.base.specs.Bounds.{max_atoms, max_record, max_branching}
use Rattle.base.specs.Lists.{flat}
use Rattle.models.specs.StableModels.{Interpretation}
use Rattle.models.specs.Listing.{record_size, record_of, be16, be32, listing_of}

-- the bytes of as many records as a search may find
pub records_fit : (n k w : ℕ) → n ≤ max_atoms → k ≤ 2 ^ max_branching → w ≡ record_size n → k * w ≤ 2 ^ max_branching * max_record
unfolding record_size
records_fit n k w h b e = let q : w ≤ max_record = omega arith in mul-le-mul b q

head-and-records : (n : ℕ) (ms : List Interpretation) (k size : ℕ) (rest : List ℕ) → k ≡ length ms → size ≡ 11 + length ms * record_size n
    → 1 ∷ (be32 size ++ (be16 n ++ (be32 k ++ (flat (map (record_of n) ms) ++ rest)))) ≡ listing_of n ms ++ rest
unfolding listing_of be16 be32
head-and-records n ms k size rest e f = rw (e, f) refl

-- what stands behind the head once the part has come back
behind-head : (size : ℕ) (old part : List ℕ) → 11 ≤ size → size ≤ length old → drop 11 (put_mid 11 (size - 11) old part) ≡ part ++ drop size old
behind-head size old part h b =
    let z : 11 + (size - 11) ≡ size = omega arith in
    drop_at (take 11 old) (part ++ drop (size - 11) (drop 11 old)) 11 (length-take-le 11 old (omega arith))
    ∙ ap (λ (x : List ℕ). part ++ x) (drop-drop (size - 11) 11 old ∙ ap (λ (x : ℕ). drop x old) z)

-- what the records leave of the part, and what lies behind the part, is what lies behind the records
rest-behind : (old : List ℕ) (end k : ℕ) → 11 + k ≤ end → end ≤ length old → drop k (take (end - 11) (drop 11 old)) ++ drop end old ≡ drop (11 + k) old
rest-behind old end k h b =
    let l : List ℕ = drop 11 old in
    let t : length (take (end - 11) l) ≡ end - 11 = length-take-le (end - 11) l (omega (arith, length-drop 11 old)) in
    let z : 11 + (end - 11) ≡ end = omega arith in
    ap (λ (x : List ℕ). drop k (take (end - 11) l) ++ x) (ap (λ (x : ℕ). drop x old) (sym z) ∙ sym (drop-drop (end - 11) 11 old))
    ∙ sym (drop-append-le k (take (end - 11) l) (drop (end - 11) l) (omega (arith, t))) ∙ ap (drop k) (take-append-drop (end - 11) l) ∙ drop-drop k 11 old

-- the listing in front of what follows it, once its records are written into the bytes from 11 to `end`, and its head in front of them
pub head-written : (n : ℕ) (ms : List Interpretation) (k size end : ℕ) (old part buf : List ℕ) → k ≡ length ms → size ≡ 11 + length ms * record_size n → size ≤ end → end ≤ length old
    → part ≡ flat (map (record_of n) ms) ++ drop (length ms * record_size n) (take (end - 11) (drop 11 old))
    → buf ≡ 1 ∷ (be32 size ++ (be16 n ++ (be32 k ++ drop 11 (put_mid 11 (end - 11) old part)))) → buf ≡ listing_of n ms ++ drop size old
head-written n ms k size end old part buf e s h b f q =
    let r : part ++ drop end old ≡ flat (map (record_of n) ms) ++ drop size old =
    ap (λ (x : List ℕ). x ++ drop end old) f ∙ append_assoc (flat (map (record_of n) ms)) (drop (length ms * record_size n) (take (end - 11) (drop 11 old))) (drop end old)
    ∙ ap (λ (x : List ℕ). flat (map (record_of n) ms) ++ x) (rest-behind old end (length ms * record_size n) (omega (arith, s)) b ∙ ap (λ (x : ℕ). drop x old) (sym s)) in
    q ∙ ap (λ (x : List ℕ). 1 ∷ (be32 size ++ (be16 n ++ (be32 k ++ x)))) (behind-head end old part (omega (arith, s)) b ∙ r)
    ∙ head-and-records n ms k size (drop size old) e s
