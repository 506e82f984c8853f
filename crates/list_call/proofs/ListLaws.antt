-- The listing call, step by step: the size of the listing, each refusal, and the buffer once all is written. Assumes nothing.
use mathlib.Core.Path.{◌≡◌, refl, sym, ap, ap₂, subst, ◌∙◌}
use mathlib.Core.List.{List, [], ◌∷◌, ◌++◌, map}
use Prim.Native.Nat.{ℕ, suc, ◌+◌, ◌-◌, ◌*◌, ◌/◌, ◌^◌, ◌<◌, ◌≤◌}
use native.Mathlib.Nat.{pow-le-pow_right, mul-le-mul_right, div-mul-le_self, lt-div-mul-add}
use native.Mathlib.Omega.{arith}
use borrow.Author.Tests.{lt-ltb, le-ltb}
use borrow.Rule.Slice.PartMut.{put_mid}
use lib.Dec.{ltb}
use lib.ListN.{length, take, drop, length-drop}
use lib.Seq.{length-take-le}
use Rattle.base.specs.Bounds.{max_atoms, max_record, max_branching}
use Rattle.base.specs.Lists.{flat}
use Rattle.book.specs.Causes.{verdict_if, first_of, Verdict}
use Rattle.book.specs.declared.Cause.{Cause}
use Rattle.book.specs.declared.Cause.TheVariants.{BufferTooShort}
use Rattle.models.specs.Program.{Program}
use Rattle.models.specs.Branching.{branching_count}
use Rattle.models.specs.Listing.{stable_models, record_size, record_of, be16, be32, listing_of, listing}
use Rattle.models.proofs.RecordLaws.{listing-length}
use Rattle.models.specs.Alike.{Alike}
use Rattle.models.proofs.AlikeLaws.{alike_models, alike-count, alike-listing}
use Rattle.records.proofs.WrittenLaws.{records_fit, head-written}
use Rattle.search.specs.Space.{space_atoms, space_program}
use Rattle.search.specs.declared.space.Space.{Space}
use Rattle.passes.specs.Tallied.{Bounds}
use Rattle.passes.proofs.SpaceLaws.{space_formed, space_size, space_count, space_some, plan_few, space_few, branching_few}
use Rattle.passes.proofs.PassLaws.{models_le}
use Rattle.list_call.specs.declared.Listed.{Listed}
use Rattle.std.proofs.Common.{Result, Ok, Err}
use Rattle.list_call.specs.Reply.{room_tests, reply_of, buffer_of, Answers}

-- ---- counting and writing
module _ (space : Space) where
  abbrev n : ℕ
  n = space.plan.now.n

  abbrev P : Program
  P = space_program space

  abbrev all : ℕ
  all = length (stable_models P)

  k_le : all ≤ 2 ^ max_branching
  k_le = omega (arith, models_le P (space_formed space) (space_few space), pow-le-pow_right {n = 2} (omega arith) (subst (λ (x : ℕ). x ≤ max_branching) (space_count space) (branching_few space)))

  size_is : 11 + all * record_size n ≡ length (listing P)
  unfolding listing
  size_is = ap (λ (x : ℕ). 11 + all * record_size x) (space_size space) ∙ sym (listing-length P.atoms (stable_models P))

  module _ (old : List ℕ) where
    refused : length old < 11 + all * record_size n → Answers (first_of (room_tests P (length old))) P old (Err BufferTooShort) old
    unfolding first_of verdict_if room_tests reply_of buffer_of
    refused h =
        let e : first_of (room_tests P (length old)) ≡ Err BufferTooShort = rw (lt-ltb (length old) (length (listing P)) (omega (arith, size_is))) refl in
        record { reply_is = rw e refl; buffer_is = rw e refl }

    -- no room for the head
    pub head_refused : length old < 11 → Answers (first_of (room_tests P (length old))) P old (Err BufferTooShort) old
    head_refused h = refused (omega arith)

    module _ (head : 11 ≤ length old) (width : ℕ) (e : width ≡ record_size n) where
      pub width_some : 0 < width
      unfolding record_size
      width_some = omega (arith, e, space_some space)

      abbrev room : ℕ
      room = (length old - 11) / width

      room_fits : room * width ≤ length old - 11
      room_fits = div-mul-le_self (length old - 11) width

      module _ {most : ℕ} (b : Bounds all room most) where
        -- no room for the records
        pub room_refused : room < most → Answers (first_of (room_tests P (length old))) P old (Err BufferTooShort) old
        room_refused h =
            let more : suc room * width ≤ all * width = mul-le-mul_right width (b.past h) in
            let step : suc room * width ≡ room * width + width = omega arith in
            let next : length old - 11 < room * width + width = lt-div-mul-add width_some in
            refused (omega (arith, head, more, step, next, ap (λ (x : ℕ). all * x) e))

        module _ (h : most ≤ room) where
          pub part-fits : 11 + most * width ≤ length old
          part-fits = let q : most * width ≤ room * width = mul-le-mul_right width h in omega (arith, q, room_fits, head)

          part_length : length (take (11 + most * width - 11) (drop 11 old)) ≡ most * width
          part_length = length-take-le (11 + most * width - 11) (drop 11 old) (omega (arith, length-drop 11 old, part-fits)) ∙ omega arith

          all_fit : all * record_size n ≤ most * width
          all_fit = let q : all * width ≤ most * width = mul-le-mul_right width (b.enough h) in omega (arith, q, ap (λ (x : ℕ). all * x) e)

          pub part-enough : all * record_size n ≤ length (take (11 + most * width - 11) (drop 11 old))
          part-enough = omega (arith, part_length, all_fit)

          module _ {k : ℕ} (k_is : k ≡ all) where
            pub bytes_fit : k * width ≤ 2 ^ max_branching * max_record
            bytes_fit = records_fit n k width (plan_few space) (omega (arith, k_is, k_le)) e

            bytes_are : k * width ≡ all * record_size n
            bytes_are = ap₂ (λ (x y : ℕ). x * y) k_is e

            pub room-listed : (g : ℕ) → g ≡ length (space_atoms space) → (part buf : List ℕ) → part ≡ flat (map (record_of n) (stable_models P)) ++ drop (all * record_size n) (take (11 + most * width - 11) (drop 11 old))
                → buf ≡ 1 ∷ (be32 (11 + k * width) ++ (be16 n ++ (be32 k ++ drop 11 (put_mid 11 (11 + most * width - 11) old part))))
                → Answers (first_of (room_tests P (length old))) P old (Ok (record { states = k; branching = g })) buf
            unfolding first_of verdict_if room_tests reply_of buffer_of listing
            room-listed g eg part buf f q =
                let v : first_of (room_tests P (length old)) ≡ Ok tt = rw (le-ltb (length old) (length (listing P)) (omega (arith, size_is, all_fit, part-fits))) refl in
                record {
                  reply_is = rw v (λ i. Ok (record { states = k_is i; branching = (eg ∙ space_count space) i }));
                  buffer_is =
                      rw v (head-written n (stable_models P) k (11 + k * width) (11 + most * width) old part buf k_is (ap (λ (x : ℕ). 11 + x) bytes_are) (omega (arith, bytes_are, all_fit)) part-fits f q
                      ∙ ap₂ (λ (x y : ℕ). listing_of x (stable_models P) ++ drop y old) (space_size space) (ap (λ (x : ℕ). 11 + x) bytes_are ∙ size_is));
                }

-- ---- the program that the table stands for, and the driven layer's
module _ {P Q : Program} (a : Alike P Q) where
  pub room-same : (room : ℕ) → room_tests P room ≡ room_tests Q room
  unfolding room_tests
  room-same room = ap (λ (s : List ℕ). record { cause = BufferTooShort; applies = ltb room (length s) } ∷ []) (alike-listing a)

  pub reply_same : (v : Verdict) → reply_of v P ≡ reply_of v Q
  unfolding reply_of
  reply_same (Err c) = refl
  reply_same (Ok tt) = λ i. Ok (record { states = length (alike_models a i); branching = alike-count a i })

  pub buffer-same : (v : Verdict) (old : List ℕ) → buffer_of v P old ≡ buffer_of v Q old
  unfolding buffer_of
  buffer-same (Err c) old = refl
  buffer-same (Ok tt) old = ap (λ (s : List ℕ). s ++ drop (length s) old) (alike-listing a)

  pub answers_over : {old new : List ℕ} {r : Result Listed Cause} → Answers (first_of (room_tests Q (length old))) Q old r new → Answers (first_of (room_tests P (length old))) P old r new
  answers_over {old} x =
      let e : first_of (room_tests Q (length old)) ≡ first_of (room_tests P (length old)) = sym (ap first_of (room-same (length old))) in
      record {
        reply_is = x.reply_is ∙ ap (λ (v : Verdict). reply_of v Q) e ∙ sym (reply_same (first_of (room_tests P (length old))));
        buffer_is = x.buffer_is ∙ ap (λ (v : Verdict). buffer_of v Q old) e ∙ sym (buffer-same (first_of (room_tests P (length old))) old);
      }
