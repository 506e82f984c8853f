-- Rows and the rules that they stand for: which rules are there, a row's body as the code cuts it, whether it is alive or leans on itself,
-- and when two rows are the same. Used by every loop over rows. Assumes nothing.
use mathlib.Core.Path.{◌≡◌, refl, sym, ap, ap₂, subst, ◌∙◌}
use mathlib.Core.Bool.{Bool, not}
use mathlib.Core.List.Memᴰ
use mathlib.Core.List.{List, [], ◌∷◌, ◌++◌, map}
use Prim.Native.Nat.{ℕ, zero, suc, ◌≤◌, ◌<◌}
use native.Mathlib.Omega.{arith}
use lib.Dec.{eqb}
use lib.ListN.{length, get_or, take}
use lib.Seq.{take-suc, take-length}
use Rattle.base.proofs.EntryLaws.{entry_in}
use Rattle.base.proofs.MapLaws.{map_snoc}
use Rattle.base.specs.Lists.{up_to}
use Rattle.layers.specs.Masks.{bit_of}
use Rattle.format.specs.Book.{Rule}
use Rattle.base.proofs.Members.{◌∈◌}
use Rattle.table.specs.declared.Row.{Row}
use Rattle.table.specs.declared.TheConstants.{NO_ROW}
use Rattle.table.specs.Rows.{nth, SpanFits, row_count, head_name, row_layer, row_rule, row_at, alive, rows_of, RowsBounded, RowsFit, SameRules}
use Rattle.table.proofs.NameLaws.{name_back}

module _ {A B : Type 0} (f : A → B) (d : A) where
  place_of : (xs : List A) {y : B} → y ∈ map f xs → (j : ℕ) × (j < length xs) × (f (get_or xs j d) ≡ y)
  place_of [] k = elim k [ ]
  place_of (x ∷ xs) (Memᴰ.head e) = (0, omega arith, sym e)
  place_of (x ∷ xs) (Memᴰ.tail k) = let v = place_of xs k in (suc v.0, omega (arith, v.1), v.2)

module _ (book : List ℕ) (rows : List Row) where
  pub row_in : (j : ℕ) → j < row_count rows → row_at book rows j ∈ rows_of book rows
  unfolding rows_of row_at
  row_in j h = Memᴰ.map (row_rule book) (entry_in rows j NO_ROW h)

  pub row_of : (r : Rule) → r ∈ rows_of book rows → (j : ℕ) × (j < row_count rows) × (row_at book rows j ≡ r)
  unfolding rows_of row_at
  row_of r k = place_of (row_rule book) NO_ROW rows k

-- the rules of the rows, place by place
module _ {A B : Type 0} (f : A → B) (d : A) (xs : List A) where
  first_ones : (n : ℕ) → n ≤ length xs → map f (take n xs) ≡ map (λ j. f (get_or xs j d)) (up_to n)
  unfolding up_to
  first_ones zero h = refl
  first_ones (suc n) h =
      ap (map f) (take-suc xs n d h) ∙ map_snoc f (take n xs) (get_or xs n d)
      ∙ ap (λ (l : List B). l ++ (f (get_or xs n d) ∷ [])) (first_ones n (omega arith))
      ∙ sym (map_snoc (λ j. f (get_or xs j d)) (up_to n) n)

pub rows_listed : (book : List ℕ) (rows : List Row) → rows_of book rows ≡ map (row_at book rows) (up_to (row_count rows))
unfolding rows_of row_at
rows_listed book rows = ap (map (row_rule book)) (sym (take-length rows)) ∙ first_ones (row_rule book) NO_ROW rows (length rows) (omega arith)

-- the bit of the layer says whether a row is alive: a row's head has one name
pub alive_told : (book : List ℕ) (rows : List Row) (rejects : List ℕ) (j h layer : ℕ) → h ≡ head_name rows j → layer ≡ row_layer rows j → (t : Bool)
    → t ≡ eqb (bit_of (get_or rejects h 0) layer) 1 → not t ≡ alive rejects (row_at book rows j)
unfolding alive row_at
alive_told book rows rejects j h layer eh el t e = ap not (rw (name_back (head_name rows j), sym eh, sym el) e)

-- lists that are alike at each place give the same values
map_alike : {A B : Type 0} (f : A → B) (d : A) (xs ys : List A) → length ys ≡ length xs → ((j : ℕ) → f (get_or xs j d) ≡ f (get_or ys j d)) → map f xs ≡ map f ys
map_alike f d [] [] e h = refl
map_alike f d [] (y ∷ ys) e h = absurd (omega arith)
map_alike f d (x ∷ xs) [] e h = absurd (omega arith)
map_alike f d (x ∷ xs) (y ∷ ys) e h = ap₂ (λ (z : _) (zs : List _). z ∷ zs) (h 0) (map_alike f d xs ys (omega arith) (λ j. h (suc j)))

-- tables that are the same but for the masks
module _ {rows table : List Row} (r : SameRules rows table) where
  pub count_same : row_count table ≡ row_count rows
  count_same = r.size

  pub name_kept : (j : ℕ) → head_name table j ≡ head_name rows j
  name_kept j = ap (λ (x : Row). x.head) (r.same j)

  pub layer_kept : (j : ℕ) → row_layer table j ≡ row_layer rows j
  layer_kept j = ap (λ (x : Row). x.layer) (r.same j)

  body_kept : (j : ℕ) → (nth table j).body ≡ (nth rows j).body
  body_kept j = ap (λ (x : Row). x.body) (r.same j)

  pub bounded-same : RowsBounded rows → RowsBounded table
  bounded-same w = record {
    name = λ j h. omega (arith, name_kept j, w.name j (omega (arith, count_same)));
    layer_low = λ j h. omega (arith, layer_kept j, w.layer_low j (omega (arith, count_same)));
  }

  pub fits-same : {book : List ℕ} → RowsFit book rows → RowsFit book table
  fits-same {book} w = record {
    bounded = bounded-same w.bounded;
    part = λ j h. subst (SpanFits book) (sym (body_kept j)) (w.part j (omega (arith, count_same)));
  }

  pub row_kept : (book : List ℕ) (j : ℕ) → row_at book table j ≡ row_at book rows j
  unfolding row_at
  row_kept book j = cc (name_kept j, layer_kept j, body_kept j)

  pub rows_same : (book : List ℕ) → rows_of book table ≡ rows_of book rows
  unfolding rows_of row_at
  rows_same book = map_alike (row_rule book) NO_ROW table rows (sym r.size) (λ j. row_kept book j)
