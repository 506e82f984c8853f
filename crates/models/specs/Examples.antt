-- Document 01's starred classroom examples, one of them as document 02, (i), has it, and one of document 02, (c), as one table and one
-- theorem: the bytes of the listing, and g. Assumes nothing.
use Rattle.std.specs.Prelude.{Bool, true, false, ◌&&◌, List, [], ◌∷◌, ◌++◌, map, ℕ, T, eqb, length}
use Rattle.base.specs.Lists.{cons_if, all, any, filter, flat, up_to}
use Rattle.base.specs.Closure.{member, fires, extend, saturate, closure}
use Rattle.layers.specs.Layers.{backwards, layers_below, below}
use Rattle.format.specs.Book.{u16_at, u32_at, records_in, records, section_bytes, section_end, section_records, literal_of, literals_of, arrow_of, rule_of, is_falsity, is_constraint, atom_count, layer_count, rule_section, arrow_records, rule_records, arrows_of, rules_of, book_of}
use Rattle.models.specs.Program.{Program, in_set, relevant, program_at}
use Rattle.models.specs.StableModels.{atom_holds, complement, same_literal, signed, holds, body_holds, leans_on_itself, clause_of, overrides, rejected, default, defaults, active_rules, least, agrees_at, settled, forbidden, stable}
use Rattle.models.specs.Branching.{can_reject, branching, branching_atoms, branching_count}
use Rattle.models.specs.Listing.{interpretations, stable_models, bit_value, bits_value, packed, be16, be32, record_size, record_of, listing_of, listing}

-- a book's bytes from its parts, for books of fewer than 256 bytes
unfoldable pub framed : List ℕ → List ℕ
framed r = length r ∷ r

unfoldable pub section : List (List ℕ) → List ℕ
section rs = 0 ∷ 0 ∷ 0 ∷ length (flat (map framed rs)) ∷ 0 ∷ length rs ∷ flat (map framed rs)

unfoldable pub bytes_of : ℕ → ℕ → List (List ℕ) → List (List ℕ) → List ℕ
bytes_of n layers arrows rules =
    let rest : List ℕ = section arrows ++ section rules in 1 ∷ 0 ∷ 0 ∷ 0 ∷ length (0 ∷ 0 ∷ 0 ∷ 0 ∷ 0 ∷ 0 ∷ 0 ∷ 0 ∷ rest) ∷ 0 ∷ n ∷ layers ∷ rest

-- p is fact 0, q is fact 1
unfoldable pub p : List ℕ
p = 0 ∷ 0 ∷ []

unfoldable pub not_p : List ℕ
not_p = 128 ∷ 0 ∷ []

unfoldable pub q : List ℕ
q = 0 ∷ 1 ∷ []

unfoldable pub not_q : List ℕ
not_q = 128 ∷ 1 ∷ []

-- the head of a constraint
unfoldable pub never : List ℕ
never = 127 ∷ 255 ∷ []

-- a rule of a layer: its head, and the literals of its body
unfoldable pub rule_in : ℕ → List ℕ → List (List ℕ) → List ℕ
rule_in layer head body = layer ∷ (head ++ flat body)

unfoldable pub arrow : ℕ → ℕ → List ℕ
arrow i j = i ∷ j ∷ []

-- book B, as document 01 prints it
unfoldable pub book_b : List ℕ
book_b =
    1 ∷ 0 ∷ 0 ∷ 0 ∷ 48 ∷ 0 ∷ 3 ∷ 4
    ∷ 0 ∷ 0 ∷ 0 ∷ 12 ∷ 0 ∷ 4 ∷ 2 ∷ 0 ∷ 1 ∷ 2 ∷ 0 ∷ 2 ∷ 2 ∷ 1 ∷ 3 ∷ 2 ∷ 2 ∷ 3
    ∷ 0 ∷ 0 ∷ 0 ∷ 16 ∷ 0 ∷ 3 ∷ 5 ∷ 0 ∷ 0 ∷ 0 ∷ 128 ∷ 1 ∷ 3 ∷ 1 ∷ 0 ∷ 2 ∷ 5 ∷ 2 ∷ 128 ∷ 0 ∷ 0 ∷ 2 ∷ []

pub record Example : Type 0 where
  pub book : List ℕ
  pub layer : ℕ
  pub written : List ℕ
  pub branches : ℕ

unfoldable pub table : List Example
table =
    record { book = book_b; layer = 3; written = 1 ∷ 0 ∷ 0 ∷ 0 ∷ 12 ∷ 0 ∷ 3 ∷ 0 ∷ 0 ∷ 0 ∷ 1 ∷ 32 ∷ []; branches = 2 }
    ∷ record { book = book_b; layer = 1; written = 1 ∷ 0 ∷ 0 ∷ 0 ∷ 12 ∷ 0 ∷ 3 ∷ 0 ∷ 0 ∷ 0 ∷ 1 ∷ 160 ∷ []; branches = 1 }
    ∷ record { book = book_b; layer = 2; written = 1 ∷ 0 ∷ 0 ∷ 0 ∷ 12 ∷ 0 ∷ 3 ∷ 0 ∷ 0 ∷ 0 ∷ 1 ∷ 128 ∷ []; branches = 2 }
    -- p if not q, q if not p
    ∷ record {
      book = bytes_of 2 1 [] (rule_in 0 p (not_q ∷ []) ∷ rule_in 0 q (not_p ∷ []) ∷ []);
      layer = 0;
      written = 1 ∷ 0 ∷ 0 ∷ 0 ∷ 13 ∷ 0 ∷ 2 ∷ 0 ∷ 0 ∷ 0 ∷ 2 ∷ 64 ∷ 128 ∷ [];
      branches = 2;
    }
    -- p if not p
    ∷ record { book = bytes_of 1 1 [] (rule_in 0 p (not_p ∷ []) ∷ []); layer = 0; written = 1 ∷ 0 ∷ 0 ∷ 0 ∷ 11 ∷ 0 ∷ 1 ∷ 0 ∷ 0 ∷ 0 ∷ 0 ∷ []; branches = 1 }
    -- p and not p in one layer
    ∷ record { book = bytes_of 1 1 [] (rule_in 0 p [] ∷ rule_in 0 not_p [] ∷ []); layer = 0; written = 1 ∷ 0 ∷ 0 ∷ 0 ∷ 11 ∷ 0 ∷ 1 ∷ 0 ∷ 0 ∷ 0 ∷ 0 ∷ []; branches = 0 }
    -- p if p
    ∷ record { book = bytes_of 1 1 [] (rule_in 0 p (p ∷ []) ∷ []); layer = 0; written = 1 ∷ 0 ∷ 0 ∷ 0 ∷ 12 ∷ 0 ∷ 1 ∷ 0 ∷ 0 ∷ 0 ∷ 1 ∷ 0 ∷ []; branches = 0 }
    -- p in layer 0, not p in 1, both with arrows to 2
    ∷ record {
      book = bytes_of 1 3 (arrow 0 2 ∷ arrow 1 2 ∷ []) (rule_in 0 p [] ∷ rule_in 1 not_p [] ∷ []);
      layer = 2;
      written = 1 ∷ 0 ∷ 0 ∷ 0 ∷ 11 ∷ 0 ∷ 1 ∷ 0 ∷ 0 ∷ 0 ∷ 0 ∷ [];
      branches = 0;
    }
    -- layer 0: p, q; layer 1, above it: not p if q; not q if p
    ∷ record {
      book = bytes_of 2 2 (arrow 0 1 ∷ []) (rule_in 0 p [] ∷ rule_in 0 q [] ∷ rule_in 1 not_p (q ∷ []) ∷ rule_in 1 not_q (p ∷ []) ∷ []);
      layer = 1;
      written = 1 ∷ 0 ∷ 0 ∷ 0 ∷ 13 ∷ 0 ∷ 2 ∷ 0 ∷ 0 ∷ 0 ∷ 2 ∷ 64 ∷ 128 ∷ [];
      branches = 2;
    }
    -- layer 0: p; layer 1, above it: not p if not p
    ∷ record {
      book = bytes_of 1 2 (arrow 0 1 ∷ []) (rule_in 0 p [] ∷ rule_in 1 not_p (not_p ∷ []) ∷ []);
      layer = 1;
      written = 1 ∷ 0 ∷ 0 ∷ 0 ∷ 12 ∷ 0 ∷ 1 ∷ 0 ∷ 0 ∷ 0 ∷ 1 ∷ 128 ∷ [];
      branches = 1;
    }
    -- layer 0: p, not p; layer 1, above it: p if p, which displaces nothing: document 02, (i), changed the example
    ∷ record {
      book = bytes_of 1 2 (arrow 0 1 ∷ []) (rule_in 0 p [] ∷ rule_in 0 not_p [] ∷ rule_in 1 p (p ∷ []) ∷ []);
      layer = 1;
      written = 1 ∷ 0 ∷ 0 ∷ 0 ∷ 11 ∷ 0 ∷ 1 ∷ 0 ∷ 0 ∷ 0 ∷ 0 ∷ [];
      branches = 0;
    }
    -- p if not q, q if not p, never p
    ∷ record {
      book = bytes_of 2 1 [] (rule_in 0 p (not_q ∷ []) ∷ rule_in 0 q (not_p ∷ []) ∷ rule_in 0 never (p ∷ []) ∷ []);
      layer = 0;
      written = 1 ∷ 0 ∷ 0 ∷ 0 ∷ 12 ∷ 0 ∷ 2 ∷ 0 ∷ 0 ∷ 0 ∷ 1 ∷ 64 ∷ [];
      branches = 2;
    }
    ∷ []

unfoldable pub same_bytes : List ℕ → List ℕ → Bool
same_bytes [] [] = true
same_bytes [] (y ∷ ys) = false
same_bytes (x ∷ xs) [] = false
same_bytes (x ∷ xs) (y ∷ ys) = let rest : Bool = same_bytes xs ys in eqb x y && rest

-- the program that an example's layer sees, with no layer switched off
unfoldable pub seen : Example → Program
seen e = program_at (book_of e.book) e.layer 0

unfoldable pub right : Example → Bool
right e = same_bytes (listing (seen e)) e.written && eqb (branching_count (seen e)) e.branches

-- Every example of the table is right; `examples_say` of proofs/ExampleLaws.antt gives the equations.
pub examples : T (all right table)
unfolding framed section bytes_of p not_p q not_q never rule_in arrow book_b table same_bytes seen right cons_if all any filter flat up_to member fires extend saturate closure backwards layers_below below u16_at u32_at records_in records section_bytes section_end section_records literal_of literals_of arrow_of rule_of is_falsity is_constraint atom_count layer_count rule_section arrow_records rule_records arrows_of rules_of book_of in_set relevant program_at atom_holds complement same_literal signed holds body_holds leans_on_itself clause_of overrides rejected default defaults active_rules least agrees_at settled forbidden stable can_reject branching branching_atoms branching_count interpretations stable_models bit_value bits_value packed be16 be32 record_size record_of listing_of listing
examples = tt
