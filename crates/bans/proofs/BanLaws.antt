-- The bodies of the constraints: the walk over the rules' records that finds them, and the chain over them that reads each.
-- Assumes nothing.
use mathlib.Core.Path.{◌≡◌, refl, sym, ap, subst, ◌∙◌}
use mathlib.Core.Bool.{Bool, ◌||◌}
use mathlib.Core.List.{List, [], ◌∷◌, map}
use Prim.Native.Nat.{ℕ, ◌<◌}
use lib.ListN.{length, get_or}
use Rattle.std.specs.List.{list_any}
use Rattle.std.proofs.lemmas.List.{get_or_default}
use Rattle.base.specs.Lists.{any, filter}
use Rattle.format.specs.Book.{Literal, literals_of, is_constraint}
use Rattle.table.specs.declared.Span.{Span}
use Rattle.table.specs.declared.TheConstants.{NO_SPAN}
use Rattle.table.specs.Rows.{SpanFits, span_bytes, takes_constraint}
use Rattle.table.specs.Records.{Gathered, BodyOf, rules_from}
use Rattle.table.proofs.WalkLaws.{stand_values, stand_fits}
use Rattle.bans.specs.Bans.{body_of, bodies_of, BansFit, BansMade}

-- each lies in the book, at whatever default it is read
pub ban_fits : (book : List ℕ) (bans : List Span) → BansFit book bans → (ban : Span) (k : ℕ) → k < length bans → ban ≡ get_or bans k ban → SpanFits book ban
ban_fits book bans w ban k h e = subst (SpanFits book) (sym (get_or_default bans k ban NO_SPAN h) ∙ sym e) (w k h)

-- a test of each body, place by place
pub any_body : (p : List Literal → Bool) (book : List ℕ) (bans : List Span) → list_any (λ ban. p (literals_of (span_bytes book ban))) bans ≡ any p (bodies_of book bans)
unfolding any bodies_of body_of
any_body p book [] = refl
any_body p book (ban ∷ bans) = ap (λ (c : Bool). p (literals_of (span_bytes book ban)) || c) (any_body p book bans)

-- what the walk gathers are the bodies
pub bans_made : {book : List ℕ} {first mask : ℕ} {bans : List Span} → Gathered is_constraint BodyOf book first mask bans
    → BansMade (map (λ r. r.body) (filter (takes_constraint mask) (rules_from book first))) book bans
unfolding bodies_of body_of takes_constraint
bans_made {book} {first} {mask} {bans} w = record {
  room = w.room;
  fits = stand_fits (body_of book) (λ r. r.body) (SpanFits book) bans _ w.entries NO_SPAN;
  bodies_are = stand_values (body_of book) (λ r. r.body) (SpanFits book) bans _ w.entries;
}
