-- The numbers that an answer carries fit the 64 bits: g is at most `max_branching`, k at most 2 to its power, and no more facts differ than a
-- book has, since the call was granted. Used by lesson_list, lesson_one, lesson_place, lesson_nearest and lesson_count. Assumes nothing.
use mathlib.Core.List.{List}
use Prim.Native.Nat.{ℕ}
use Rattle.list_call.specs.Reply.{list_reply}
use Rattle.list_call.proofs.Condition3Laws.{granted-small}
use Rattle.one_call.specs.Reply.{one_reply}
use Rattle.one_call.proofs.OneLaws as one_laws
use Rattle.near_call.specs.Reply.{near_reply}
use Rattle.near_call.proofs.NearLaws as near-laws
use Rattle.place_call.specs.Reply.{place_reply}
use Rattle.place_call.proofs.PlaceLaws as place-laws
use Rattle.count_call.specs.Reply.{count_reply}
use Rattle.count_call.proofs.CountLaws as count-laws
use Rattle.lesson.specs.Answers.{ListFits, OneFits, PlaceFits, NearFits, CountFits}

module _ (book : List ℕ) (layer off : ℕ) where
  pub list_fits : (buffer : List ℕ) → ListFits (list_reply book layer off buffer)
  list_fits buffer l e = granted-small (record { book = book; layer = layer; off = off; buffer = buffer }) l.states l.branching e

  pub one_fits : (buffer : List ℕ) → OneFits (one_reply book layer off buffer)
  one_fits buffer g e = one_laws.granted-small book layer off buffer g e

  pub place-fits : (fact : ℕ) → PlaceFits (place_reply book layer off fact)
  place-fits fact p e = place-laws.granted-small book layer off fact p.place p.branching e

  pub near_fits : (candidate buffer : List ℕ) → NearFits (near_reply book layer off candidate buffer)
  near_fits candidate buffer n e = near-laws.granted-small book layer off candidate buffer n.distance n.branching e

  pub count_fits : (condition : List ℕ) → CountFits (count_reply book layer off condition)
  count_fits condition k e = count-laws.granted-small book layer off condition k.states k.branching k.fitting e
