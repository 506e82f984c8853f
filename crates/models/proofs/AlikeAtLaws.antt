-- Document 02, (n), of the definitions: two books that agree at a layer and below it have programs there that are alike. Which rules count
-- goes by the layers below the driven one and by the set; displacement goes by the order among these layers. Used by crates/other_layers.
-- Assumes nothing.
use mathlib.Core.Path.{◌≡◌, sym, ap, subst}
use mathlib.Core.Logic.{◌⊎◌, inl, inr}
use mathlib.Core.Bool.{Bool, not, ◌&&◌, ◌||◌}
use mathlib.Core.List.Memᴰ
use mathlib.Core.List.{List, map}
use Prim.Native.Nat.{ℕ}
use lib.Dec.{T, eqb, eqb→eq}
use Rattle.base.specs.Lists.{filter}
use Rattle.base.proofs.Members.{◌∈◌, and_left, and_right, and_both, or_cases, filter-from, filter_into}
use Rattle.layers.specs.Layers.{below}
use Rattle.format.specs.Book.{Literal, Rule, Book, is_falsity, is_constraint}
use Rattle.models.specs.Program.{in_set, AtOrBelow, relevant, program_at}
use Rattle.models.specs.StableModels.{complement, same_literal, leans_on_itself, overrides}
use Rattle.models.specs.Alike.{SameRule, HasRule, HasBody, Alike}

-- ---- which rules count
counts : (b : Book) (layer off : ℕ) (r : Rule) → T (relevant b layer off r) → AtOrBelow b layer r.layer
unfolding relevant
counts b layer off r t =
    go (or_cases (eqb r.layer layer) (below b.arrows r.layer layer) (and_left (eqb r.layer layer || below b.arrows r.layer layer) (not (in_set off r.layer)) t))
  where
    go : T (eqb r.layer layer) ⊎ T (below b.arrows r.layer layer) → AtOrBelow b layer r.layer
    go (inl e) = inl (eqb→eq r.layer layer e)
    go (inr u) = inr u

-- by its layer alone
relevant-written : (b : Book) (layer off : ℕ) {r t : Rule} → SameRule r t → relevant b layer off r ≡ relevant b layer off t
unfolding relevant
relevant-written b layer off s = ap (λ (i : ℕ). (eqb i layer || below b.arrows i layer) && not (in_set off i)) s.layer_same

constraint_written : {r t : Rule} → SameRule r t → is_constraint r ≡ is_constraint t
unfolding is_constraint
constraint_written s = ap is_falsity s.head_same

-- ---- from one book to the other
module _ (b c : Book) (layer off off' : ℕ)
    (below_same : (i : ℕ) → below b.arrows i layer ≡ below c.arrows i layer)
    (off_same : (i : ℕ) → AtOrBelow b layer i → in_set off i ≡ in_set off' i)
    (rules-to : (r : Rule) → r ∈ b.rules → AtOrBelow b layer r.layer → HasRule c.rules r) where
  relevant-to : (r : Rule) → T (relevant b layer off r) → T (relevant c layer off' r)
  unfolding relevant
  relevant-to r t =
      and_both (eqb r.layer layer || below c.arrows r.layer layer) (not (in_set off' r.layer))
      (subst (λ (x : Bool). T (eqb r.layer layer || x)) (below_same r.layer) (and_left (eqb r.layer layer || below b.arrows r.layer layer) (not (in_set off r.layer)) t))
      (subst (λ (x : Bool). T (not x)) (off_same r.layer (counts b layer off r t)) (and_right (eqb r.layer layer || below b.arrows r.layer layer) (not (in_set off r.layer)) t))

  -- the rules that count and pass a test that does not ask how a body is written: rules with a head, or constraints
  module _ (p : Rule → Bool) (written : (r t : Rule) → SameRule r t → p r ≡ p t) where
    rule_to : (r : Rule) → r ∈ filter (λ r. relevant b layer off r && p r) b.rules → HasRule (filter (λ r. relevant c layer off' r && p r) c.rules) r
    rule_to r k =
        let v : r ∈ b.rules × T (relevant b layer off r && p r) = filter-from (λ r. relevant b layer off r && p r) b.rules k in
        let u : T (relevant b layer off r) = and_left (relevant b layer off r) (p r) v.1 in
        let o : HasRule c.rules r = rules-to r v.0 (counts b layer off r u) in (
          o.0,
          filter_into (λ r. relevant c layer off' r && p r) o.1
              (and_both (relevant c layer off' o.0) (p o.0) (subst T (relevant-written c layer off' o.2) (relevant-to r u)) (subst T (written r o.0 o.2) (and_right (relevant b layer off r) (p r) v.1))),
          o.2,
        )

  body-to : (body : List Literal) → body ∈ map (λ r. r.body) (filter (λ r. relevant b layer off r && is_constraint r) b.rules)
      → HasBody (map (λ r. r.body) (filter (λ r. relevant c layer off' r && is_constraint r) c.rules)) body
  body-to body k =
      let v = Memᴰ.of_map (λ r. r.body) (filter (λ r. relevant b layer off r && is_constraint r) b.rules) k in
      let o = rule_to is_constraint (λ r t s. constraint_written s) v.0 v.1 in
      (o.0.body, Memᴰ.map (λ r. r.body) o.1, λ l. subst (λ (x : List Literal). (l ∈ x → l ∈ o.0.body) × (l ∈ o.0.body → l ∈ x)) v.2 (o.2.body_same l))

-- ---- the two programs
module _ (b c : Book) (layer off off' : ℕ) (atoms_same : b.atoms ≡ c.atoms)
    (below_same : (i : ℕ) → below b.arrows i layer ≡ below c.arrows i layer)
    (off_same : (i : ℕ) → AtOrBelow b layer i → in_set off i ≡ in_set off' i)
    (rules-to : (r : Rule) → r ∈ b.rules → AtOrBelow b layer r.layer → HasRule c.rules r)
    (rules-from : (r : Rule) → r ∈ c.rules → AtOrBelow c layer r.layer → HasRule b.rules r)
    (order_same : (i j : ℕ) → AtOrBelow b layer i → AtOrBelow b layer j → below b.arrows i j ≡ below c.arrows i j) where
  also_below : (i : ℕ) → AtOrBelow c layer i → AtOrBelow b layer i
  also_below i (inl e) = inl e
  also_below i (inr t) = inr (subst T (sym (below_same i)) t)

  off_back : (i : ℕ) → AtOrBelow c layer i → in_set off' i ≡ in_set off i
  off_back i k = sym (off_same i (also_below i k))

  in_book : (r : Rule) → r ∈ (program_at b layer off).rules → AtOrBelow b layer r.layer
  unfolding program_at
  in_book r k = counts b layer off r (and_left (relevant b layer off r) (not (is_constraint r)) (filter-from (λ r. relevant b layer off r && not (is_constraint r)) b.rules k).1)

  pub alike_at : Alike (program_at b layer off) (program_at c layer off')
  unfolding program_at overrides
  alike_at = record {
    atoms_same = atoms_same;
    to = rule_to b c layer off off' below_same off_same rules-to (λ r. not (is_constraint r)) (λ r t s. ap not (constraint_written s));
    from = rule_to c b layer off' off (λ i. sym (below_same i)) off_back rules-from (λ r. not (is_constraint r)) (λ r t s. ap not (constraint_written s));
    constraints_to = body-to b c layer off off' below_same off_same rules-to;
    constraints_from = body-to c b layer off' off (λ i. sym (below_same i)) off_back rules-from;
    overrides_same = λ t r k j.
        ap (λ (x : Bool). x && same_literal t.head (complement r.head) && not (leans_on_itself t)) (order_same r.layer t.layer (in_book r j) (in_book t k));
  }
