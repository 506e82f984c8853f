-- What the readers owe: operands and what goes on behind them, `!`, brackets, a name. Used by the proof of their cycle. Assumes nothing.
use mathlib.Core.Path.{◌≡◌, refl, sym, ap, subst, ◌∙◌}
use mathlib.Core.Bool.{Bool, true, false}
use mathlib.Core.List.{List, [], ◌∷◌, ◌++◌, append_assoc}
use Prim.Native.Nat.{ℕ, ◌+◌, ◌-◌, ◌≤◌}
use native.Mathlib.Omega.{arith}
use lib.ListN.{length, take, drop, length-append, length-drop}
use lib.Seq.{take-length}
use Rattle.grammar.specs.Conditions.{Condition, Atom, Not, Bracket}
use Rattle.grammar.specs.Reader.{Operator, disjunction, conjunction, byte_of, Before, nothing, after, joined, Task, from, on, bracket, operand, Took, operand_took, operator_stop, operator_go, not_took, shut_took, name_took}
use Rattle.grammar.proofs.OneReadingLaws.{first_same, rest-same, begins, once}
use Rattle.std.specs.declared.option.Option.{Option}
use Rattle.std.specs.Bool.{then_some}
use Rattle.condition.specs.declared.Code.{Code}
use Rattle.condition.specs.declared.Code.TheVariants as code
use Rattle.condition.specs.declared.Reader.{Reader}
use Rattle.condition.specs.Code.{code_of, postfix}
use Rattle.condition.specs.Outcome.{NameOf}
use Rattle.condition.specs.Readers.{Passes, Written, Outcome}

-- a byte that was passed, or not
abbrev Passed : ℕ → Reader → Reader → Type 0
Passed c old new = Passes c old new true

abbrev Stayed : ℕ → Reader → Reader → Type 0
Stayed c old new = Passes c old new false

-- the same reading from an equal reader
pub read_from : {k : Task} {old mid new : Reader} → mid ≡ old → Written k mid new → Written k old new
read_from {k} {new = new} e h = subst (λ (r : Reader). Written k r new) e h

abbrev pub Unread : Task → Reader → Type 0
Unread k r = (w : Condition) (u : List ℕ) → Took k r.rest.now w u → ⊥

pub outcome_from : (k : Task) {old mid : Reader} (new : Reader) (r : Option (Unit {0})) → mid ≡ old → Outcome k mid new r → Outcome k old new r
outcome_from k new r e h = subst (λ (x : Reader). Outcome k x new r) e h

-- ---- operands
-- the condition so far, of the operands that were passed
pub record Operands (o : Operator) (old new : Reader) : Type 0 where
  pub tree : Condition
  pub onward : (w : Condition) (u : List ℕ) → Took (on o tree) new.rest.now w u → Took (from o nothing) old.rest.now w u
  pub back : (w : Condition) (u : List ℕ) → Took (from o nothing) old.rest.now w u → Took (on o tree) new.rest.now w u
  pub wrote : new.code ≡ old.code ++ postfix tree
  pub room : length new.code + length new.rest.now ≤ length old.code + length old.rest.now

-- what goes on behind an operand is the same behind the same operand
behind : (o : Operator) (p : Before) {s t u : List ℕ} {b w : Condition} → Took (operand o) s b t → Took (from o p) s w u → Took (on o (joined o p b)) t w u
behind o p {t = t} {u = u} {b = b} {w = w} h (operand_took {t = y} {a = a} f e g) =
    let x = once h f in
    subst (λ (l : List ℕ). Took (on o (joined o p b)) l w u) (sym x.left) (subst (λ (z : Condition). Took (on o z) y w u) (e ∙ ap (joined o p) (sym x.tree)) g)

pub first_operand : (o : Operator) {old new : Reader} → Written (operand o) old new → Operands o old new
first_operand o h = record {
  tree = h.tree;
  onward = λ w u g. operand_took h.took refl g;
  back = λ w u f. behind o nothing h.took f;
  wrote = h.wrote;
  room = h.room;
}

no_operand : (o : Operator) {p : Before} {s u : List ℕ} {w : Condition} → Took (from o p) s w u → ((b : Condition) (t : List ℕ) → Took (operand o) s b t → ⊥) → ⊥
no_operand o (operand_took {t = t} {b = b} h e g) n = n b t h

-- an operator and what stands behind it
go_on : (o : Operator) {t u y : List ℕ} {a w : Condition} → t ≡ byte_of o ∷ y → Took (on o a) t w u → Took (from o (after a)) y w u
go_on o {y = y} e (operator_stop n) = absurd (n y e)
go_on o {u = u} {a = a} {w = w} e (operator_go f g) = subst (λ (l : List ℕ). Took (from o (after a)) l w u) (rest-same (sym f ∙ e)) g

postfix-joined : (o : Operator) (a b : Condition) → postfix a ++ (postfix b ++ (code_of o ∷ [])) ≡ postfix (joined o (after a) b)
unfolding postfix
postfix-joined disjunction a b = refl
postfix-joined conjunction a b = refl

pub next_operand : (o : Operator) {old mid next last new : Reader} → Operands o old mid → Passed (byte_of o) mid next → Written (operand o) next last → new.rest ≡ last.rest → new.code ≡ last.code ++ (code_of o ∷ []) → Operands o old new
next_operand o {old} {mid} {next} {last} {new} h p x r e =
    let rest : last.rest.now ≡ new.rest.now = ap (λ y. y.now) (sym r) in
    record {
      tree = joined o (after h.tree) x.tree;
      onward = λ w u g. h.onward w u (operator_go p.0 (operand_took (subst (λ (l : List ℕ). Took (operand o) next.rest.now x.tree l) rest x.took) refl g));
      back = λ w u f. subst (λ (l : List ℕ). Took (on o (joined o (after h.tree) x.tree)) l w u) rest (behind o (after h.tree) x.took (go_on o p.0 (h.back w u f)));
      wrote = e ∙ ap (λ (l : List Code). l ++ (code_of o ∷ [])) (x.wrote ∙ ap (λ (l : List Code). l ++ postfix x.tree) (p.1 ∙ h.wrote))
          ∙ append_assoc (old.code ++ postfix h.tree) (postfix x.tree) (code_of o ∷ []) ∙ append_assoc old.code (postfix h.tree) (postfix x.tree ++ (code_of o ∷ []))
          ∙ ap (λ (l : List Code). old.code ++ l) (postfix-joined o h.tree x.tree);
      room = omega (arith, h.room, ap length p.0, ap length p.1, x.room, ap length rest, ap length e, length-append last.code (code_of o ∷ []));
    }

pub operands_end : (o : Operator) {old mid new : Reader} → Operands o old mid → Stayed (byte_of o) mid new → Written (from o nothing) old new
operands_end o {old} {mid} {new} h n =
    subst (λ (r : Reader). Written (from o nothing) old r) (sym n.0)
    record { tree = h.tree; took = h.onward h.tree _ (operator_stop n.1); wrote = h.wrote; room = h.room }

pub operands_none : (o : Operator) (old mid next : Reader) → Operands o old mid → Passed (byte_of o) mid next → Unread (operand o) next → Unread (from o nothing) old
operands_none o old mid next h p n w u f = no_operand o (go_on o p.0 (h.back w u f)) n

-- ---- an operand of `&`, by its first byte
shut_only : {x y u : List ℕ} {w : Condition} → x ≡ 40 ∷ y → Took bracket x w u → ((a : Condition) (v : List ℕ) → Took (from disjunction nothing) y a v → v ≡ 41 ∷ u → ⊥) → ⊥
shut_only e (not_took f h) n = omega (arith, first_same (sym e ∙ f))
shut_only e (shut_took {v = v} {a = a} f h g) n = n a v (subst (λ (l : List ℕ). Took (from disjunction nothing) l a v) (rest-same (sym f ∙ e)) h) g
shut_only e (name_took {t = t} {u = u} f d some few m) n = omega (arith, begins t u d some f e)

-- behind `!`
pub negated_read : {old next last new : Reader} → Passed 33 old next → Written bracket next last → new.rest ≡ last.rest → new.code ≡ last.code ++ (code.Not ∷ []) → Written bracket old new
unfolding postfix
negated_read {old} {next} {last} {new} p x r e =
    let rest : last.rest.now ≡ new.rest.now = ap (λ y. y.now) (sym r) in
    record {
      tree = Not x.tree;
      took = not_took p.0 (subst (λ (l : List ℕ). Took bracket next.rest.now x.tree l) rest x.took);
      wrote = e ∙ ap (λ (l : List Code). l ++ (code.Not ∷ [])) (x.wrote ∙ ap (λ (l : List Code). l ++ postfix x.tree) p.1) ∙ append_assoc old.code (postfix x.tree) (code.Not ∷ []);
      room = omega (arith, ap length p.0, ap length p.1, x.room, ap length rest, ap length e, length-append last.code (code.Not ∷ []));
    }

-- in brackets
shut_read : {old next last new : Reader} → Passed 40 old next → Written (from disjunction nothing) next last → Passed 41 last new → Written bracket old new
unfolding postfix
shut_read {old} p x q = record {
  tree = Bracket x.tree;
  took = shut_took p.0 x.took q.0;
  wrote = q.1 ∙ x.wrote ∙ ap (λ (l : List Code). l ++ postfix x.tree) p.1;
  room = omega (arith, ap length p.0, ap length p.1, x.room, ap length q.0, ap length q.1);
}

unshut_none : (old next last new : Reader) → Passed 40 old next → Written (from disjunction nothing) next last → Stayed 41 last new → Unread bracket old
unshut_none old next last new p x n w u f = shut_only p.0 f (λ a v d e. n.1 u ((once x.took d).left ∙ e))

pub shut_or_none : (old next last new : Reader) (b : Bool) → Passed 40 old next → Written (from disjunction nothing) next last → Passes 41 last new b → Outcome bracket old new (then_some b tt)
shut_or_none old next last new true p x q = shut_read p x q
shut_or_none old next last new false p x n = unshut_none old next last new p x n

-- a name
pub name_read : {old new : Reader} (digits : ℕ) {f : ℕ} → NameOf old.rest.now digits f → new.rest.now ≡ take (length old.rest.now - digits) (drop digits old.rest.now) → new.code ≡ old.code ++ (code.Name f ∷ []) → Written bracket old new
unfolding postfix
name_read {old} {new} digits {f} h q e =
    let r : new.rest.now ≡ drop digits old.rest.now = q ∙ ap (λ (n : ℕ). take n (drop digits old.rest.now)) (sym (length-drop digits old.rest.now)) ∙ take-length (drop digits old.rest.now) in
    record {
      tree = Atom f;
      took = subst (λ (l : List ℕ). Took bracket old.rest.now (Atom f) l) (sym r) h.took;
      wrote = e;
      room = omega (arith, h.some, h.within, ap length r, length-drop digits old.rest.now, ap length e, length-append old.code (code.Name f ∷ []));
    }
