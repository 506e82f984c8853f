-- The test `below` passes exactly where there is a path: a path is what follows by the arrows, read backwards. Assumes nothing.
use mathlib.Core.Path.{◌≡◌, refl, sym, subst}
use mathlib.Core.List.Memᴰ
use mathlib.Core.List.{List, map}
use Prim.Native.Nat.{ℕ}
use lib.Dec.{T, eqb, eqb_refl, eqb→eq}
use Rattle.base.specs.Lists.{filter}
use Rattle.base.specs.Closure.{Clause, Consequence, given, by_clause}
use Rattle.layers.specs.Layers.{Arrow, Path, single, longer, backwards, layers_below, below}
use Rattle.base.proofs.Members.{◌∈◌, filter-from, filter_into}
use Rattle.base.proofs.ClosureLaws.{member-sound, member_complete, closure-sound, closure_complete}

module _ (arrows : List Arrow) (j : ℕ) where
  starts : List ℕ
  starts = map (λ a. a.earlier) (filter (λ a. eqb a.later j) arrows)

  path_of : (i : ℕ) → Consequence (map backwards arrows) starts i → Path arrows j i
  unfolding starts backwards
  path_of i (given k) =
      let w : (a : Arrow) × a ∈ filter (λ a. eqb a.later j) arrows × (a.earlier ≡ i) = Memᴰ.of_map (λ a. a.earlier) (filter (λ a. eqb a.later j) arrows) k in
      let v : w.0 ∈ arrows × T (eqb w.0.later j) = filter-from (λ a. eqb a.later j) arrows w.1 in
      subst (Path arrows j) w.2 (single w.0 v.0 (eqb→eq w.0.later j v.1))
  path_of i (by_clause c k h) = go (Memᴰ.of_map backwards arrows k) (λ x n. path_of x (h x n))
    where
      go : (a : Arrow) × a ∈ arrows × (backwards a ≡ c) → ((x : ℕ) → x ∈ c.premises → Path arrows j x) → Path arrows j c.conclusion
      go w f =
          subst (λ (d : Clause ℕ). Path arrows j d.conclusion) w.2
          (longer w.0 w.1 (f w.0.later (subst (λ (d : Clause ℕ). w.0.later ∈ d.premises) w.2 (Memᴰ.head refl))))

  of_path : (i : ℕ) → Path arrows j i → Consequence (map backwards arrows) starts i
  unfolding starts backwards
  of_path i (single a k e) = given (Memᴰ.map (λ a. a.earlier) (filter_into (λ a. eqb a.later j) k (subst (λ (x : ℕ). T (eqb a.later x)) e (eqb_refl a.later))))
  of_path i (longer a k p) =
      by_clause (backwards a) (Memᴰ.map backwards k)
      (λ x n. subst (Consequence (map backwards arrows) starts) (sym (Memᴰ.eq_of_singleton n)) (of_path a.later p))

pub below-sound : (links : List Arrow) (i j : ℕ) → T (below links i j) → Path links j i
unfolding below layers_below starts
below-sound links i j t =
    path_of links j i
    (closure-sound eqb eqb→eq eqb_refl (map backwards links) (starts links j) i (member-sound eqb eqb→eq eqb_refl i (layers_below links j) t))

pub below_complete : (links : List Arrow) (i j : ℕ) → Path links j i → T (below links i j)
unfolding below layers_below starts
below_complete links i j p =
    member_complete eqb eqb→eq eqb_refl
    (closure_complete eqb eqb→eq eqb_refl (map backwards links) (starts links j) i (of_path links j i p))
