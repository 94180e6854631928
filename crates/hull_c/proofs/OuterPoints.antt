-- A candidate list of some points has their vertices, and is too long only if there are too many of them.
use Rattle.std.proofs.Common.{◌≡◌, ◌+◌, ◌<◌, ◌≤◌, ℕ, Bool, true, false, List, [], ◌∷◌, inl, inr, refl, sym, subst, arith, length}
use Rattle.std.specs.List.{Contains, items_where_true}
use Rattle.std.proofs.lemmas.List.Sums.{sum_by-cons}
use Rattle.lattice.specs.Plane.{Pair}
use Rattle.lattice.specs.declared.side.Side.{Side}
use Rattle.lattice.specs.declared.side.Side.TheVariants.{Lower}
use Rattle.hull_geometry.specs.CandidateLists.{IsCandidateList}
use Rattle.hull_geometry.proofs.Between.{set_few}
use Rattle.hull_geometry.proofs.CandidateListHulls.{candidate_lists_answer}
use Rattle.hull_geometry.proofs.PointLists.{AllPairs-none}
use Rattle.hull_set.specs.Held.{nothing_held, multiplicity_among, once}
use Rattle.leaf_trees.specs.Entries.{AreTooMany, held_after_adds}
use Rattle.leaf_trees.proofs.AddedSets.{after_multiplicity}
use Rattle.outer_points.specs.Sublists.{IsSublist}
use Rattle.hull_c.specs.VerticesOf.{AreVerticesOf}
use Rattle.hull_c.proofs.VerticesOf.{added_set, set_same}

-- a candidate list for both chains has the vertices of the points
pub outer_vertices : (points outer vertices : List Pair)
    → ((side : Side) → IsCandidateList side (Contains outer) (Contains points)) → AreVerticesOf outer vertices
    → AreVerticesOf points vertices
outer_vertices points outer vertices listed own =
    (candidate_lists_answer (held_after_adds nothing_held outer).points (held_after_adds nothing_held points).points
    (added_set outer nothing_held AllPairs-none) (added_set points nothing_held AllPairs-none) (λ side. record {
      among = λ t m. (set_same points t).1 ((listed side).among t ((set_same outer t).0 m));
      under = λ t m. elim ((listed side).under t ((set_same points t).0 m)) [
        | inl k ↦ inl ((set_same outer t).1 k)
        | inr k ↦ inr (k.0, k.1, (set_same outer k.0).1 k.2, (set_same outer k.1).1 k.3, k.4)
      ];
    })).vertices vertices own

-- a candidate list of points is not empty
pub some_outer : (points outer : List Pair) → ((side : Side) → IsCandidateList side (Contains outer) (Contains points))
    → 0 < length points → 0 < length outer
some_outer [] outer listed l = absurd (omega (arith, l))
some_outer (p ∷ points) outer listed l =
    elim ((listed Lower).under p (0, omega arith, refl)) [
      | inl m ↦ omega (arith, m.1)
      | inr k ↦ omega (arith, k.2.1)
    ]

-- no point is more often among some of the points than among all
no_more : (chosen : List Bool) (points : List Pair) (q : Pair)
    → multiplicity_among (items_where_true chosen points) q ≤ multiplicity_among points q
no_more [] points q = omega arith
no_more (b ∷ chosen) [] q = omega arith
no_more (true ∷ chosen) (p ∷ points) q =
    both _ _ (once p q) _ _ (sum_by-cons (λ t. once t q) p (items_where_true chosen points))
    (sum_by-cons (λ t. once t q) p points) (no_more chosen points q)
  where
    both : (s t n x y : ℕ) → s ≡ n + x → t ≡ n + y → x ≤ y → s ≤ t
    both s t n x y e f h = omega (arith, e, f, h)
no_more (false ∷ chosen) (p ∷ points) q =
    one _ (once p q) _ _ (sum_by-cons (λ t. once t q) p points) (no_more chosen points q)
  where
    one : (t n x y : ℕ) → t ≡ n + y → x ≤ y → x ≤ t
    one t n x y e h = omega (arith, e, h)

-- if some of the points are too many, so are all
pub all_too_many : (points outer : List Pair) (limit : ℕ) → IsSublist outer points
    → ((t : Pair) → Contains outer t → Contains points t) → AreTooMany nothing_held outer limit
    → AreTooMany nothing_held points limit
all_too_many points outer limit (chosen, l, e) among (inl (q, many)) =
    let some = after_multiplicity outer nothing_held q in
    let all = after_multiplicity points nothing_held q in
    let few = subst (λ (z : List Pair). multiplicity_among z q ≤ multiplicity_among points q) (sym e) (no_more chosen points q) in
    inl (q, omega (arith, many, some, all, few))
all_too_many points outer limit sublist among (inr many) =
    let few = set_few (held_after_adds nothing_held outer).points (held_after_adds nothing_held points).points
    (added_set outer nothing_held AllPairs-none)
    (λ t m. (set_same points t).1 (among t ((set_same outer t).0 m))) in
    inr (omega (arith, many, few))
