-- Points in another order have the same vertices.
use Rattle.std.proofs.Common.{◌≡◌, ℕ, zero, suc, ◌++◌, List, [], ◌∷◌, take, drop, inl, inr, sym, subst, arith}
use Rattle.std.specs.Prelude.{◌⊎◌, ◌↔◌}
use Rattle.std.specs.List.{Contains}
use Rattle.std.proofs.lemmas.List.{take-append-drop}
use Rattle.std.proofs.lemmas.List.Elements.{Contains-append_left, Contains-append_right, Contains-append_cases}
use Rattle.std.specs.List.Sorted.{IsPermutation}
use Rattle.std.proofs.lemmas.List.Sorted.{Contains-permutation, IsPermutation-sym}
use Rattle.lattice.specs.Covers.{IsPointSet}
use Rattle.lattice.specs.Plane.{Pair}
use Rattle.hull_geometry.proofs.PointLists.{AllPairs-none}
use Rattle.hull_geometry.proofs.SetLaws.{with_point_law}
use Rattle.hull_polygon.specs.Polygons.{IsOwnPolygon}
use Rattle.hull_set.specs.Held.{Held, nothing_held, with_new}
use Rattle.leaf_trees.specs.Entries.{held_after_adds}
use Rattle.hull_c.specs.VerticesOf.{AreVerticesOf, HaveSamePoints}

-- adding points leaves a point set
pub added_set : (ps : List Pair) (h : Held) → IsPointSet h.points → IsPointSet (held_after_adds h ps).points
added_set [] h s = s
added_set (p ∷ ps) h s = added_set ps (with_new p h) (with_point_law h.points p s).0

-- the points after the additions are those that were there and those that were added
added_from : (ps : List Pair) (h : Held) (t : Pair) → IsPointSet h.points
    → Contains (held_after_adds h ps).points t → Contains h.points t ⊎ Contains ps t
added_from [] h t s m = inl m
added_from (p ∷ ps) h t s m =
    elim (added_from ps (with_new p h) t (with_point_law h.points p s).0 m) [
      | inl k ↦ elim (((with_point_law h.points p s).1 t).0 k) [
        | inl e ↦ inr (0, omega arith, sym e)
        | inr i ↦ inl i
      ]
      | inr k ↦ inr (Contains-append_right (p ∷ []) ps t k)
    ]

-- the points after the additions contain all of them
added_all : (ps : List Pair) (h : Held) (t : Pair) → IsPointSet h.points → Contains h.points t ⊎ Contains ps t
    → Contains (held_after_adds h ps).points t
added_all [] h t s (inl m) = m
added_all [] h t s (inr m) = absurd (omega (arith, m.1))
added_all (p ∷ ps) h t s (inl m) =
    added_all ps (with_new p h) t (with_point_law h.points p s).0 (inl (((with_point_law h.points p s).1 t).1 (inr m)))
added_all (p ∷ ps) h t s (inr m) =
    elim (Contains-append_cases (p ∷ []) ps t m) [
      | inl k ↦ added_all ps (with_new p h) t (with_point_law h.points p s).0
          (inl (((with_point_law h.points p s).1 t).1 (inl (only p t k))))
      | inr k ↦ added_all ps (with_new p h) t (with_point_law h.points p s).0 (inr k)
    ]
  where
    only : (p t : Pair) → Contains (p ∷ []) t → t ≡ p
    only p t (zero, l, e) = sym e
    only p t (suc i, l, e) = absurd (omega (arith, l))

-- the set of some points has these points
pub set_same : (ps : List Pair) (t : Pair) → Contains (held_after_adds nothing_held ps).points t ↔ Contains ps t
set_same ps t = (
  λ m. elim (added_from ps nothing_held t AllPairs-none m) [ inl k ↦ absurd (omega (arith, k.1)) | inr k ↦ k ],
  λ m. added_all ps nothing_held t AllPairs-none (inr m),
)

-- a convex polygon with vertices of its own points is also that of those points in another order
pub own_vertices : (points vertices : List Pair) → IsOwnPolygon vertices → HaveSamePoints vertices points
    → AreVerticesOf points vertices
own_vertices points vertices own same =
    own (held_after_adds nothing_held points).points (added_set points nothing_held AllPairs-none)
    (λ t. (λ m. (same t).1 ((set_same points t).0 m), λ m. (set_same points t).1 ((same t).0 m)))

-- a list whose two parts are exchanged has the same points
pub turned_same : (k : ℕ) (xs ys : List Pair) → ys ≡ drop k xs ++ take k xs → HaveSamePoints ys xs
turned_same k xs ys e = λ t. (
  λ m. subst (λ (z : List Pair). Contains z t) (take-append-drop k xs)
      (elim (Contains-append_cases (drop k xs) (take k xs) t (subst (λ (z : List Pair). Contains z t) e m)) [
        | inl d ↦ Contains-append_right (take k xs) (drop k xs) t d
        | inr d ↦ Contains-append_left (take k xs) (drop k xs) t d
      ]),
  λ m. subst (λ (z : List Pair). Contains z t) (sym e)
      (elim (Contains-append_cases (take k xs) (drop k xs) t
      (subst (λ (z : List Pair). Contains z t) (sym (take-append-drop k xs)) m)) [
        | inl d ↦ Contains-append_right (drop k xs) (take k xs) t d
        | inr d ↦ Contains-append_left (drop k xs) (take k xs) t d
      ]),
)

-- having the same points is transitive
pub same_after : (xs ys zs : List Pair) → HaveSamePoints ys xs → HaveSamePoints zs ys → HaveSamePoints zs xs
same_after xs ys zs f g = λ t. (λ m. (f t).0 ((g t).0 m), λ m. (g t).1 ((f t).1 m))

-- a list in another order has the same points
pub permuted_same : (xs ys : List Pair) → IsPermutation xs ys → HaveSamePoints ys xs
permuted_same xs ys p = λ t. (Contains-permutation ys xs t (IsPermutation-sym xs ys p), Contains-permutation xs ys t p)
