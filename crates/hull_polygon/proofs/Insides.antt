-- The inside of a hull: no point of a set that a line divides from it is inside, and all of a hull is inside if its
-- vertices are.
use Rattle.std.proofs.Common.{◌≡◌, ℕ, ◌<◌, ℤ, pos, ◌*ℤ◌, ◌≤ℤ◌, ◌<ℤ◌, neg_ℤ, inl, inr, sym, subst, List, length, get_or}
use Rattle.std.proofs.Common.{arith}
use Rattle.std.specs.List.{All, Contains}
use Rattle.std.proofs.lemmas.Bool.{cases_lt}
use Rattle.std.proofs.lemmas.Int.{ints}
use Rattle.std.proofs.lemmas.List.{get_or-map, length-map}
use Rattle.std.proofs.lemmas.List.Elements.{All-contains, All-weaker, Contains-get_or}
use Rattle.lattice.specs.Covers.{Covers, IsPointSet, Member}
use Rattle.lattice.specs.Places.{IsInside}
use Rattle.lattice.specs.Plane.{Pair, product}
use Rattle.lattice.specs.Polynomials.{difference-eq, as_difference, difference-neg, difference-mul}
use Rattle.lattice.proofs.Numbers.{le_trans}
use Rattle.lattice.proofs.Vectors.{opp}
use Rattle.hull_geometry.proofs.NotCovered.{not_covered}
use Rattle.hull_geometry.proofs.PointLists.{all_of}
use Rattle.hull_polygon.specs.Closest.{magnified}
use Rattle.hull_polygon.specs.Polygons.{IsPolygonOf}
use Rattle.hull_polygon.specs.Relations.{Divides, HoldsInside, NoneInsideDivided}
use Rattle.hull_polygon.specs.Rounds.{vertex, IsSeparated}
use Rattle.hull_polygon.proofs.Vertices.{vertex_extreme}
use Rattle.hull_polygon.proofs.Distances.{covered_near}
use Rattle.hull_polygon.proofs.Ends.{no_vertices}
use Rattle.hull_polygon.proofs.FarApart.{magnified_near, times_along}
use Rattle.hull_polygon.proofs.Switches.{farthest_vertex, holds_by_vertices, placed}
use Rattle.hull_geometry.proofs.Slopes.{product-opp}

-- ---- sets that a line divides

-- a point that T, magnified, covers lies beyond all of S
beyond_all : (S T : List Pair) (d : Pair) (k : ℕ) (q s : Pair) → Divides d S T → Covers (magnified k T) q → Contains S s
    → (pos k *ℤ product d s) ≤ℤ product d q
beyond_all S T d k q s h c m =
    back (pos k) _ _ _ _ (product-opp d q) (product-opp d s) (magnified_near T (opp d) s q k
    (all_of (λ t. product (opp d) t ≤ℤ product (opp d) s) T (λ t mt. turned _ _ _ _ (product-opp d t) (product-opp d s) (h s t m mt)))
    c)
  where
    turned : (x y u v : ℤ) → x ≡ neg_ℤ u → y ≡ neg_ℤ v → v ≤ℤ u → x ≤ℤ y
    turned x y u v e f h = omega (arith, ints)

    negated : (k x : ℤ) → k *ℤ neg_ℤ x ≡ neg_ℤ (k *ℤ x)
    negated k x = rw (as_difference k, as_difference x)
        (simp (difference-neg, difference-mul) (difference-eq _ _ _ _ (omega arith)))

    back : (k x y u v : ℤ) → x ≡ neg_ℤ u → y ≡ neg_ℤ v → x ≤ℤ (k *ℤ y) → (k *ℤ v) ≤ℤ u
    back k x y u v e f h = omega (arith, ints, negated k v, subst (λ (z : ℤ). x ≤ℤ (k *ℤ z)) f h)

-- such a point does not lie inside
pub none_inside_divided : NoneInsideDivided
none_inside_divided S T k q (d, n, h) inside c =
    inside.1 (d, n, all_of (λ t. product d t ≤ℤ product d q) (magnified k S) near)
  where
    near : (t : Pair) → Contains (magnified k S) t → product d t ≤ℤ product d q
    near t (i, l, e) =
        let m : i < length S = rw length-map at l in
        subst (λ (z : Pair). product d z ≤ℤ product d q) e
        (rw (get_or-map _ S i t t m, times_along (pos k) d (get_or S i t))
        (beyond_all S T d k q (get_or S i t) h c (Contains-get_or S i t m)))

-- ---- of a hull

-- if each vertex lies inside, each point that the set covers does
pub inside_by_vertices : (S T W : List Pair) (end : ℕ) → IsPointSet S → IsPolygonOf T W → IsSeparated W end
    → ((i : ℕ) → i < length W → IsInside S (vertex W i)) → HoldsInside S T
inside_by_vertices S T W end o t p h q c = (
  holds_by_vertices S T W end o t p (λ i l. (h i l).0) q c,
  λ (d, n, f). elim (cases_lt 0 (length W)) [
    | inl m ↦
        let r = farthest_vertex T W end d t p m in
        let j = placed W r.0 m in
        let far = covered_near T d q (product d (vertex W r.0))
        (λ u mu. All-contains (λ s. product d s ≤ℤ product d (vertex W r.0)) T u r.1.1 mu) c in
        (h j.0 j.1).1 (
          d,
          n,
          All-weaker (λ s. product d s ≤ℤ product d q) (λ s. product d s ≤ℤ product d (vertex W j.0))
              (λ s b. le_trans _ _ _ b (subst (λ (z : Pair). product d q ≤ℤ product d z) j.2 far)) S f,
        )
    | inr m ↦ not_covered T q (
      d,
      subst (All (λ s. product d s <ℤ product d q)) (sym (no_vertices T W t (omega (arith, m))))
          (λ i d l. absurd (omega (arith, l))),
    ) c
  ],
)

-- if each point that a hull covers lies inside, so do its vertices
pub vertex_inside : (S T W : List Pair) (i : ℕ) → IsPolygonOf T W → i < length W → HoldsInside S T
    → IsInside S (vertex W i)
vertex_inside S T W i o l h = h (vertex W i) (Member (vertex_extreme T W i o.1 (omega (arith, l))).0)
