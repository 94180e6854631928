-- A lower edge of one half is one of both, if the lower bridge is clear of it.
use Rattle.std.proofs.Common.{◌≡◌, ℤ, pos, ◌≤ℤ◌, ◌<ℤ◌, inl, inr, ◌∙◌, List, arith, ◌++◌, Some}
use Rattle.std.proofs.lemmas.Int.{ints}
use Rattle.std.proofs.lemmas.List.Elements.{All-contains, All-append, Contains-append_left, Contains-append_right}
use Rattle.lattice.specs.Plane.{Pair, orient, IsBefore}
use Rattle.lattice.specs.Bridges.{IsAllBefore, IsLowerBridge}
use Rattle.lattice.specs.Signs.{le_or_lt}
use Rattle.lattice.specs.declared.side.Side.TheVariants.{Lower}
use Rattle.lattice.proofs.Vectors.{minus, cross, cross_trans_strict, cross_trans_strict_right}
use Rattle.hull_geometry.proofs.Orientations.{strict_on, strict_back}
use Rattle.hull_questions.proofs.Halves.{AreHalves, swapped, halves_of}
use Rattle.bridge_search.specs.Trees.{Tree, Leaf, Fork, On, IsBridged, lower_of}
use Rattle.bridge_search.specs.Leaves.{points_of}
use Rattle.bridge_search.proofs.Leaves.{on_of_contains, contains_of_on}
use Rattle.hull_geometry.proofs.PointLists.{all_of}
use Rattle.hull_geometry.specs.Edges.{IsLowerEdge}
use Rattle.hull_geometry.proofs.Orientation.{orient-cross, at_least, above, ahead_of, orient-cycle}
use Rattle.lattice.proofs.Sides.{side_by_start, side_by_end, side_after, side_to_end}
use Rattle.lattice.proofs.Numbers.{nn_above, sum_above}
use Rattle.hull_questions.proofs.StoredEdges.{same_ends}
use Rattle.hull_geometry.specs.Locations.{IsLowerEdgeAt}
use Rattle.hull_geometry.proofs.EdgesAt.{up_to}

-- if an edge cd begins before a and the edge ab is steeper, a point that lies over ab, after a, lies over cd
over_from_left : (a b c d t : Pair) → IsBefore a b → IsBefore c d → IsBefore c a → IsBefore a t → pos 0 ≤ℤ orient c d a
    → pos 0 <ℤ orient a b c → pos 0 ≤ℤ orient a b t → pos 0 <ℤ orient c d t
over_from_left a b c d t ab cd ca at da bc bt =
    let low : pos 0 ≤ℤ cross (minus d c) (minus a c) = at_least _ _ (orient-cross c d a) da in
    let mid : pos 0 <ℤ cross (minus a c) (minus t a) =
    above _ _ (side_after c a t) (strict_on Lower c a b t ca ab at (above _ _ (orient-cycle a b c) bc) bt) in
    sum_above _ _ _ (side_by_start c d a t) low
    (cross_trans_strict_right (minus d c) (minus a c) (minus t a) (ahead_of c d cd) (ahead_of c a ca) (ahead_of a t at)
    low mid)

-- if an edge cd ends after b and the edge ab is less steep, a point that lies over ab, before b, lies over cd
over_from_right : (a b c d t : Pair) → IsBefore a b → IsBefore c d → IsBefore b d → IsBefore t b → pos 0 ≤ℤ orient c d b
    → pos 0 <ℤ orient a b d → pos 0 ≤ℤ orient a b t → pos 0 <ℤ orient c d t
over_from_right a b c d t ab cd bd tb db bd_turn bt =
    let low : pos 0 ≤ℤ cross (minus d b) (minus d c) = at_least _ _ (side_to_end c d b) db in
    let mid : pos 0 <ℤ cross (minus b t) (minus d b) =
    above _ _ (orient-cycle b d t ∙ side_after t b d) (strict_back Lower a b d t ab bd tb bt bd_turn) in
    sum_above _ _ _ (side_by_end c d b t) low
    (cross_trans_strict (minus b t) (minus d b) (minus d c) (ahead_of t b tb) (ahead_of b d bd) (ahead_of c d cd) mid low)

-- a number at least 0 that is not 0 is above 0
pub not_zero : (z : ℤ) → pos 0 ≤ℤ z → ¬ (z ≡ pos 0) → pos 0 <ℤ z
not_zero z h n = elim (le_or_lt z (pos 0)) [ inl k ↦ absurd (n (omega (arith, ints))) | inr k ↦ k ]

-- ---- from a half to both

-- a lower edge of one half over which all of the other lies is one of both
grow : (S : List Pair) (near far : Tree) (c d : Pair) → AreHalves S near far → IsLowerEdge (points_of near) c d
    → ((t : Pair) → On far t → pos 0 <ℤ orient c d t) → IsLowerEdge S c d
grow S near far c d h k over = record {
  from = h.in_near c (on_of_contains near c k.from);
  to = h.in_near d (on_of_contains near d k.to);
  along = k.along;
  left = all_of (λ t. pos 0 ≤ℤ orient c d t) S (λ t m. elim (h.which t m) [
    | inl i ↦ All-contains (λ t. pos 0 ≤ℤ orient c d t) (points_of near) t k.left (contains_of_on near t i)
    | inr i ↦ nn_above _ (over t i)
  ]);
  last = all_of (λ t. orient c d t ≡ pos 0 → ¬ (IsBefore d t)) S (λ t m e. elim (h.which t m) [
    | inl i ↦ All-contains (λ t. orient c d t ≡ pos 0 → ¬ (IsBefore d t)) (points_of near) t k.last
        (contains_of_on near t i) e
    | inr i ↦ absurd (omega (arith, ints, over t i))
  ]);
}

-- the bridge of two halves is a lower edge of both
bridge_edge : (u w : Tree) (a b : Pair) → IsBefore a b → IsLowerBridge (On u) (On w) a b
    → IsLowerEdge (points_of u ++ points_of w) a b
bridge_edge u w a b ab h = record {
  from = Contains-append_left (points_of u) (points_of w) a (contains_of_on u a h.from_left);
  to = Contains-append_right (points_of u) (points_of w) b (contains_of_on w b h.to_right);
  along = ab;
  left = All-append (λ t. pos 0 ≤ℤ orient a b t) (points_of u) (points_of w)
      (all_of (λ t. pos 0 ≤ℤ orient a b t) (points_of u) (λ t m. h.inner_left t (on_of_contains u t m)))
      (all_of (λ t. pos 0 ≤ℤ orient a b t) (points_of w) (λ t m. h.inner_right t (on_of_contains w t m)));
  last = All-append (λ t. orient a b t ≡ pos 0 → ¬ (IsBefore b t)) (points_of u) (points_of w)
      (all_of (λ t. orient a b t ≡ pos 0 → ¬ (IsBefore b t)) (points_of u)
      (λ t m e. (h.tie_left t (on_of_contains u t m) e).1))
      (all_of (λ t. orient a b t ≡ pos 0 → ¬ (IsBefore b t)) (points_of w)
      (λ t m e. (h.tie_right t (on_of_contains w t m) e).1));
}

-- a lower edge of the left half at a point before the bridge is one of both halves
pub left_lifts : (u w : Tree) (v a b : Pair) (e : Pair × Pair) → IsAllBefore (On u) (On w)
    → IsLowerBridge (On u) (On w) a b
    → IsBefore v a → IsLowerEdgeAt (points_of u) v e → IsLowerEdgeAt (points_of u ++ points_of w) v e
left_lifts u w v a b e o h va k =
    let ca : IsBefore e.0 a = up_to e.0 v a k.starts va in
    let inc : On u e.0 = on_of_contains u e.0 k.edge.from in
    let orient_on : pos 0 <ℤ orient a b e.0 = not_zero _ (h.inner_left e.0 inc) (λ z. (h.tie_left e.0 inc z).0 ca) in
    let low : pos 0 ≤ℤ orient e.0 e.1 a =
    All-contains (λ t. pos 0 ≤ℤ orient e.0 e.1 t) (points_of u) a k.edge.left (contains_of_on u a h.from_left) in
    record {
      edge = grow (points_of u ++ points_of w) u w e.0 e.1 (halves_of u w) k.edge
          (λ t i. over_from_left a b e.0 e.1 t (o a b h.from_left h.to_right) k.edge.along ca
          (o a t h.from_left i) low orient_on (h.inner_right t i));
      starts = k.starts;
      onward = k.onward;
    }

-- a lower edge of the right half at a point not before the end of the bridge is one of both halves
pub right_lifts : (u w : Tree) (v a b : Pair) (e : Pair × Pair) → IsAllBefore (On u) (On w)
    → IsLowerBridge (On u) (On w) a b → ¬ (IsBefore v b) → IsLowerEdgeAt (points_of w) v e
    → IsLowerEdgeAt (points_of u ++ points_of w) v e
right_lifts u w v a b e o h n k =
    let bd : IsBefore b e.1 = up_to b v e.1 n k.onward in
    let ind : On w e.1 = on_of_contains w e.1 k.edge.to in
    let orient_on : pos 0 <ℤ orient a b e.1 = not_zero _ (h.inner_right e.1 ind) (λ z. (h.tie_right e.1 ind z).1 bd) in
    let low : pos 0 ≤ℤ orient e.0 e.1 b =
    All-contains (λ t. pos 0 ≤ℤ orient e.0 e.1 t) (points_of w) b k.edge.left (contains_of_on w b h.to_right) in
    record {
      edge = grow (points_of u ++ points_of w) w u e.0 e.1 (swapped _ u w (halves_of u w)) k.edge
          (λ t i. over_from_right a b e.0 e.1 t (o a b h.from_left h.to_right) k.edge.along bd
          (o t b i h.to_right) low orient_on (h.inner_left t i));
      starts = k.starts;
      onward = k.onward;
    }

-- the lower edge at a point not before the start of the bridge, and before its end, is the bridge
pub edge_here : (t : Tree) (v a b : Pair) → IsBridged t → Some (a, b) ≡ lower_of t → ¬ (IsBefore v a) → IsBefore v b
    → IsLowerEdgeAt (points_of t) v (a, b)
edge_here (Leaf x) v a b h g n m = absurd (cc)
edge_here (Fork e f u w) v a b h g n m =
    let s = same_ends g in
    record {
      edge = rw (s.0, s.1) (bridge_edge u w f.0 f.1 (h.0 f.0 f.1 h.2.from_left h.2.to_right) h.2);
      starts = n;
      onward = m;
    }
