-- The vertices of a half's lower chain, and those of its two halves.
use Rattle.std.proofs.Common.{pos, ◌<ℤ◌, inl, inr, List, ◌++◌}
use Rattle.std.specs.List.{Contains}
use Rattle.std.proofs.lemmas.List.Elements.{Contains-append_left, Contains-append_right, Contains-append_cases}
use Rattle.lattice.specs.Plane.{Pair, orient, IsBefore}
use Rattle.lattice.specs.Bridges.{IsAllBefore, IsLowerBridge}
use Rattle.bridge_search.specs.Trees.{Tree, IsBridged, On, first_of, last_of}
use Rattle.bridge_search.specs.Leaves.{points_of}
use Rattle.bridge_search.proofs.Ends.{last_by, on_last}
use Rattle.bridge_search.proofs.Leaves.{on_of_contains, contains_of_on}
use Rattle.bridge_search.proofs.Turns.{first_by, on_first}
use Rattle.hull_geometry.proofs.Orientation.{orient_swap, above, orient-cycle}
use Rattle.hull_questions.specs.Chains.{IsLowerVertex}
use Rattle.hull_questions.proofs.ChainEdges.{not_zero}
use Rattle.lattice.specs.declared.side.Side.TheVariants.{Lower}
use Rattle.hull_geometry.proofs.Orientations.{strict_on, strict_back}
use Rattle.lattice.proofs.Numbers.{below_opposite, less_not_le}

-- the first point is a vertex: nothing is before it
pub first_vertex : (t : Tree) → IsBridged t → IsLowerVertex (points_of t) (first_of t)
first_vertex t h = record {
  there = contains_of_on t (first_of t) (on_first t);
  under = λ s r m n b k. absurd (first_by t h s (on_of_contains t s m) b);
}

-- the last point is a vertex: nothing is after it
pub last_vertex : (t : Tree) → IsBridged t → IsLowerVertex (points_of t) (last_of t)
last_vertex t h = record {
  there = contains_of_on t (last_of t) (on_last t);
  under = λ s r m n b k. absurd (last_by t h r (on_of_contains t r n) k);
}

-- the start of the bridge is a vertex of the left half, each point of which before it lies over the bridge's line
pub bridge_start : (u w : Tree) (a b : Pair) → IsAllBefore (On u) (On w) → IsLowerBridge (On u) (On w) a b
    → IsLowerVertex (points_of u) a
bridge_start u w a b o h = record {
  there = contains_of_on u a h.from_left;
  under = λ s t m n sa at.
      let i : On u s = on_of_contains u s m in
      let orient_on : pos 0 <ℤ orient a b s = not_zero _ (h.inner_left s i) (λ z. (h.tie_left s i z).0 sa) in
      below_opposite _ _ (orient_swap s t a)
      (strict_on Lower s a b t sa (o a b h.from_left h.to_right) at (above _ _ (orient-cycle a b s) orient_on)
      (h.inner_left t (on_of_contains u t n)));
}

-- the end of the bridge is a vertex of the right half, each point of which after it lies over the bridge's line
pub bridge_end : (u w : Tree) (a b : Pair) → IsAllBefore (On u) (On w) → IsLowerBridge (On u) (On w) a b
    → IsLowerVertex (points_of w) b
bridge_end u w a b o h = record {
  there = contains_of_on w b h.to_right;
  under = λ s t m n sb bt.
      let i : On w t = on_of_contains w t n in
      let orient_on : pos 0 <ℤ orient a b t = not_zero _ (h.inner_right t i) (λ z. (h.tie_right t i z).1 bt) in
      below_opposite _ _ (orient_swap s t b) (above _ _ (orient-cycle b t s)
      (strict_back Lower a b t s (o a b h.from_left h.to_right) bt sb (h.inner_right s (on_of_contains w s m)) orient_on));
}

-- a vertex of both halves that is a point of the left one is a vertex of it
pub vertex_left : (xs ys : List Pair) (v : Pair) → IsLowerVertex (xs ++ ys) v → Contains xs v → IsLowerVertex xs v
vertex_left xs ys v c m = record {
  there = m;
  under = λ s t i j. c.under s t (Contains-append_left xs ys s i) (Contains-append_left xs ys t j);
}

-- a vertex of both halves that is a point of the right one is a vertex of it
pub vertex_right : (xs ys : List Pair) (v : Pair) → IsLowerVertex (xs ++ ys) v → Contains ys v → IsLowerVertex ys v
vertex_right xs ys v c m = record {
  there = m;
  under = λ s t i j. c.under s t (Contains-append_right xs ys s i) (Contains-append_right xs ys t j);
}

-- no vertex of both halves is between the ends of the bridge, over whose line all points lie
pub none_between : (u w : Tree) (a b v : Pair) → IsLowerBridge (On u) (On w) a b
    → IsLowerVertex (points_of u ++ points_of w) v → IsBefore a v → IsBefore v b → ⊥
none_between u w a b v h c k l =
    less_not_le _ _
    (c.under a b (Contains-append_left (points_of u) (points_of w) a (contains_of_on u a h.from_left))
    (Contains-append_right (points_of u) (points_of w) b (contains_of_on w b h.to_right)) k l)
    (elim (Contains-append_cases (points_of u) (points_of w) v c.there) [
      | inl m ↦
          h.inner_left v (on_of_contains u v m)
      | inr m ↦ h.inner_right v (on_of_contains w v m)
    ])

-- a point of both halves not after the start of the bridge is one of the left half
pub in_left : (u w : Tree) (a v : Pair) → IsAllBefore (On u) (On w) → On u a → Contains (points_of u ++ points_of w) v
    → ¬ (IsBefore a v) → Contains (points_of u) v
in_left u w a v o i m n =
    elim (Contains-append_cases (points_of u) (points_of w) v m) [
      | inl k ↦ k
      | inr k ↦ absurd (n (o a v i (on_of_contains w v k)))
    ]

-- a point of both halves not before the end of the bridge is one of the right half
pub in_right : (u w : Tree) (b v : Pair) → IsAllBefore (On u) (On w) → On w b → Contains (points_of u ++ points_of w) v
    → ¬ (IsBefore v b) → Contains (points_of w) v
in_right u w b v o i m n =
    elim (Contains-append_cases (points_of u) (points_of w) v m) [
      | inl k ↦ absurd (n (o v b (on_of_contains u v k) i))
      | inr k ↦ k
    ]
