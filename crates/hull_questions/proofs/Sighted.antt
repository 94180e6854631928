-- The location of a point relative to the hull of a half, by the ends of the half.
use Rattle.std.proofs.Common.{◌≡◌}
use Rattle.lattice.specs.Places.{IsOnBoundary}
use Rattle.lattice.specs.Plane.{Pair, IsBefore}
use Rattle.bridge_search.specs.Trees.{Tree, IsBridged, first_of, last_of}
use Rattle.bridge_search.specs.Leaves.{points_of}
use Rattle.bridge_search.proofs.Ends.{last_by, on_last}
use Rattle.bridge_search.proofs.Leaves.{on_of_contains, contains_of_on}
use Rattle.bridge_search.proofs.Turns.{first_by, on_first}
use Rattle.hull_geometry.specs.Edges.{IsFirst, IsLast}
use Rattle.hull_geometry.specs.Locations.{IsLowerEdgeAt, IsBetweenEnds, AreEnds}
use Rattle.hull_geometry.proofs.EdgesAt.{up_to, on_from, touching_last}

-- no point is before the first
pub is_first : (t : Tree) → IsBridged t → IsFirst (points_of t) (first_of t)
is_first t h s m = first_by t h s (on_of_contains t s m)

-- no point is after the last
pub is_last : (t : Tree) → IsBridged t → IsLast (points_of t) (last_of t)
is_last t h s m = last_by t h s (on_of_contains t s m)

-- the ends of a half are those of its points
pub are_ends : (t : Tree) → IsBridged t → AreEnds (points_of t) (first_of t) (last_of t)
are_ends t h = (
  (contains_of_on t (first_of t) (on_first t), is_first t h),
  (contains_of_on t (last_of t) (on_last t), is_last t h),
)

-- the last point lies on the boundary
pub last_touched : (t : Tree) (q : Pair) → IsBridged t → q ≡ last_of t → IsOnBoundary (points_of t) q
last_touched t q h e =
    rw e (touching_last (points_of t) (last_of t) (contains_of_on t (last_of t) (on_last t)) (is_last t h))

-- a point that has an edge at it is between the ends, if it is after the edge's left end
pub between_ends : (t : Tree) (q : Pair) (e : Pair × Pair) → IsBridged t → IsLowerEdgeAt (points_of t) q e
    → IsBefore e.0 q → IsBetweenEnds (first_of t) (last_of t) q
between_ends t q e h k b = (
  up_to (first_of t) e.0 q (is_first t h e.0 k.edge.from) b,
  on_from q e.1 (last_of t) k.onward (is_last t h e.1 k.edge.to),
)
