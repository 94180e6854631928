-- the vertices so far are passed by
use Rattle.std.proofs.Common.{ℕ, ◌<◌, List}
use Rattle.lattice.specs.Plane.{Pair}
use Rattle.hull_polygon.specs.Closest.{IsPassedBy}
use Rattle.hull_polygon.specs.Polygons.{IsPolygonOf}
use Rattle.hull_polygon.specs.Rounds.{vertex}
use Rattle.hull_polygon.proofs.polygon.Polygon.closest_vertex.Given as goal

abbrev pub invariant-loop-i : goal.invariant-loop-i
invariant-loop-i l =
    (S : List Pair) → IsPolygonOf S l.self.vertices.now → (T : List Pair) → IsPolygonOf T l.other.vertices.now → (k : ℕ)
    → k < l.i → IsPassedBy S T (vertex l.self.vertices.now k)
