-- each edge so far has a point of the other set on its left
use Rattle.std.proofs.Common.{ℕ, ◌<◌, List}
use Rattle.lattice.specs.Plane.{Pair}
use Rattle.hull_polygon.specs.Polygons.{IsPolygonOf}
use Rattle.hull_polygon.specs.Separations.{HasOnLeftOfEdge}
use Rattle.hull_polygon.proofs.polygon.Polygon.separation_by_edge.Given as goal

abbrev pub invariant-loop-i : goal.invariant-loop-i
invariant-loop-i l =
    (S : List Pair) → IsPolygonOf S l.self.vertices.now → (T : List Pair) → IsPolygonOf T l.other.vertices.now → (k : ℕ)
    → k < l.i → HasOnLeftOfEdge l.self.vertices.now k T
