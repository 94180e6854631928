-- the vertices so far are covered
use Rattle.std.proofs.Common.{ℕ, ◌<◌, List}
use Rattle.lattice.specs.Plane.{Pair}
use Rattle.lattice.specs.Covers.{Covers}
use Rattle.hull_polygon.specs.Polygons.{IsPolygonOf}
use Rattle.hull_polygon.specs.Rounds.{vertex}
use Rattle.hull_polygon.proofs.polygon.Polygon.contains.Given as goal

abbrev pub invariant-loop-i : goal.invariant-loop-i
invariant-loop-i l =
    (S : List Pair) → IsPolygonOf S l.self.vertices.now → (k : ℕ) → k < l.i → Covers S (vertex l.other.vertices.now k)
