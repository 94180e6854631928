-- the edges so far are disjoint from the set
use Rattle.std.proofs.Common.{ℕ, ◌<◌, ◌+◌, List}
use Rattle.lattice.specs.Plane.{Pair}
use Rattle.hull_polygon.specs.Meetings.{AreDisjoint, segment}
use Rattle.hull_polygon.specs.Polygons.{IsPolygonOf}
use Rattle.hull_polygon.specs.Rounds.{vertex}
use Rattle.hull_polygon.proofs.polygon.Polygon.meeting_by_edges.Given as goal

abbrev pub invariant-loop-i : goal.invariant-loop-i
invariant-loop-i l =
    (S : List Pair) → IsPolygonOf S l.self.vertices.now → (k : ℕ) → k < l.i
    → AreDisjoint S (segment (vertex l.other.vertices.now k) (vertex l.other.vertices.now (k + 1)))
