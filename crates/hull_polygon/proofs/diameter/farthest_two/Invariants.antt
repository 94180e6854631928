-- the best pair so far
use Rattle.std.proofs.Common.{List}
use Rattle.lattice.specs.Plane.{Pair}
use Rattle.hull_polygon.specs.Extents.{IsDiameterOf}
use Rattle.hull_polygon.specs.Polygons.{IsPolygonOf}
use Rattle.hull_polygon.proofs.diameter.farthest_two.Given as goal

abbrev pub invariant-loop-i : goal.invariant-loop-i
invariant-loop-i l = (S : List Pair) → IsPolygonOf S l.vertices → IsDiameterOf S l.vertices l.i l.best.0 l.best.1
