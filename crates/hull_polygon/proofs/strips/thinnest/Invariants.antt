-- the thinnest strip so far
use Rattle.std.proofs.Common.{List}
use Rattle.lattice.specs.Plane.{Pair}
use Rattle.hull_polygon.specs.Extents.{IsThinnestOf}
use Rattle.hull_polygon.specs.Polygons.{IsPolygonOf}
use Rattle.hull_polygon.proofs.strips.thinnest.Given as goal

abbrev pub invariant-loop-i : goal.invariant-loop-i
invariant-loop-i l = (S : List Pair) → IsPolygonOf S l.vertices → IsThinnestOf S l.vertices l.i l.best
