-- a set with no vertices is empty
use Rattle.std.proofs.Common.{arith, subst}
use Rattle.lattice.specs.Plane.{Pair}
use Rattle.hull_geometry.specs.Tangents.{IsFirstFarthest}
use Rattle.hull_polygon.proofs.Ends.{no_vertices}
use Rattle.hull_polygon.proofs.polygon.Polygon.extreme.Goals as goal

pub returns-then-is_empty : goal.returns-then-is_empty
returns-then-is_empty c = λ S o. no_vertices S c.args.self.now.vertices.now o
    (grind (arith, c.is_empty.ensures, c.if-is_empty.true))

pub returns-else-is_empty : goal.returns-else-is_empty
returns-else-is_empty c = λ S o.
    subst (λ (d : Pair). IsFirstFarthest S d c.farthest.result) c.along.ensures (c.farthest.ensures S o)
