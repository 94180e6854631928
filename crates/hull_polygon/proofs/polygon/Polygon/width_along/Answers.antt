-- a set without vertices has no points; else the extent in the direction
use Rattle.std.proofs.Common.{pos, subst, arith}
use Rattle.lattice.specs.Plane.{Pair}
use Rattle.hull_polygon.specs.Extents.{IsExtent}
use Rattle.hull_polygon.proofs.Ends.{no_vertices}
use Rattle.hull_polygon.proofs.polygon.Polygon.width_along.Goals as goal

pub returns-then-is_empty : goal.returns-then-is_empty
returns-then-is_empty c = λ S o. no_vertices S c.args.self.now.vertices.now o
    (grind (arith, c.is_empty.ensures, c.if-is_empty.true))

pub returns-else-is_empty : goal.returns-else-is_empty
returns-else-is_empty c = λ S o. subst (λ (d : Pair). IsExtent S d (pos c.extent.result)) c.along.ensures
    (c.extent.ensures.value S o)
