-- the location determines the place; no vertices cover nothing
use Rattle.std.proofs.Common.{arith, ap, length}
use Rattle.hull_geometry.proofs.EdgesAt.{outside_nothing}
use Rattle.hull_polygon.proofs.EdgesAt.{are_ends}
use Rattle.hull_polygon.proofs.Ends.{no_vertices}
use Rattle.hull_polygon.proofs.polygon.Polygon.place.Goals as goal

pub returns-then-is_empty : goal.returns-then-is_empty
returns-then-is_empty c = λ S o.
    outside_nothing S c.args.q (ap length (no_vertices S c.args.self.now.vertices.now o
    (grind (arith, c.is_empty.ensures, c.if-is_empty.true))))

pub returns : goal.returns
returns c = λ S o. c.of_location.ensures _ _ S c.args.q
    (are_ends S c.args.self.now.vertices.now c.args.self.now.last o c.args.self.now.separated
    (grind (arith, c.is_empty.ensures, c.if-is_empty.false))) (c.look.ensures S o)
