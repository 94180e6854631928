-- a set without vertices has no points
use Rattle.std.proofs.Common.{arith}
use Rattle.hull_polygon.proofs.Ends.{no_vertices}
use Rattle.hull_polygon.proofs.polygon.Polygon.diameter.Goals as goal

pub returns-then-is_empty : goal.returns-then-is_empty
returns-then-is_empty c = λ S o. no_vertices S c.args.self.now.vertices.now o
    (grind (arith, c.is_empty.ensures, c.if-is_empty.true))
