-- every ray misses the empty hull
use Rattle.std.proofs.Common.{arith}
use Rattle.hull_polygon.specs.Raycasts.{moved}
use Rattle.hull_polygon.proofs.Ends.{no_vertices}
use Rattle.hull_polygon.proofs.Hits.{nothing_there}
use Rattle.hull_polygon.proofs.polygon.Polygon.raycast.Goals as goal

pub returns-then-is_empty : goal.returns-then-is_empty
returns-then-is_empty c = λ S o.
    nothing_there S c.args.start (moved c.args.start c.args.direction)
    (no_vertices S c.args.self.now.vertices.now o (grind (arith, c.is_empty.ensures, c.if-is_empty.true)))
