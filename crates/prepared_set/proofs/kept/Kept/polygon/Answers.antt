-- the vertices are a polygon
use Rattle.std.proofs.Common.{subst}
use Rattle.hull_polygon.specs.Polygons.{IsShortPolygon}
use Rattle.hull_polygon.proofs.Made.{separated_is_polygon}
use Rattle.prepared_set.proofs.kept.Kept.polygon.Goals as goal

pub returns-clause-polygon : goal.returns-clause-polygon
returns-clause-polygon c =
    subst IsShortPolygon c.self.view_is
    (separated_is_polygon c.self.inside.vertices.items c.self.inside.last c.self.invariant.0, c.self.invariant.1)
