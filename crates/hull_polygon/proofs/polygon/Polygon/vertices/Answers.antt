-- a list that is split at an index is a polygon
use Rattle.hull_polygon.proofs.Made.{separated_is_polygon}
use Rattle.hull_polygon.proofs.polygon.Polygon.vertices.Goals as goal

pub returns-clause-polygon : goal.returns-clause-polygon
returns-clause-polygon c = (
  separated_is_polygon c.args.self.now.vertices.now c.args.self.now.last c.args.self.now.separated,
  c.args.self.now.few,
)
