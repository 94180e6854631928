-- a list that is split at an index is the polygon of its own points
use Rattle.hull_polygon.proofs.Made.{own_polygon}
use Rattle.hull_polygon.proofs.polygon.Polygon.new.Goals as goal

pub returns-clause-own : goal.returns-clause-own
returns-clause-own c = own_polygon c.args.vertices.now c.in_ok-last.last c.in_ok-last.ensures.1
