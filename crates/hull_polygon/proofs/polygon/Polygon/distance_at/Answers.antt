-- the closest vertex of either hull gives the nearest points
use Rattle.hull_polygon.proofs.polygon.Polygon.distance_at.Goals as goal

pub returns-in-Some : goal.returns-in-Some
returns-in-Some c = λ S o T t. c.by_other.ensures S T (c.in-Some.ensures T t S o)

pub returns-in-Some-closest_at : goal.returns-in-Some-closest_at
returns-in-Some-closest_at c = λ S o T t. c.by_this.ensures S T (c.in-Some-closest_at.ensures S o T t)
