-- the closest vertex of either hull gives the nearest points
use Rattle.hull_polygon.proofs.polygon.Polygon.distance_there.Goals as goal

pub returns-in_ok-found-in-OfOther : goal.returns-in_ok-found-in-OfOther
returns-in_ok-found-in-OfOther c = λ S o T t. c.by_other.ensures S T (c.in_ok-found-in-OfOther.ensures T t S o)

pub returns-in_ok-found-in-OfThis : goal.returns-in_ok-found-in-OfThis
returns-in_ok-found-in-OfThis c = λ S o T t. c.by_this.ensures S T (c.in_ok-found-in-OfThis.ensures S o T t)
