-- sets that stay apart are disjoint
use Rattle.hull_polygon.proofs.Neighbours.{disjoint_first}
use Rattle.hull_polygon.proofs.polygon.Polygon.is_parted.Goals as goal

pub returns : goal.returns
returns c = λ S o T q t. disjoint_first S T _ (c.is_parted_along.ensures S o T q t)
