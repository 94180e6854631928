-- a separation shows that the sets are disjoint
use Rattle.hull_polygon.proofs.Witnessed.{separation_apart}
use Rattle.hull_polygon.proofs.polygon.Polygon.first_separation.Goals as goal

pub separation-requires-clause-apart : goal.separation-requires-clause-apart
separation-requires-clause-apart c = λ S o T t. separation_apart S T c.args.found (c.requires.parts S o T t)
