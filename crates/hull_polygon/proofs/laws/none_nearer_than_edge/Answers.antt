-- the law is a lemma
use Rattle.hull_polygon.proofs.Distances.{edge_nearest}
use Rattle.hull_polygon.proofs.laws.none_nearer_than_edge.Goals as goal

pub returns : goal.returns
returns c = edge_nearest
