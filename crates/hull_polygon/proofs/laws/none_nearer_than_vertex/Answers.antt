-- the law is a lemma
use Rattle.hull_polygon.proofs.Distances.{vertex_nearest}
use Rattle.hull_polygon.proofs.laws.none_nearer_than_vertex.Goals as goal

pub returns : goal.returns
returns c = vertex_nearest
