-- two vertex lists start at the same point, and the vertex after a vertex is determined
use Rattle.hull_geometry.proofs.UniqueVertices.{vertex_list_unique}
use Rattle.hull_geometry.proofs.laws.vertex_list_is_unique.Goals as goal

pub returns : goal.returns
returns c = vertex_list_unique
