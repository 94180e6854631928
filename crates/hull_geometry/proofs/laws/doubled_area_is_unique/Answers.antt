-- the doubled area follows from the vertex list, and there is at most one vertex list
use Rattle.hull_geometry.proofs.UniqueVertices.{doubled_area_unique}
use Rattle.hull_geometry.proofs.laws.doubled_area_is_unique.Goals as goal

pub returns : goal.returns
returns c = doubled_area_unique
