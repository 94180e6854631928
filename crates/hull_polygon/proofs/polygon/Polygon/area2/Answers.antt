-- the vertices are the vertex list of each of their sets
use Rattle.std.proofs.Common.{◌≡◌, pos, List, subst}
use Rattle.lattice.specs.Plane.{Pair}
use Rattle.lattice.specs.Vertices.{doubled_area}
use Rattle.hull_polygon.proofs.polygon.Polygon.area2.Goals as goal

pub returns : goal.returns
returns c = λ S o. (
  c.args.self.now.vertices.now,
  o.1,
  subst (λ (V : List Pair). pos c.doubled_area_of.result ≡ doubled_area V) c.vertices.ensures.vertices
      c.doubled_area_of.ensures,
)
