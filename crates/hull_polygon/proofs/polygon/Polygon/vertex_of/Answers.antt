-- each vertex is a point of the set
use Rattle.std.proofs.Common.{sym, subst}
use Rattle.std.specs.List.{Contains}
use Rattle.hull_polygon.proofs.Vertices.{vertex_extreme}
use Rattle.hull_polygon.proofs.polygon.Polygon.vertex_of.Goals as goal

pub returns : goal.returns
returns c = λ S o.
    subst (Contains S) (sym c.vertex_at.ensures)
    (vertex_extreme S c.args.self.now.vertices.now c.index_round.result o.1 c.requires).0
