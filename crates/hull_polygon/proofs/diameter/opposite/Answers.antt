-- the edge goes between the two vertices
use Rattle.std.proofs.Common.{ap, ◌∙◌, subst}
use Rattle.lattice.specs.Plane.{Pair}
use Rattle.hull_geometry.specs.Tangents.{IsFirstFarthest}
use Rattle.hull_polygon.specs.Rounds.{vertex}
use Rattle.hull_polygon.specs.Steps.{left_of}
use Rattle.hull_polygon.proofs.diameter.opposite.Goals as goal

pub returns : goal.returns
returns c = λ S o.
    let V = c.args.vertices.now in
    let f : Pair = c.farthest.result in
    subst (λ (d : Pair). IsFirstFarthest S d f) (c.left_of-edge.ensures
    ∙ ap (λ (z : Pair). left_of z c.vertex_at-2.result) c.vertex_at.ensures
    ∙ ap (left_of (vertex V c.args.i)) c.vertex_at-2.ensures)
    (c.farthest.ensures S o)
