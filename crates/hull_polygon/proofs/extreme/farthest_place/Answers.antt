-- after the end is the first vertex again
use Rattle.std.proofs.Common.{subst}
use Rattle.hull_geometry.specs.Tangents.{IsFirstFarthest}
use Rattle.hull_polygon.proofs.Vertices.{vertex_back}
use Rattle.hull_polygon.proofs.extreme.farthest_place.Goals as goal

pub returns-else-place-vertices-clause-farthest : goal.returns-else-place-vertices-clause-farthest
returns-else-place-vertices-clause-farthest c = λ S o.
    subst (IsFirstFarthest S c.args.d)
    (vertex_back c.args.vertices.now c.place_of_farthest-place.result c.if-place-vertices.false c.requires.some)
    (c.place_of_farthest-place.ensures.farthest S o)
