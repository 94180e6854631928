-- the nearest vertex or edge determines the direction
use Rattle.hull_polygon.proofs.Made.{separated_is_polygon}
use Rattle.hull_polygon.proofs.Separated.{from_vertex, from_edge}
use Rattle.hull_polygon.proofs.separations.separation_from.Goals as goal

pub unreachable-requires : goal.unreachable-requires
unreachable-requires c =
    let s = separated_is_polygon c.args.vertices.now c.args.last c.requires.separated in
    c.requires.outside s.0 s.1 (c.in-Covered.ensures s.0 s.1)

pub returns-in-Vertex : goal.returns-in-Vertex
returns-in-Vertex c = λ S o. from_vertex S c.args.q _ _ (c.in-Vertex.ensures S o) c.step.ensures

pub returns-in-Edge : goal.returns-in-Edge
returns-in-Edge c = λ S o. from_edge S c.args.q _ _ _ (c.in-Edge.ensures S o) c.left_of.ensures
