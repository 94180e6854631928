-- the nearest feature to the closest vertex of the other hull
use Rattle.std.proofs.Common.{subst}
use Rattle.hull_polygon.specs.Closest.{IsClosest}
use Rattle.hull_polygon.specs.Meetings.{Reaches}
use Rattle.hull_polygon.proofs.Closest.{by_vertices, by_edge}
use Rattle.hull_polygon.proofs.distance.by_other.Goals as goal

pub returns-in-Covered : goal.returns-in-Covered
returns-in-Covered c = λ S T h.
    let k = subst (IsClosest T S c.args.d) c.in-Covered.is h in Reaches c.args.d k.vertex.0 k.nearest

pub returns-in-Vertex : goal.returns-in-Vertex
returns-in-Vertex c = λ S T h.
    let k = by_vertices T S _ _ (subst (IsClosest T S c.args.d) c.in-Vertex.is h) in (k.1, k.0)

pub returns-in-Edge : goal.returns-in-Edge
returns-in-Edge c = λ S T h. by_edge T S _ _ _ (subst (IsClosest T S c.args.d) c.in-Edge.is h)
