-- the nearest feature to the closest vertex of this hull
use Rattle.std.proofs.Common.{subst}
use Rattle.hull_polygon.specs.Closest.{IsClosest}
use Rattle.hull_polygon.specs.Meetings.{IsReached}
use Rattle.hull_polygon.proofs.Closest.{by_vertices, by_edge}
use Rattle.hull_polygon.proofs.distance.by_this.Goals as goal

pub returns-in-Covered : goal.returns-in-Covered
returns-in-Covered c = λ S T h.
    let k = subst (IsClosest S T c.args.c) c.in-Covered.is h in IsReached c.args.c k.vertex.0 k.nearest

pub returns-in-Vertex : goal.returns-in-Vertex
returns-in-Vertex c = λ S T h. by_vertices S T _ _ (subst (IsClosest S T c.args.c) c.in-Vertex.is h)

pub returns-in-Edge : goal.returns-in-Edge
returns-in-Edge c = λ S T h. by_edge S T _ _ _ (subst (IsClosest S T c.args.c) c.in-Edge.is h)
