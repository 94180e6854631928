-- the vertices that lie farthest towards one another
use Rattle.std.proofs.Common.{subst}
use Rattle.lattice.specs.Places.{IsFarthest}
use Rattle.lattice.specs.Plane.{Pair}
use Rattle.hull_polygon.specs.Rounds.{vertex}
use Rattle.hull_polygon.proofs.Neighbours.{apart_along}
use Rattle.hull_polygon.proofs.polygon.Polygon.is_parted_at.Goals as goal

pub returns : goal.returns
returns c = λ S o T q t.
    let a = vertex c.args.self.now.vertices.now c.args.i in
    let b = vertex c.args.other.now.vertices.now c.args.k in
    let near = c.stays_nearer.ensures c.if-not-stays_nearer.false in
    apart_along S T c.args.d a b c.args.motion (c.is_farthest_at.ensures S o c.if-not-is_farthest_at.false)
    (subst (λ (d : Pair). IsFarthest T d b) c.back.ensures (c.is_farthest_at-2.ensures T q t))
    (rw (← c.vertex_at.ensures, ← c.vertex_at-2.ensures) near.0) (rw (← c.vertex_at.ensures, ← c.vertex_at-2.ensures) near.1)
