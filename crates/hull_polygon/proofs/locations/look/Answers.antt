-- a point neither before nor after the last vertex is equal to it
use Rattle.hull_polygon.proofs.EdgesAt.{last_touched}
use Rattle.lattice.proofs.Tests.{failed}
use Rattle.hull_polygon.proofs.locations.look.Goals as goal

pub returns-else-before-3 : goal.returns-else-before-3
returns-else-before-3 c = λ S o.
    last_touched S c.args.vertices.now c.args.last c.args.q o c.requires.separated c.requires.some
    (rw (c.vertex_at-2.ensures) at (failed c.before-3.result _ c.if-before-2.false c.before-3.ensures))
    (rw (c.vertex_at-3.ensures) at (failed c.before-4.result _ c.if-before-3.false c.before-4.ensures))
