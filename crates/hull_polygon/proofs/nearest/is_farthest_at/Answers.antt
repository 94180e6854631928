-- neither of the vertices beside it lies farther
use Rattle.lattice.proofs.Tests.{failed}
use Rattle.hull_polygon.proofs.Neighbours.{farthest_beside}
use Rattle.hull_polygon.proofs.nearest.is_farthest_at.Goals as goal

pub returns : goal.returns
returns c = λ S o t.
    farthest_beside S c.args.vertices.now c.args.last c.args.i c.args.d o c.requires.separated c.requires.within
    (λ h. failed _ _ c.if-is_nearer.false c.is_nearer.ensures (rw (c.vertex_at-c.ensures, c.vertex_before.ensures) h))
    (λ h. failed _ _ c.if-is_nearer-2.false c.is_nearer-2.ensures (rw (c.vertex_at-c.ensures, c.vertex_at.ensures) h))
