-- one hull covers the first vertex of the other
use Rattle.lattice.proofs.Tests.{passed}
use Rattle.hull_polygon.proofs.polygon.Polygon.meeting_at_first.Goals as goal

pub returns-then-covers : goal.returns-then-covers
returns-then-covers c = λ S o T t. (c.vertex_of-first.ensures S o, passed _ _ c.if-covers.true (c.covers.ensures T t))

pub returns-then-covers-2 : goal.returns-then-covers-2
returns-then-covers-2 c = λ S o T t.
    (c.vertex_of-opposite.ensures T t, passed _ _ c.if-covers-2.true (c.covers-2.ensures S o))
