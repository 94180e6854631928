-- the first vertex, the last, the lowest and the highest determine the box
use Rattle.std.proofs.Common.{subst}
use Rattle.lattice.specs.Plane.{Pair}
use Rattle.hull_geometry.specs.Tangents.{IsFirstFarthest}
use Rattle.hull_polygon.proofs.Boxed.{boxed}
use Rattle.hull_polygon.proofs.extents.box_of.Goals as goal

pub returns : goal.returns
returns c = λ S o.
    let V = c.args.vertices.now in
    rw (c.in_column_and_row.ensures, c.in_column_and_row-2.ensures, c.vertex_at.ensures, c.vertex_at-2.ensures)
    (boxed S V c.args.last c.farthest-low.result c.farthest-high.result o c.requires.separated c.requires.some
    (subst (λ (d : Pair). IsFirstFarthest S d c.farthest-low.result) c.down.ensures (c.farthest-low.ensures S o))
    (subst (λ (d : Pair). IsFirstFarthest S d c.farthest-high.result) c.up.ensures (c.farthest-high.ensures S o)))
