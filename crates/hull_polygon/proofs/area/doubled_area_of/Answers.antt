-- no triangle between the first vertex and an edge bends right
use Rattle.std.proofs.Common.{◌-◌, ◌<◌, arith, length}
use Rattle.hull_polygon.proofs.Vertices.{read_vertex}
use Rattle.hull_polygon.proofs.Triangles.{triangle_left}
use Rattle.hull_polygon.proofs.area.doubled_area_of.Goals as goal

pub doubled_triangle-doubled-requires : goal.doubled_triangle-doubled-requires
doubled_triangle-doubled-requires c =
    let V = c.args.vertices.now in
    let n : c.loop-i.i < length V = c.loop-i-test.true in
    rw (
      read_vertex V 0 _ (omega (arith, n)) c.index-vertices-0.is,
      read_vertex V (c.loop-i.i - 1) _ (omega (arith, n)) c.index-vertices-i.is,
      read_vertex V c.loop-i.i _ n c.index-vertices-i-in-loop-i.is,
    )
    (triangle_left V c.loop-i.i c.requires.0 c.loop-i.auto.i n)
