-- each edge makes a triangle with the first point that does not bend outwards, so the sum grows by its doubled area
use Rattle.std.proofs.Common.{arith}
use Rattle.hull_geometry.proofs.TwoChains.{triangle}
use Rattle.hull_plain.proofs.vertices.doubled_fan.Goals as goal

pub doubled_triangle-doubled-requires : goal.doubled_triangle-doubled-requires
doubled_triangle-doubled-requires c =
    triangle c.args.side c.requires.chain.0 c.args.chain.now.items c.loop-i.i c.get.result
    c.get-in-loop-i.result c.get-in-loop-i-2.result c.requires.chain.1 c.loop-i.invariant.some (omega (arith, c.loop-i-test.true, c.len-i-end.ensures))
    c.get.ensures c.get-in-loop-i.ensures c.get-in-loop-i-2.ensures
