-- the bend at the index decides it
use Rattle.std.proofs.Common.{arith}
use Rattle.hull_geometry.proofs.Mended.{over_edge}
use Rattle.hull_plain.proofs.repairing.is_inwards.Goals as goal

pub returns : goal.returns
returns c =
    over_edge c.args.side c.args.chain.now.items c.args.p c.get.result c.get-2.result c.args.i c.orient_on.result
    (omega (arith, c.if-i-eq0.false)) (omega (arith, c.requires, c.if-i-len.false, c.len.ensures)) c.get.ensures
    c.get-2.ensures c.orient_on.ensures.value c.orient_on.ensures.size
