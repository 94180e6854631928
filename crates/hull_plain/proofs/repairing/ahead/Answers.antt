-- the point at the index is the first from there on
use Rattle.std.proofs.Common.{◌+◌, drop, arith}
use Rattle.hull_geometry.proofs.PointLists.{none_from}
use Rattle.hull_geometry.proofs.Passes.{rest_at}
use Rattle.hull_plain.proofs.repairing.ahead.Goals as goal

pub returns-then-i-len : goal.returns-then-i-len
returns-then-i-len c = none_from c.args.i c.args.chain.now.items (omega (arith, c.if-i-len.true, c.len.ensures))

pub returns-else-i-len : goal.returns-else-i-len
returns-else-i-len c = (
  drop (c.args.i + 1) c.args.chain.now.items,
  rest_at c.args.chain.now.items c.args.i c.get.result (omega (arith, c.if-i-len.false, c.len.ensures, c.requires))
      c.get.ensures,
)
