-- a point that is among the rest is still in the set
use Rattle.std.proofs.Common.{arith}
use Rattle.leaf_trees.proofs.Counting.{counted_past}
use Rattle.leaf_trees.proofs.adding.remove_each.Goals as goal

pub remove_one-requires-clause-held : goal.remove_one-requires-clause-held
remove_one-requires-clause-held g c =
    omega (
      arith,
      c.loop-i.invariant.multiplicities c.index-points-i.result,
      c.requires.held c.index-points-i.result,
      counted_past c.args.points.now c.loop-i.i c.index-points-i.result c.index-points-i.is
          (omega (arith, c.loop-i-test.true)),
    )
