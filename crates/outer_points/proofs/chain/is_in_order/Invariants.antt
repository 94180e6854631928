-- the first points are in order
use Rattle.std.proofs.Common.{◌≤◌}
use Rattle.outer_points.proofs.InOrder.{AreInOrderTo}
use Rattle.outer_points.proofs.chain.is_in_order.Given as goal

abbrev pub invariant-loop-i : goal.invariant-loop-i
invariant-loop-i l = record {
  some : 1 ≤ l.i;
  in_order : AreInOrderTo l.i l.chain;
}
