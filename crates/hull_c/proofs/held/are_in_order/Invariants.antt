-- the points so far are in order
use Rattle.std.proofs.Common.{◌≤◌}
use Rattle.leaf_trees.specs.Entries.{points_listed}
use Rattle.hull_c.proofs.InOrder.{AreInOrderTo}
use Rattle.hull_c.proofs.held.are_in_order.Given as goal

abbrev pub invariant-loop-i : goal.invariant-loop-i
invariant-loop-i l = record {
  some : 1 ≤ l.i;
  in_order : AreInOrderTo l.i (points_listed l.array);
}
