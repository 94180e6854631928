-- some points of the walk were passed, and nothing was appended; `from` and `to` are still to come in this order
use Rattle.std.proofs.Common.{◌≡◌, ◌++◌, List, length}
use Rattle.lattice.specs.Plane.{Pair}
use Rattle.bucket_tree.specs.Runs.{IsInOrder}
use Rattle.bucket_tree.proofs.runs.push_run_of.Given as goal

abbrev pub invariant-loop-next : goal.invariant-loop-next
invariant-loop-next l = record {
  walked : (passed : List Pair) × (l.fn.walk ≡ passed ++ l.walk);
  same : l.out.items ≡ l.initial.out.items;
  ordered : IsInOrder l.walk l.fn.from l.fn.to;
}

abbrev pub decreases-loop-next : goal.decreases-loop-next
decreases-loop-next l = length l.walk
