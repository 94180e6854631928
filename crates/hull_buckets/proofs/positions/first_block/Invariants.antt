-- the blocks that were passed are full, and their points are before p
use Rattle.std.proofs.Common.{◌≡◌, ◌-◌, ◌≤◌, ◌%◌, length, take}
use Rattle.std.specs.List.{All}
use Rattle.lattice.specs.Plane.{IsBefore}
use Rattle.hull_buckets.proofs.positions.first_block.Given as goal
use Rattle.hull_buckets.specs.declared.positions.TheConstants.{BLOCK_SIZE}

abbrev pub invariant-loop-start : goal.invariant-loop-start
invariant-loop-start l = record {
  inside : l.start ≤ length l.points;
  whole : l.start % BLOCK_SIZE ≡ 0;
  below : All (λ t. IsBefore t l.p) (take l.start l.points);
}

abbrev pub decreases-loop-start : goal.decreases-loop-start
decreases-loop-start l = length l.points - l.start
