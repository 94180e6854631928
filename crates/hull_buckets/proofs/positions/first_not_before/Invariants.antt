-- those up to `place` are before p, and no point from the end of the block on is
use Rattle.std.proofs.Common.{◌-◌, ◌≤◌, length, take}
use Rattle.std.specs.List.{All}
use Rattle.lattice.specs.Plane.{IsBefore}
use Rattle.hull_buckets.proofs.positions.first_not_before.Given as goal

abbrev pub invariant-loop-place : goal.invariant-loop-place
invariant-loop-place l = record {
  inside : l.place ≤ length l.points;
  below : All (λ t. IsBefore t l.p) (take l.place l.points);
}

abbrev pub decreases-loop-place : goal.decreases-loop-place
decreases-loop-place l = length l.points - l.place
