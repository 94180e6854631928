-- the copy has the points so far, and the capacity for all
use Rattle.std.proofs.Common.{◌≡◌, ◌≤◌, length, take, vec_capacity}
use Rattle.hull_set.proofs.point_list.PointListClone.clone.Given as goal

abbrev pub invariant-loop-point : goal.invariant-loop-point
invariant-loop-point l = record {
  same : l.copy.items ≡ take l.point-index l.points;
  room : length l.points ≤ vec_capacity l.copy;
}
