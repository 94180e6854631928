-- the points so far are in range, and none of them is before the one at the index
use Rattle.std.proofs.Common.{◌≡◌, ℕ, ◌<◌, length, get_or}
use Rattle.lattice.specs.Plane.{Pair, IsBefore, IsInRange}
use Rattle.hull_geometry.specs.Positions.{point_at}
use Rattle.motions.specs.Motions.{moved}
use Rattle.motions.proofs.motion.Motion.first_in_range.Given as goal

abbrev pub invariant-loop-i : goal.invariant-loop-i
invariant-loop-i l = record {
  within : l.first < length l.points;
  start : l.start ≡ moved l.self (point_at l.points l.first);
  kept : (k : ℕ) (d : Pair) → k < l.i → IsInRange (moved l.self (get_or l.points k d));
  first : (k : ℕ) → k < l.i → ¬ IsBefore (moved l.self (point_at l.points k)) (moved l.self (point_at l.points l.first));
}
