-- if a number is low, the coordinates so far stay in range
use Rattle.std.proofs.Common.{ℕ, ◌<◌, ◌^◌, ◌+ℤ◌, get_or}
use Rattle.lattice.specs.Plane.{Pair, IsCoordinate}
use Rattle.polygon_arrays.proofs.steps.are_below_limit.Given as goal

abbrev pub invariant-loop-p : goal.invariant-loop-p
invariant-loop-p l = record {
  x : l.x_bits < 2 ^ 41 → (k : ℕ) (d : Pair) → k < l.p-index → IsCoordinate ((get_or l.points k d).x +ℤ l.dx);
  y : l.y_bits < 2 ^ 41 → (k : ℕ) (d : Pair) → k < l.p-index → IsCoordinate ((get_or l.points k d).y +ℤ l.dy);
}
