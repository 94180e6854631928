-- the first of the points from i on that are equal to each vertex
use Rattle.std.proofs.Common.{◌≡◌, ℕ, ◌<◌, length, get_or}
use Rattle.hull_geometry.specs.Positions.{point_at}
use Rattle.polygon_arrays.specs.Indices.{IsFirstIndex}
use Rattle.polygon_arrays.proofs.indices.vertex_indices.Given as goal

abbrev pub invariant-loop-i : goal.invariant-loop-i
invariant-loop-i l = record {
  long : length l.out ≡ length l.vertices;
  first : (k : ℕ) → k < length l.vertices → IsFirstIndex l.i l.points (point_at l.vertices k) (get_or l.out k 0);
}
