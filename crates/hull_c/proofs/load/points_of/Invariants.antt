-- the points so far
use Rattle.std.proofs.Common.{◌≡◌, length, take, vec_capacity, vec_len}
use Rattle.std.specs.List.{All}
use Rattle.hull_c.specs.Loads.{HasCoordinates}
use Rattle.hull_c.proofs.load.points_of.Given as goal

abbrev pub invariant-loop-i : goal.invariant-loop-i
invariant-loop-i l = record {
  points : l.points.items ≡ take l.i l.array;
  short : vec_len l.points ≡ l.i;
  in_range : All HasCoordinates (take l.i l.array);
  storage : vec_capacity l.points ≡ length l.array;
}
