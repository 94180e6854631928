-- the first points were written
use Rattle.std.proofs.Common.{◌≡◌, length, take, map}
use Rattle.motions.specs.Motions.{moved}
use Rattle.polygon_arrays.proofs.moved.write_moved.Given as goal

abbrev pub invariant-loop-i : goal.invariant-loop-i
invariant-loop-i l = record {
  front : take l.i l.out ≡ map (moved l.motion) (take l.i l.points);
  long : length l.out ≡ length l.points;
}
