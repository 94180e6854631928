-- the first blocks are written
use Rattle.std.proofs.Common.{◌≡◌, ◌*◌, length, take, map}
use Rattle.motions.specs.Motions.{moved}
use Rattle.motions.specs.declared.motion.Motion.TheVariants.{Translation}
use Rattle.polygon_arrays.proofs.translated.write_all.Given as goal

abbrev pub invariant-loop-i : goal.invariant-loop-i
invariant-loop-i l = record {
  long : length l.out ≡ length l.points;
  front : take (l.i * 8) l.out ≡ map (moved (Translation l.dx l.dy)) (take (l.i * 8) l.points);
}
