-- the first points are translated, and the others are as they were
use Rattle.std.proofs.Common.{◌≡◌, List, length, drop}
use Rattle.lattice.specs.Plane.{Pair}
use Rattle.polygon_arrays.specs.Moved.{IsTranslatedUpTo}
use Rattle.polygon_arrays.proofs.translated.move_some.Given as goal

abbrev pub invariant-loop-i : goal.invariant-loop-i
invariant-loop-i l = record {
  long : length l.points ≡ length l.fn.points;
  rest : drop l.i l.points ≡ drop l.i l.fn.points;
  moved : (start : List Pair) → IsTranslatedUpTo l.dx l.dy l.from start l.fn.points → IsTranslatedUpTo l.dx l.dy l.i start l.points;
}
