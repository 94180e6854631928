-- the first blocks are translated, and the others are as they were
use Rattle.std.proofs.Common.{◌*◌}
use Rattle.polygon_arrays.specs.Moved.{IsTranslatedUpTo}
use Rattle.polygon_arrays.proofs.translated.move_all.Given as goal

abbrev pub invariant-loop-i : goal.invariant-loop-i
invariant-loop-i l = IsTranslatedUpTo l.dx l.dy (l.i * 8) l.fn.points l.points
