-- the index is one of a point
use Rattle.std.proofs.Common.{◌<◌, length}
use Rattle.outer_points.proofs.filter.sample_of.Given as goal

abbrev pub invariant-loop-slot : goal.invariant-loop-slot
invariant-loop-slot l = l.at < length l.points
