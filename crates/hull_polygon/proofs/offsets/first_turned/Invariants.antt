-- the range becomes smaller
use Rattle.std.proofs.Common.{◌-◌}
use Rattle.hull_polygon.proofs.offsets.first_turned.Given as goal

abbrev pub decreases-loop-low : goal.decreases-loop-low
decreases-loop-low l = l.high - l.low
