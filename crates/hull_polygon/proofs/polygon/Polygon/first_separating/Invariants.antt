-- the range becomes smaller, and ends at the given edge at most
use Rattle.std.proofs.Common.{◌-◌, ◌≤◌}
use Rattle.hull_polygon.proofs.polygon.Polygon.first_separating.Given as goal

abbrev pub invariant-loop-low : goal.invariant-loop-low
invariant-loop-low l = l.high ≤ l.i

abbrev pub decreases-loop-low : goal.decreases-loop-low
decreases-loop-low l = l.high - l.low
