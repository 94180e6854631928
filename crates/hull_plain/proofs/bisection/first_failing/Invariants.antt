-- the test is true of the edge before `low`, and false of the edge from `high`
use Rattle.std.proofs.Common.{◌<◌, ◌≤◌, ◌+◌, ◌-◌, length, true, false}
use Rattle.hull_geometry.specs.Positions.{point_at}
use Rattle.hull_plain.proofs.bisection.first_failing.Given as goal

abbrev pub invariant-loop-low : goal.invariant-loop-low
invariant-loop-low g l = record {
  ordered : l.low ≤ l.high;
  within : l.high < length l.chain.items;
  held : 0 < l.low → goal.F-post g l.holds (point_at l.chain.items (l.low - 1)) (point_at l.chain.items (l.low - 1 + 1)) true;
  fails : l.high + 1 < length l.chain.items
      → goal.F-post g l.holds (point_at l.chain.items l.high) (point_at l.chain.items (l.high + 1)) false;
}

abbrev pub decreases-loop-low : goal.decreases-loop-low
decreases-loop-low g l = l.high - l.low
