-- the root lies between the two numbers
use Rattle.std.proofs.Common.{◌-◌, ◌*◌, ◌<◌, ◌≤◌}
use Rattle.hull_polygon.specs.Roundings.{full}
use Rattle.hull_polygon.specs.Wide.{number_of}
use Rattle.hull_polygon.proofs.roundings.root.Given as goal

abbrev pub invariant-loop-low : goal.invariant-loop-low
invariant-loop-low l = record {
  from : full ≤ l.low;
  ordered : l.low < l.high;
  to : l.high ≤ 2 * full;
  below : l.low * l.low * l.divisor ≤ number_of l.number;
  above : number_of l.number < l.high * l.high * l.divisor;
}

abbrev pub decreases-loop-low : goal.decreases-loop-low
decreases-loop-low l = l.high - l.low
