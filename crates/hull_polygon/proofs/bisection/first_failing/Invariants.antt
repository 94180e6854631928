-- the test was true of the edge before `low`, and is false of the edge after those that are left
use Rattle.std.proofs.Common.{◌<◌, ◌≤◌, ◌+◌, ◌-◌, true, false}
use Rattle.hull_polygon.specs.Rounds.{vertex}
use Rattle.hull_polygon.proofs.bisection.first_failing.Given as goal

abbrev pub invariant-loop-edges : goal.invariant-loop-edges
invariant-loop-edges g l = record {
  from : l.fn.low ≤ l.low;
  to : l.low + l.edges ≤ l.fn.high;
  held : l.fn.low < l.low
      → goal.F-post g l.holds (vertex l.vertices (l.low - 1)) (vertex l.vertices (l.low - 1 + 1)) true;
  fails : l.low + l.edges < l.fn.high
      → goal.F-post g l.holds (vertex l.vertices (l.low + l.edges)) (vertex l.vertices (l.low + l.edges + 1)) false;
}

abbrev pub decreases-loop-edges : goal.decreases-loop-edges
decreases-loop-edges g l = l.edges
