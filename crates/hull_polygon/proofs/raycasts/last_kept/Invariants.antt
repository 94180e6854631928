-- the vertex at `low` is kept, and the one at `high` is not
use Rattle.std.proofs.Common.{◌-◌, ◌<◌, ◌≤◌}
use Rattle.hull_polygon.specs.Raycasts.{IsKept, moved}
use Rattle.hull_polygon.specs.Rounds.{vertex}
use Rattle.hull_polygon.proofs.raycasts.last_kept.Given as goal

abbrev pub invariant-loop-low : goal.invariant-loop-low
invariant-loop-low l = record {
  ordered : l.low < l.high;
  to : l.high ≤ l.fn.high;
  held : IsKept l.touching l.way.start (moved l.way.start l.way.along) (vertex l.vertices l.low);
  fails : ¬ IsKept l.touching l.way.start (moved l.way.start l.way.along) (vertex l.vertices l.high);
}

abbrev pub decreases-loop-low : goal.decreases-loop-low
decreases-loop-low l = l.high - l.low
