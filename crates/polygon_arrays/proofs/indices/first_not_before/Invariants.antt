-- the vertices before `low` come before the point, and the one at `high` does not
use Rattle.std.proofs.Common.{ℕ, ◌-◌, ◌<◌, ◌≤◌}
use Rattle.hull_geometry.specs.Edges.{IsAlong}
use Rattle.hull_geometry.specs.Positions.{point_at}
use Rattle.polygon_arrays.proofs.indices.first_not_before.Given as goal

abbrev pub invariant-loop-low : goal.invariant-loop-low
invariant-loop-low l = record {
  from : l.from ≤ l.low;
  order : l.low ≤ l.high;
  to : l.high ≤ l.to;
  before : (i : ℕ) → l.from ≤ i → i < l.low → IsAlong l.side (point_at l.vertices i) l.p;
  rest : l.high < l.to → ¬ IsAlong l.side (point_at l.vertices l.high) l.p;
}

abbrev pub decreases-loop-low : goal.decreases-loop-low
decreases-loop-low l = l.high - l.low
