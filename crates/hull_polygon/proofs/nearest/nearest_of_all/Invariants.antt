-- none of the vertices so far is the nearest, and none of the edges from them
use Rattle.std.proofs.Common.{ℕ, ◌<◌}
use Rattle.hull_polygon.specs.Nearest.{IsPassedOver}
use Rattle.hull_polygon.proofs.nearest.nearest_of_all.Given as goal

abbrev pub invariant-loop-i : goal.invariant-loop-i
invariant-loop-i l = (k : ℕ) → k < l.i → IsPassedOver l.vertices k l.q
