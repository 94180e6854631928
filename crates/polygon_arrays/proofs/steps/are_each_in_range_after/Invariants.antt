-- the points so far stay in range
use Rattle.std.proofs.Common.{ℕ, ◌<◌, get_or}
use Rattle.lattice.specs.Plane.{Pair, IsInRange}
use Rattle.motions.specs.Motions.{translated}
use Rattle.polygon_arrays.proofs.steps.are_each_in_range_after.Given as goal

abbrev pub invariant-loop-p : goal.invariant-loop-p
invariant-loop-p l = (k : ℕ) (d : Pair) → k < l.p-index → IsInRange (translated l.dx l.dy (get_or l.points k d))
