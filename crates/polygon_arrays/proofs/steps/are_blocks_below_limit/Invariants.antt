-- the points of the blocks so far stay in range
use Rattle.std.proofs.Common.{ℕ, ◌*◌, ◌<◌, get_or}
use Rattle.lattice.specs.Plane.{Pair, IsInRange}
use Rattle.motions.specs.Motions.{translated}
use Rattle.polygon_arrays.proofs.steps.are_blocks_below_limit.Given as goal

abbrev pub invariant-loop-i : goal.invariant-loop-i
invariant-loop-i l = (k : ℕ) (d : Pair) → k < l.i * 8 → IsInRange (translated l.dx l.dy (get_or l.points k d))
