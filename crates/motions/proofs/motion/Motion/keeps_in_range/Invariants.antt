-- the points so far stay in range
use Rattle.std.proofs.Common.{ℕ, ◌<◌, get_or}
use Rattle.lattice.specs.Plane.{Pair, IsInRange}
use Rattle.motions.specs.Motions.{moved}
use Rattle.motions.proofs.motion.Motion.keeps_in_range.Given as goal

abbrev pub invariant-loop-p : goal.invariant-loop-p
invariant-loop-p l = (k : ℕ) (d : Pair) → k < l.p-index → IsInRange (moved l.self (get_or l.points k d))
