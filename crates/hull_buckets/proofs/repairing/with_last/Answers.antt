-- the last point is a vertex
use Rattle.std.proofs.Common.{subst, ℕ, arith}
use Rattle.hull_buckets.specs.Buckets.{AreEnds}
use Rattle.hull_buckets.proofs.EndPoints.{last_end}
use Rattle.hull_buckets.proofs.repairing.with_last.Goals as goal

pub returns-then-low-last : goal.returns-then-low-last
returns-then-low-last c = λ side s k. rw (c.bit-last.ensures)
    (last_end side c.args.points.now c.args.low s (omega (arith, c.if-count-eq0.false))
    (rw (c.bit-last.ensures) at c.if-low-last.true)
    (subst (λ (m : ℕ). AreEnds side c.args.points.now c.args.low m) c.if-high-ne0.false k))
