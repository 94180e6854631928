-- the first point is a vertex
use Rattle.std.proofs.Common.{subst, ℕ}
use Rattle.hull_buckets.specs.Buckets.{AreEnds}
use Rattle.hull_buckets.proofs.EndPoints.{first_end}
use Rattle.hull_buckets.proofs.repairing.with_first.Goals as goal

pub returns-then-points-gt0 : goal.returns-then-points-gt0
returns-then-points-gt0 c = λ side s k. first_end side c.args.points.now c.args.high s c.if-points-gt0.true
    c.if-high-eq0.true (subst (λ (m : ℕ). AreEnds side c.args.points.now m c.args.high) c.if-low-eq0.true k)
