-- each point is left, or it was taken or left out
use Rattle.std.proofs.Common.{ℕ, ◌<◌, ◌^◌}
use Rattle.hull_geometry.specs.Monotone.{IsConvex}
use Rattle.hull_buckets.specs.Masks.{at_places, AreApart}
use Rattle.hull_buckets.proofs.Outwards.{IsUnderWay}
use Rattle.hull_buckets.proofs.chain.passed_outwards.Given as goal

abbrev pub invariant-loop-left : goal.invariant-loop-left
invariant-loop-left l = record {
  apart : AreApart l.kept l.left;
  within : (k : ℕ) → l.chain < 2 ^ k → l.rest < 2 ^ k → (l.kept < 2 ^ k) × (l.left < 2 ^ k);
  convex : IsConvex l.side (at_places l.kept l.points);
  under_way : IsUnderWay l.side l.points l.chain l.rest l.a l.b l.kept l.left;
}

abbrev pub decreases-loop-left : goal.decreases-loop-left
decreases-loop-left l = l.left
