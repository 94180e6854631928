-- no more points were counted than were looked at
use Rattle.std.proofs.Common.{◌≤◌}
use Rattle.outer_points.proofs.filter.is_sample_inner.Given as goal

abbrev pub invariant-loop-p : goal.invariant-loop-p
invariant-loop-p l = l.inner ≤ l.p-index
