-- none of the entries so far is the point
use Rattle.std.proofs.Common.{length, ◌-◌, ◌≡◌, ◌<◌, ◌≤◌, get_or, ℕ}
use Rattle.deferring_set.proofs.positions.index_of.Given as goal

abbrev pub invariant-loop-i : goal.invariant-loop-i
invariant-loop-i l = record {
  inside : l.i ≤ length l.points;
  absent : (k : ℕ) → k < l.i → ¬ (get_or l.points k l.p ≡ l.p);
}

abbrev pub decreases-loop-i : goal.decreases-loop-i
decreases-loop-i l = length l.points - l.i
