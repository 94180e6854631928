-- so far the list goes on and bends left
use Rattle.std.proofs.Common.{ℕ, ◌<◌}
use Rattle.hull_polygon.specs.Rounds.{GoesOn, BendsLeft}
use Rattle.hull_polygon.proofs.rounds.is_round.Given as goal

abbrev pub invariant-loop-i : goal.invariant-loop-i
invariant-loop-i l = record {
  steps : (k : ℕ) → k < l.i → GoesOn l.vertices l.last k;
  bends : (k : ℕ) → k < l.i → BendsLeft l.vertices l.last k;
}
