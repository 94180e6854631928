-- The count is the calls of the phases so far and what is left of it.
use Rattle.std.proofs.Common.{◌≡◌, ◌+◌, length, All}
use Rattle.hull_book.specs.Scripts.{calls_of}
use Rattle.hull_text.proofs.write.fitting.has_calls.Given as goal

abbrev pub invariant-loop-phase : goal.invariant-loop-phase
invariant-loop-phase l = record {
  left : l.left + length (calls_of l.worker l.phases) ≡ l.count + length (calls_of l.worker l.rest);
  jobs : All (λ phase. length phase ≡ l.workers) l.rest;
}

abbrev pub decreases-loop-phase : goal.decreases-loop-phase
decreases-loop-phase l = length l.rest
