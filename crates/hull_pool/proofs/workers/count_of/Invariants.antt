-- the calls counted and those of the phases that are left are all calls
use Rattle.std.proofs.Common.{◌≡◌, ◌+◌, ◌<◌, ◌≤◌, length, All}
use Rattle.hull_book.specs.Scripts.{calls_of}
use Rattle.hull_book.specs.declared.limits.TheConstants.{TEXT_LINE_LIMIT}
use Rattle.hull_pool.proofs.workers.count_of.Given as goal

abbrev pub invariant-loop-phase : goal.invariant-loop-phase
invariant-loop-phase l = record {
  counted : l.count + length (calls_of l.worker l.rest) ≡ length (calls_of l.worker l.phases);
  jobs : All (λ phase. l.worker < length phase) l.rest;
  few : length (calls_of l.worker l.phases) ≤ TEXT_LINE_LIMIT;
}

abbrev pub decreases-loop-phase : goal.decreases-loop-phase
decreases-loop-phase l = length l.rest
