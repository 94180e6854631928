-- each worker so far has a list, of 64 calls at most
use Rattle.std.proofs.Common.{◌≡◌, ◌≤◌, ◌*◌, length}
use Rattle.hull_book.specs.Scripts.{lists_of, calls_in}
use Rattle.pool_tests.proofs.pool.scripts.phase_of.Given as goal

abbrev pub invariant-loop-worker : goal.invariant-loop-worker
invariant-loop-worker l = record {
  many : length l.jobs.items ≡ l.worker;
  few : calls_in (lists_of l.jobs.items) ≤ 64 * l.worker;
}
