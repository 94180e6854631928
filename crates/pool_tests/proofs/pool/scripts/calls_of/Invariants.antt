-- one call at most of each entry so far
use Rattle.std.proofs.Common.{◌≤◌, length}
use Rattle.pool_tests.proofs.pool.scripts.calls_of.Given as goal

abbrev pub invariant-loop-entry : goal.invariant-loop-entry
invariant-loop-entry l = length l.own.items ≤ l.entry-index
