-- there is a call for each round so far
use Rattle.std.proofs.Common.{◌≡◌, length}
use Rattle.pool_tests.proofs.pool.hostile.long_list.Given as goal

abbrev pub invariant-loop-made : goal.invariant-loop-made
invariant-loop-made l = length l.calls.items ≡ l._made
