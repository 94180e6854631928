-- the member has its seat again after each call
use Rattle.hull_pool.specs.Long.{IsSeatedLong}
use Rattle.pool_tests.proofs.pool.draining.works.Given as goal

abbrev pub invariant-loop-i : goal.invariant-loop-i
invariant-loop-i g l = IsSeatedLong l.lock l.member.number l.member.ledger l.member.seat
