-- the sum so far and the counts that are left make the sum of all
use Rattle.std.proofs.Common.{◌≡◌, ◌+◌, ◌<◌, ◌^◌, vec_len}
use Rattle.hull_book.specs.Ledgers.{sum_of_counts}
use Rattle.hull_book.proofs.gathering.sum_of.Given as goal

abbrev pub invariant-loop-ledger : goal.invariant-loop-ledger
invariant-loop-ledger l = record {
  sum_is : l.sum + sum_of_counts l.ledgers.items ≡ sum_of_counts l.initial.ledgers.items;
  few : sum_of_counts l.initial.ledgers.items < 2 ^ 64;
}

abbrev pub decreases-loop-ledger : goal.decreases-loop-ledger
decreases-loop-ledger l = vec_len l.ledgers
