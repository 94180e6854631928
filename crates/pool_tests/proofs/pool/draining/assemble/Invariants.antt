-- each seat is left, or has a member
use Rattle.std.proofs.Common.{◌≡◌, ◌+◌, ◌≤◌, [], All, vec_len, vec_capacity}
use Rattle.ticket_lock.specs.Tokens.{IsSeatOf, opening_book, seat_seen}
use Rattle.hull_pool.specs.Long.{IsSeatedLong, long_book_head}
use Rattle.pool_tests.proofs.pool.draining.assemble.Given as goal

abbrev pub invariant-loop-seat : goal.invariant-loop-seat
invariant-loop-seat g l = record {
  left : All (λ s. IsSeatOf long_book_head l.lock s × (seat_seen s ≡ [])) l.seats.items;
  ready : All (λ m. IsSeatedLong l.lock m.number m.ledger m.seat) l.members.items;
  many : vec_len l.members + vec_len l.seats ≡ vec_len l.fn.seats;
  ledgers : vec_len l.ledgers ≡ vec_len l.seats;
  space : vec_len l.fn.seats ≤ vec_capacity l.members;
  same : (vec_capacity l.seats ≡ vec_capacity l.fn.seats) × (vec_capacity l.ledgers ≡ vec_capacity l.fn.ledgers);
  workers : (l.workers ≡ vec_len l.fn.seats) × ((long_book_head (opening_book l.lock)).workers ≡ vec_len l.fn.seats);
}

abbrev pub decreases-loop-seat : goal.decreases-loop-seat
decreases-loop-seat g l = vec_len l.seats
