-- each member is left, or its seat and its ledger are both at the index of the seat's number
use Rattle.std.proofs.Common.{◌≡◌, ◌+◌, ◌≤◌, All, vec_len, vec_capacity}
use Rattle.std.specs.List.{AllZip}
use Rattle.ticket_lock.specs.Tokens.{IsSeatOf, AreNumbered, seat_number, seat_seen}
use Rattle.hull_book.specs.Ledgers.{IsLedgerOf}
use Rattle.hull_book.specs.Marks.{plain}
use Rattle.hull_pool.specs.Long.{IsSeatedLong, long_book_head}
use Rattle.pool_tests.proofs.pool.draining.disband.Given as goal

abbrev pub invariant-loop-member : goal.invariant-loop-member
invariant-loop-member g l = record {
  left : All (λ m. IsSeatedLong l.lock m.number m.ledger m.seat) l.members.items;
  own : All (IsSeatOf long_book_head l.lock) l.seats.items;
  numbered : AreNumbered l.seats.items;
  ledgers : AllZip (λ s l. IsLedgerOf (seat_number s) (plain (seat_seen s)) l) l.seats.items l.ledgers.items;
  many : vec_len l.seats + vec_len l.members ≡ vec_len l.fn.members;
  as_many : vec_len l.ledgers ≡ vec_len l.seats;
  space : (vec_len l.fn.members ≤ vec_capacity l.seats) × (vec_len l.fn.members ≤ vec_capacity l.ledgers);
}

abbrev pub decreases-loop-member : goal.decreases-loop-member
decreases-loop-member g l = vec_len l.members
