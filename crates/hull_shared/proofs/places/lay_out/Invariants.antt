-- the remaining seats and their ledgers are a prefix of all, and those after it are laid out
use Rattle.std.proofs.Common.{◌≡◌, ◌≤◌, ◌+◌, ℕ, All, IsSome, Some, slice_get, length, vec_len, vec_capacity}
use Rattle.hull_book.specs.Ledgers.{LedgerValue, IsLedger}
use Rattle.hull_book.specs.LongBooks.{whole}
use Rattle.hull_shared.specs.Locks.{book_of, boxed_head}
use Rattle.hull_shared.specs.Places.{AreAtHome, HasAt}
use Rattle.hull_shared.specs.declared.place.SeatPlace.{SeatPlace}
use Rattle.ticket_lock.specs.Tokens.{AreNumbered, IsSeatOf, seat_count, seat_seen}
use Rattle.hull_shared.proofs.places.lay_out.Given as goal

abbrev pub invariant-loop-seat : goal.invariant-loop-seat
invariant-loop-seat l = record {
  own : All (IsSeatOf boxed_head l.lock) l.seats.items;
  numbers : AreNumbered l.seats.items;
  seen : All (λ s. seat_seen s ≡ (book_of l.lock).book.lines) l.seats.items;
  as_many : length l.ledgers.items ≡ length l.seats.items;
  ledgers : (k : ℕ) (d : LedgerValue) → slice_get l.ledgers.items k ≡ Some d → IsLedger (whole (book_of l.lock).book) k d;
  all : length l.list.items + length l.seats.items ≡ seat_count l.lock;
  storage : (seat_count l.lock ≤ vec_capacity l.list) × (seat_count l.lock ≤ vec_capacity l.seats)
      × (seat_count l.lock ≤ vec_capacity l.ledgers);
  at_home : AreAtHome l.lock (seat_count l.lock) l.list.items;
  all_in : All IsSome l.list.items;
  all_seen : (j : ℕ) (p : SeatPlace) → HasAt l.list.items j p → seat_seen p.seat ≡ (book_of l.lock).book.lines;
}

abbrev pub decreases-loop-seat : goal.decreases-loop-seat
decreases-loop-seat l = vec_len l.seats
