-- the remaining slots are a prefix of all, and the seats after it are gathered in the order of their numbers
use Rattle.std.proofs.Common.{◌≡◌, ◌≤◌, ◌<◌, ◌+◌, ℕ, All, IsSome, Some, slice_get, length, vec_capacity}
use Rattle.std.specs.List.{AllZip}
use Rattle.hull_book.specs.Ledgers.{IsLedgerOf}
use Rattle.hull_book.specs.Marks.{plain}
use Rattle.hull_shared.specs.Locks.{boxed_head}
use Rattle.hull_shared.specs.Places.{AreAtHome, HasAt}
use Rattle.hull_shared.specs.declared.place.SeatPlace.{SeatPlace}
use Rattle.ticket_lock.specs.Tokens.{AreNumbered, IsSeatOf, seat_count, seat_number, seat_seen}
use Rattle.hull_shared.proofs.places.close_lock.Given as goal

abbrev pub invariant-loop-place : goal.invariant-loop-place
invariant-loop-place l = record {
  at_home : AreAtHome l.lock (seat_count l.lock) l.list.items;
  all_in : All IsSome l.list.items;
  all : length l.seats.items + length l.list.items ≡ seat_count l.lock;
  as_many : length l.ledgers.items ≡ length l.seats.items;
  storage : (seat_count l.lock ≤ vec_capacity l.seats) × (seat_count l.lock ≤ vec_capacity l.ledgers);
  own : All (IsSeatOf boxed_head l.lock) l.seats.items;
  numbers : AreNumbered l.seats.items;
  counts : AllZip (λ s k. IsLedgerOf (seat_number s) (plain (seat_seen s)) k) l.seats.items l.ledgers.items;
  left : (j : ℕ) (p : SeatPlace) → HasAt l.fn.places.list.items j p → j < length l.list.items → HasAt l.list.items j p;
  gathered : (i j : ℕ) (p : SeatPlace) → HasAt l.fn.places.list.items j p → length l.list.items ≤ j
      → i + j + 1 ≡ seat_count l.lock → slice_get l.seats.items i ≡ Some p.seat;
}

abbrev pub decreases-loop-place : goal.decreases-loop-place
decreases-loop-place l = goal.left-loop-place l
