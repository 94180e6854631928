-- The seat slots of a shared hull.
use Rattle.std.specs.Prelude.{◌≡◌, ◌+◌, ◌≤◌, ℕ, List, [], Option, Some, slice_get, vec_len, vec_capacity}
use Rattle.hull_book.specs.Ledgers.{IsLedgerOf}
use Rattle.hull_book.specs.Marks.{plain}
use Rattle.hull_book.specs.declared.marked_line.MarkedLine.{MarkedLine}
use Rattle.hull_pool.specs.Work.{lines_of}
use Rattle.ticket_lock.specs.Tokens.{IsSeatOf, seat_count, seat_number, seat_seen}
use Rattle.hull_shared.specs.Locks.{HullLock, boxed_head, seats_of}
use Rattle.hull_shared.specs.declared.place.SeatPlace.{SeatPlace}
use Rattle.hull_shared.specs.declared.place.SeatPlaces.{SeatPlaces}

-- The seat is of the lock, its ledger counts the lines in its name that it has seen, and of n slots it is at home in
-- slot j: as many slots follow as its number.
pub record IsAtHome (lock : HullLock) (n j : ℕ) (p : SeatPlace) : Type 0 where
  pub own : IsSeatOf boxed_head lock p.seat
  pub counts : IsLedgerOf (seat_number p.seat) (plain (seat_seen p.seat)) p.ledger
  pub home : seat_number p.seat + j + 1 ≡ n

-- the lines in the name of the slot's seat are exactly those in its name that it has seen
abbrev pub HasOwnLines : List MarkedLine → SeatPlace → Type 0
HasOwnLines lines p =
    lines_of (seat_number p.seat) (plain lines) ≡ lines_of (seat_number p.seat) (plain (seat_seen p.seat))

-- slot j has the seat and the ledger p
abbrev pub HasAt : List (Option SeatPlace) → ℕ → SeatPlace → Type 0
HasAt list j p = slice_get list j ≡ Some (Some p)

-- each seat that is there is at home
abbrev pub AreAtHome : HullLock → ℕ → List (Option SeatPlace) → Type 0
AreAtHome lock n list = (j : ℕ) (p : SeatPlace) → HasAt list j p → IsAtHome lock n j p

-- there are n slots for the n seats of the lock, each seat that is there is at home, and there is capacity for all of
-- them
pub record AreLaidOut (lock : HullLock) (n : ℕ) (places : SeatPlaces) : Type 0 where
  pub each : vec_len places.list ≡ n
  pub seats : seat_count lock ≡ n
  pub workers : seats_of lock ≡ n
  pub at_home : AreAtHome lock n places.list.items
  pub no_seats : (places.seats.items ≡ []) × (n ≤ vec_capacity places.seats)
  pub no_ledgers : (places.ledgers.items ≡ []) × (n ≤ vec_capacity places.ledgers)
