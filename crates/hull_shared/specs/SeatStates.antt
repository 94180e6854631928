-- What the calls on an acquired seat change, and what holds of it.
use Rattle.std.specs.Prelude.{◌≡◌, ℕ, Option, Some, None, Bool, true, false}
use Rattle.hull_book.specs.Ledgers.{IsLedgerOf, LedgerValue}
use Rattle.hull_book.specs.Marks.{plain}
use Rattle.hull_book.specs.declared.marked_line.MarkedLine.{MarkedLine}
use Rattle.ticket_lock.specs.declared.seat.Seat.{Seat}
use Rattle.ticket_lock.specs.Tokens.{IsSeatOf, IsTicketOf, seat_number, seat_seen, ticket_seat, ticket_seen}
use Rattle.hull_shared.specs.Locks.{HullLock, SharedHullBoxed, boxed_head}
use Rattle.hull_shared.specs.declared.book.SharedHullHead.{SharedHullHead}
use Rattle.hull_shared.specs.declared.seat_state.SeatState.{SeatState}
use Rattle.hull_shared.specs.declared.seat_state.TakenNumber.{TakenNumber}

-- a seat of the lock of a shared hull
abbrev pub SeatValue : Type 0
SeatValue = Seat SharedHullBoxed SharedHullHead MarkedLine

-- the seat has this number, it is of the lock, and the ledger counts the lines in its name that it has seen
pub record IsSeatAt (lock : HullLock) (number : ℕ) (ledger : LedgerValue) (seat : SeatValue) : Type 0 where
  pub own : IsSeatOf boxed_head lock seat
  pub numbered : seat_number seat ≡ number
  pub counts : IsLedgerOf number (plain (seat_seen seat)) ledger

-- the ticket was taken by the seat with this number, from the lock, and the ledger counts the lines in its name that
-- it has seen
pub record IsTakenAt (lock : HullLock) (number : ℕ) (ledger : LedgerValue) (taken : TakenNumber) : Type 0 where
  pub own : IsTicketOf lock taken.ticket
  pub numbered : ticket_seat taken.ticket ≡ number
  pub counts : IsLedgerOf number (plain (ticket_seen taken.ticket)) ledger

-- whether there is a seat or a number, and not both
abbrev pub is_either : Option SeatValue → Option TakenNumber → Bool
is_either (Some seat) None = true
is_either None (Some taken) = true
is_either _ _ = false

-- the state of the seat with this number at the lock: there is the seat or a number that it took
pub record IsSeatStateAt (lock : HullLock) (number : ℕ) (state : SeatState) : Type 0 where
  pub either : is_either state.seat state.taken ≡ true
  pub idle : (seat : SeatValue) → state.seat ≡ Some seat → IsSeatAt lock number state.ledger seat
  pub waiting : (taken : TakenNumber) → state.taken ≡ Some taken → IsTakenAt lock number state.ledger taken
