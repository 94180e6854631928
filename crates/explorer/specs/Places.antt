-- The state of a player: a seat, a ticket or a guard of the lock, and a ledger that counts its lines.
use Rattle.std.specs.Prelude.{◌≡◌, ◌<◌, ℕ, Option, IfSome, box_value}
use Rattle.hull_set.specs.declared.set.HullSet.{Ghosts}
use Rattle.hull_book.specs.Books.{IsLawful}
use Rattle.hull_book.specs.Ledgers.{LedgerValue, IsLedgerOf}
use Rattle.hull_book.specs.declared.head.BookHead.{BookHead}
use Rattle.hull_book.specs.declared.line.Line.{Line}
use Rattle.hull_pool.specs.Crews.{Boxed, book_head}
use Rattle.hull_pool.specs.Work.{workers_of}
use Rattle.ticket_lock.specs.declared.chronicle.Chronicle as chronicle
use Rattle.ticket_lock.specs.declared.guard.Guard.{Guard}
use Rattle.ticket_lock.specs.declared.lock.TicketLock.{TicketLock}
use Rattle.ticket_lock.specs.declared.seat.Seat.{Seat}
use Rattle.ticket_lock.specs.declared.ticket.Ticket.{Ticket}
use Rattle.ticket_lock.specs.Tokens.{opening_book, IsSeatOf, seat_number, seat_seen, IsTicketOf, ticket_seat}
use Rattle.ticket_lock.specs.Tokens.{ticket_seen, guard_lock, guard_seat, guard_number, guard_seen, guard_book}
use Rattle.ticket_lock.specs.Tokens.{KeepsHead}

module _ {S : Type 0} (lock : TicketLock (Boxed S) BookHead Line) (k : ℕ) (ledger : LedgerValue) where
  -- the seat k of the lock, idle
  pub record IsSeatAt (s : Seat (Boxed S) BookHead Line) : Type 0 where
    pub own : IsSeatOf book_head lock s
    pub number : seat_number s ≡ k
    pub counts : IsLedgerOf k (seat_seen s) ledger

  -- the seat k of the lock, with a number
  pub record IsTicketAt {C : chronicle.Ghosts (Boxed S) BookHead Line}
      (t : Ticket (Boxed S) BookHead Line C) : Type 0 where
    pub own : IsTicketOf lock t
    pub number : ticket_seat t ≡ k
    pub counts : IsLedgerOf k (ticket_seen t) ledger

  -- the seat k of the lock, with the book as it found it
  pub record IsGuardAt (K : Ghosts S) (g : Guard (Boxed S) BookHead Line) : Type 0 where
    pub own : guard_lock g ≡ lock
    pub head : KeepsHead book_head g
    pub number : guard_seat g ≡ k
    pub lawful : IsLawful K (box_value (guard_book g))
    pub same_head : book_head (guard_book g) ≡ book_head (opening_book lock)
    pub turn : (box_value (guard_book g)).turn ≡ guard_number g
    pub seen : guard_seen g ≡ (box_value (guard_book g)).lines
    pub counts : IsLedgerOf k (guard_seen g) ledger

  -- what the player has is of the lock and the seat k, and its ledger counts its lines among those that it has seen
  pub record IsPlaced (K : Ghosts S) {C : chronicle.Ghosts (Boxed S) BookHead Line}
      (seat : Option (Seat (Boxed S) BookHead Line)) (ticket : Option (Ticket (Boxed S) BookHead Line C))
      (guard : Option (Guard (Boxed S) BookHead Line)) : Type 0 where
    pub below : k < workers_of (box_value (opening_book lock))
    pub seated : IfSome seat IsSeatAt
    pub waits : IfSome ticket IsTicketAt
    pub holds : IfSome guard (IsGuardAt K)
