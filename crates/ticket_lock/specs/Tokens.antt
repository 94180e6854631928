-- A lock, and its seats, tickets and guards, as a caller sees them.
use Rattle.std.specs.Prelude.{◌≡◌, ℕ, List, [], ◌∷◌, slice_get, Some}
use mathlib.Core.List.{IsPrefix}
use Rattle.ticket_lock.specs.declared.chronicle.Chronicle.{Ghosts}
use Rattle.ticket_lock.specs.declared.lock.TicketLock.{TicketLock}
use Rattle.ticket_lock.specs.declared.seat.Seat.{Seat}
use Rattle.ticket_lock.specs.declared.seat_state.SeatState.{SeatState}
use Rattle.ticket_lock.specs.declared.ticket.Ticket.{Ticket}
use Rattle.ticket_lock.specs.declared.ticket.Look.{Look}
use Rattle.ticket_lock.specs.declared.ticket.Look.TheVariants.{Entered, NotYet}
use Rattle.ticket_lock.specs.declared.guard.Guard.{Guard}
use Rattle.ticket_lock.specs.World.{own}
use Rattle.ticket_lock.specs.Standing.{seat_of, number_of, looks_of, seen_of, heads_of, IsIdle}

module _ {B H L : Type 0} where
  -- how many seats the lock has
  abbrev pub seat_count : TicketLock B H L → ℕ
  seat_count lock = lock.seats

  -- the book as it was when the lock was opened around it
  abbrev pub opening_book : TicketLock B H L → B
  opening_book lock = lock.board.shared.key.book.value

  -- the seat is of this lock, idle, and remembers the head at opening, `head` being the head of the chronicle
  abbrev pub IsSeatOf : (B → H) → TicketLock B H L → Seat B H L → Type 0
  IsSeatOf head lock s =
      (s.place.table_id ≡ lock.board.shared.table_id) × (heads_of s.place.me.0 ≡ head (opening_book lock) ∷ [])
      × IsIdle s.number s.place.me

  -- the seat as the lock's world shows it
  abbrev pub seat_state : Seat B H L → SeatState H L
  seat_state s = s.place.me.0

  -- which seat it is, counted from 0
  abbrev pub seat_number : Seat B H L → ℕ
  seat_number s = s.number

  -- the lines that the seat has seen: the journal of the book as the seat last handed it on, or as it was at opening
  abbrev pub seat_seen : Seat B H L → List L
  seat_seen s = seen_of s.place.me.0

  -- the seats are numbered from 0 in their order
  abbrev pub AreNumbered : List (Seat B H L) → Type 0
  AreNumbered seats = (i : ℕ) (s : Seat B H L) → slice_get seats i ≡ Some s → seat_number s ≡ i

  -- the lock whose book the guard holds
  abbrev pub guard_lock : Guard B H L → TicketLock B H L
  guard_lock g = g.lock.now

  -- which seat holds the book
  abbrev pub guard_seat : Guard B H L → ℕ
  guard_seat g = seat_of g.place.me.0

  -- the number that is served
  abbrev pub guard_number : Guard B H L → ℕ
  guard_number g = number_of g.place.me.0

  -- the lines of the book as the seat found it
  abbrev pub guard_seen : Guard B H L → List L
  guard_seen g = seen_of g.place.me.0

  -- the book as it now is
  abbrev pub guard_book : Guard B H L → B
  guard_book g = g.book

  -- the guard after its book became b
  abbrev pub with_book : Guard B H L → B → Guard B H L
  with_book g b = record g { book = b }

  -- the seat that holds the book remembers the head at opening, `head` being the head of the chronicle
  abbrev pub KeepsHead : (B → H) → Guard B H L → Type 0
  KeepsHead head g = heads_of g.place.me.0 ≡ head (opening_book (guard_lock g)) ∷ []

module _ {B H L : Type 0} {K : Ghosts B H L} where
  -- the ticket is of this lock
  abbrev pub IsTicketOf : TicketLock B H L → Ticket B H L K → Type 0
  IsTicketOf lock t = (t.place.table_id ≡ lock.board.shared.table_id)
      × (heads_of t.place.me.0 ≡ K.head (opening_book lock) ∷ [])

  -- which seat has taken the ticket
  abbrev pub ticket_seat : Ticket B H L K → ℕ
  ticket_seat t = seat_of t.place.me.0

  -- the number that was taken
  abbrev pub ticket_number : Ticket B H L K → ℕ
  ticket_number t = number_of t.place.me.0

  -- the lines that its seat has seen
  abbrev pub ticket_seen : Ticket B H L K → List L
  ticket_seen t = seen_of t.place.me.0

  -- how often its seat has looked since it took the number
  abbrev pub ticket_looks : Ticket B H L K → ℕ
  ticket_looks t = looks_of t.place.me.0

  -- P holds of the guard, if a look has entered
  abbrev pub IfEntered : Look B H L K → (Guard B H L → Type 0) → Type 0
  IfEntered (Entered g) P = P g
  IfEntered (NotYet t) P = Unit {0}

  -- P holds of the ticket, if a look has not entered
  abbrev pub IfNotYet : Look B H L K → (Ticket B H L K → Type 0) → Type 0
  IfNotYet (Entered g) P = Unit {0}
  IfNotYet (NotYet t) P = P t

module _ {B H L : Type 0} where
  -- the book that the seat k finds when it had seen the lines `seen` and enters with the number t: a lawful book with the head at opening, whose turn
  -- is t, and whose journal begins with what the seat has seen and contains in its name exactly the lines that it has seen in its name
  pub record Finds (K : Ghosts B H L) (head : H) (k : ℕ) (seen : List L) (t : ℕ) (b : B) : Type 0 where
    pub lawful : K.lawful b
    pub same_head : K.head b ≡ head
    pub turn : K.turn b ≡ t
    pub begins : IsPrefix seen (K.lines b)
    pub own_lines : own K k (K.lines b) ≡ own K k seen

  -- the book's journal begins with the lines `seen` that the seat k has seen, and holds in its name just the lines
  -- that it has seen in its name
  pub record Stands (K : Ghosts B H L) (k : ℕ) (seen : List L) (b : B) : Type 0 where
    pub begins : IsPrefix seen (K.lines b)
    pub own_lines : own K k (K.lines b) ≡ own K k seen
