-- The workers of a phase: a seat, answers and a ledger each.
use Rattle.std.specs.Prelude.{◌≡◌, ◌<◌, ◌≤◌, ◌+◌, ℕ, Option, List, [], ◌∷◌, length, slice_index_or, Some, IsSome}
use Rattle.std.specs.Prelude.{IfSome, Vec, vec_len, vec_capacity, Box, box_value}
use mathlib.Core.List.{IsPrefix}
use Rattle.std.specs.Global.{Global}
use Rattle.hull_book.specs.Ledgers.{LedgerValue, IsLedgerOf}
use Rattle.hull_book.specs.Books.{BookValue}
use Rattle.hull_book.specs.Scripts.{PhaseValue}
use Rattle.hull_book.specs.declared.head.BookHead.{BookHead}
use Rattle.hull_book.specs.declared.line.Line.{Line}
use Rattle.hull_book.specs.declared.limits.TheConstants.{TEXT_LINE_LIMIT}
use Rattle.ticket_lock.specs.declared.lock.TicketLock.{TicketLock}
use Rattle.ticket_lock.specs.declared.seat.Seat.{Seat}
use Rattle.ticket_lock.specs.Tokens.{IsSeatOf, seat_number, seat_seen}
use Rattle.hull_book.specs.Answers.{Answer}
use Rattle.hull_pool.specs.Work.{HasWorked, capacity_of, workers_of}
use Rattle.hull_pool.specs.declared.worker.Worker.{Worker}

-- the results of `make` on the members of three lists at each index
abbrev pub team : {A B C D : Type 0} → (A → B → C → D) → List A → List B → List C → List D
team make (x ∷ xs) (y ∷ ys) (z ∷ zs) = make x y z ∷ team make xs ys zs
team make _ _ _ = []

module _ {B H L : Type 0} where
  -- the worker with this seat, these answers and this ledger
  abbrev pub worker_of : Seat B H L → Vec Answer Global → LedgerValue → Worker B H L
  worker_of s a l = record { number = seat_number s; seat = Some s; ledger = l; answers = a; cache_padded = tt }

-- a book over such a set on the heap, as contracts see it
abbrev pub Boxed : Type 0 → Type 0
Boxed S = Box (BookValue S) Global

-- the head of a book on the heap
abbrev pub book_head : {S : Type 0} → Boxed S → BookHead
book_head b = (box_value b).head

-- the seat is present and has this number of the lock, and the ledger counts its lines among those that it has seen
pub record IsSeated {S : Type 0} (lock : TicketLock (Boxed S) BookHead Line) (number : ℕ) (ledger : LedgerValue)
    (seat : Option (Seat (Boxed S) BookHead Line)) : Type 0 where
  pub there : IsSome seat
  pub own : IfSome seat
      (λ s. IsSeatOf book_head lock s × (seat_number s ≡ number) × IsLedgerOf number (seat_seen s) ledger)

-- The worker may work on the phase: its seat is present, is of the lock, and has seen the lines of the book b; its ledger counts its lines among
-- them; it has a list of calls, and capacity for an answer to each.
pub record IsReady {S : Type 0} (lock : TicketLock (Boxed S) BookHead Line) (b : BookValue S) (phase : PhaseValue)
    (w : Worker (Boxed S) BookHead Line) : Type 0 where
  pub seated : IsSome w.seat
  pub own : IfSome w.seat
      (λ s. IsSeatOf book_head lock s × (seat_number s ≡ w.number) × (seat_seen s ≡ b.lines)
      × IsLedgerOf w.number (seat_seen s) w.ledger)
  pub below : w.number < workers_of b
  pub job : w.number < length phase
  pub few : length (slice_index_or phase w.number []) ≤ TEXT_LINE_LIMIT
  pub space : vec_len w.answers + length (slice_index_or phase w.number []) ≤ vec_capacity w.answers

-- The worker has worked on the phase: its seat is present, is of the lock, and has seen what the worker did since the lines of the book b; its ledger
-- counts its lines among those.
pub record HasRun {S : Type 0} (lock : TicketLock (Boxed S) BookHead Line) (b : BookValue S) (phase : PhaseValue)
    (old new : Worker (Boxed S) BookHead Line) : Type 0 where
  pub seated : IsSome new.seat
  pub number : new.number ≡ old.number
  pub own : IfSome new.seat
      (λ s. IsSeatOf book_head lock s × (seat_number s ≡ new.number) × IsPrefix b.lines (seat_seen s)
      × IsLedgerOf new.number (seat_seen s) new.ledger
      × HasWorked new.number (capacity_of b) (length (slice_index_or phase new.number []))
      (slice_index_or phase new.number []) b.lines (seat_seen s) old.answers.items new.answers.items)
  pub space : vec_capacity new.answers ≡ vec_capacity old.answers
