-- A call of a seat that enters a lock, and one of a seat that holds the book: for books of either kind.
use Rattle.std.specs.Prelude.{◌≡◌, ◌<◌, ℕ, List}
use mathlib.Core.List.{IsPrefix}
use Rattle.ticket_lock.specs.declared.guard.Guard.{Guard}
use Rattle.ticket_lock.specs.declared.lock.TicketLock.{TicketLock}
use Rattle.ticket_lock.specs.declared.seat.Seat.{Seat}
use Rattle.ticket_lock.specs.Tokens.{IsSeatOf, KeepsHead, guard_book, guard_lock, guard_number, guard_seat, guard_seen}
use Rattle.ticket_lock.specs.Tokens.{opening_book, seat_number, seat_seen}
use Rattle.hull_book.specs.Kinds.{Kind}
use Rattle.hull_book.specs.Ledgers.{IsLedger, IsLedgerOf, LedgerValue}
use Rattle.hull_book.specs.declared.line.Line.{Line}
use Rattle.hull_pool.specs.Work.{lines_of, workers_of}

module _ {S B H L : Type 0} (kind : Kind S B H L) where
  -- the seat k holds a lawful book exactly as it found it, whose turn is the seat's number, and this is its ledger
  pub record HoldsBook (guard : Guard B H L) (k : ℕ) (counts : LedgerValue) : Type 0 where
    pub seat : guard_seat guard ≡ k
    pub head : KeepsHead kind.says.head guard
    pub seen : guard_seen guard ≡ kind.says.lines (guard_book guard)
    pub lawful : kind.says.lawful (guard_book guard)
    pub same_head : kind.says.head (guard_book guard) ≡ kind.says.head (opening_book (guard_lock guard))
    pub turn : kind.says.turn (guard_book guard) ≡ guard_number guard
    pub ledger : IsLedger (kind.whole (guard_book guard)) k counts

  module _ (lock : TicketLock B H L) (k : ℕ) where
    -- the seat is that of the worker k of the lock, and this is its ledger
    pub record MayCall (seat : Seat B H L) (counts : LedgerValue) : Type 0 where
      pub own : IsSeatOf kind.says.head lock seat
      pub number : seat_number seat ≡ k
      pub below : k < workers_of (kind.whole (opening_book lock))
      pub ledger : IsLedgerOf k (kind.plain (seat_seen seat)) counts

    -- the same for the returned seat, which had seen these lines before, and the lines after them
    pub record HasCome (before : List L) (after : Seat B H L) (counts : LedgerValue) : Type 0 where
      pub own : IsSeatOf kind.says.head lock after
      pub number : seat_number after ≡ k
      pub ledger : IsLedgerOf k (kind.plain (seat_seen after)) counts
      pub begins : IsPrefix before (seat_seen after)

-- The seat k, which had seen the lines `before`, found by some ticket a whole journal that begins with those lines and has no other line in its name,
-- and this relation holds of both.
pub record Found {L : Type 0} (plain : List L → List Line) (k : ℕ) (before : List L) (so : ℕ → List L → Type 0)
    : Type 0 where
  pub number : ℕ
  pub found : List L
  pub begins : IsPrefix before found
  pub own_lines : lines_of k (plain found) ≡ lines_of k (plain before)
  pub is_so : so number found
