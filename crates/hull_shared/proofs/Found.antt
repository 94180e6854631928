-- The book that a waiting seat found when its number was served.
use Rattle.std.proofs.Common.{◌≡◌, ◌<◌, ℕ, List, sym, subst}
use Rattle.hull_book.specs.Ledgers.{IsLedger, IsLedgerOf, LedgerValue, plain_own}
use Rattle.hull_book.specs.Marks.{plain}
use Rattle.hull_book.specs.declared.marked_line.MarkedLine.{MarkedLine}
use Rattle.hull_pool.proofs.Called.{found_ledger_of, same_own}
use Rattle.ticket_lock.specs.Tokens.{Finds, ticket_number, ticket_seen}
use Rattle.hull_shared.specs.Locks.{SharedHullBoxed, HullLock, boxed_head, head_of, lines_at, says_shared_hull, seats_of, whole_of}
use Rattle.hull_shared.specs.Looks.{HasFound}
use Rattle.hull_shared.specs.declared.book.SharedHullHead.{SharedHullHead}
use Rattle.hull_shared.specs.declared.seat_state.TakenNumber.{TakenNumber}

module _ (t : TakenNumber) (lock : HullLock) (number n u : ℕ) (book : SharedHullBoxed)
    (finds : Finds says_shared_hull (head_of lock) n (ticket_seen t.ticket) u book) (numbered : n ≡ number) where
  -- the seat's ledger is one of the book found
  pub found_ledger : (ledger : LedgerValue) → number < seats_of lock → IsLedgerOf number (plain (ticket_seen t.ticket)) ledger
      → IsLedger (whole_of book) number ledger
  found_ledger ledger below counts = found_ledger_of (whole_of book) number (plain (ticket_seen t.ticket)) ledger
      (subst (λ (h : SharedHullHead). number < h.book.workers) (sym finds.same_head) below)
      (same_own number n _ _ numbered (plain_own n _ _ finds.own_lines)) counts

  -- a property of the journal found holds with the head at opening and the number of the seat
  pub has_found : (k : ℕ) (so : SharedHullHead → ℕ → List MarkedLine → Type 0) → k ≡ ticket_number t.ticket
      → so (boxed_head book) k (lines_at book) → HasFound number t (so (head_of lock) (ticket_number t.ticket))
  has_found k so entered is_so = record {
    found = lines_at book;
    begins = finds.begins;
    own_lines = same_own number n _ _ numbered (plain_own n _ _ finds.own_lines);
    is_so = subst (λ (h : SharedHullHead). so h (ticket_number t.ticket) (lines_at book)) finds.same_head
        (subst (λ (m : ℕ). so (boxed_head book) m (lines_at book)) entered is_so);
  }
