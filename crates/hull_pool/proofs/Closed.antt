-- The ledgers of seats that are returned are those of the book that is closed.
use Rattle.std.proofs.Common.{◌≡◌, ◌<◌, ℕ, zero, suc, List, [], ◌∷◌, length, refl, subst, ◌∙◌, arith, Some, slice_get}
use Rattle.std.specs.Prelude.{All, slice_index_or}
use Rattle.std.specs.List.{AllZip}
use Rattle.std.proofs.lemmas.Slice.Zip.{AllZip-long}
use Rattle.hull_book.specs.Books.{BookValue}
use Rattle.hull_book.specs.Ledgers.{AreAllLedgers, IsLedgerOf, LedgerValue}
use Rattle.hull_book.specs.declared.line.Line.{Line}
use Rattle.hull_book.proofs.Counts.{all_in_order}
use Rattle.hull_pool.specs.Work.{lines_of, workers_of}
use Rattle.hull_pool.proofs.Called.{found_ledger_of}
use Rattle.ticket_lock.specs.declared.seat.Seat.{Seat}
use Rattle.ticket_lock.specs.Tokens.{AreNumbered, seat_number, seat_seen}
use Rattle.ticket_lock.proofs.Gather.{at_place}

module _ {B H L : Type 0} (plain : List L → List Line) where
  -- the ledger counts what the seat has seen in its name
  abbrev Counts : Seat B H L → LedgerValue → Type 0
  Counts s l = IsLedgerOf (seat_number s) (plain (seat_seen s)) l

  -- at the index of each ledger is the seat whose lines it counts
  seat_at : (ss : List (Seat B H L)) (ls : List LedgerValue) → AllZip Counts ss ls → (k : ℕ) (d : LedgerValue)
      → k < length ls → (s : Seat B H L) × (slice_get ss k ≡ Some s) × Counts s (slice_index_or ls k d)
  seat_at [] [] z k d lt = absurd (omega arith)
  seat_at [] (l ∷ ls) z k d lt = absurd z
  seat_at (s ∷ ss) [] z k d lt = absurd z
  seat_at (s ∷ ss) (l ∷ ls) z zero d lt = (s, refl, z.0)
  seat_at (s ∷ ss) (l ∷ ls) z (suc k) d lt = seat_at ss ls z.1 k d (omega arith)

  -- the ledgers of all seats, in whose names the journal has what they have seen, are those of the book
  pub closed_ledgers : {S : Type 0} (b : BookValue S) (ss : List (Seat B H L)) (ls : List LedgerValue)
      → length ss ≡ workers_of b → AreNumbered ss
      → All (λ s. lines_of (seat_number s) b.lines ≡ lines_of (seat_number s) (plain (seat_seen s))) ss
      → AllZip Counts ss ls → AreAllLedgers b ls
  closed_ledgers b ss ls all numbers own z = let many = AllZip-long Counts ss ls z in all_in_order b ls record {
    number = many ∙ all;
    each = λ k d lt.
        let at = seat_at ss ls z k d lt in let s = at.0 in
        let number : seat_number s ≡ k = numbers k s at.1 in
        found_ledger_of b k (plain (seat_seen s)) (slice_index_or ls k d) (omega arith)
        (subst (λ (n : ℕ). lines_of n b.lines ≡ lines_of n (plain (seat_seen s))) number
        (at_place (λ s. lines_of (seat_number s) b.lines ≡ lines_of (seat_number s) (plain (seat_seen s))) ss k s own
        at.1))
        (subst (λ (n : ℕ). IsLedgerOf n (plain (seat_seen s)) (slice_index_or ls k d)) number at.2);
  }
