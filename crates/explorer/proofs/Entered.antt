-- The book that a seat finds at its entry: its ledger counts its lines among those of the book.
use Rattle.std.proofs.Common.{◌≡◌, ℕ, List, sym, subst, ◌∙◌}
use Rattle.hull_book.specs.declared.line.Line.{Line}
use Rattle.hull_book.specs.Ledgers.{LedgerValue, IsLedgerOf}
use Rattle.hull_pool.specs.Work.{lines_of}
use Rattle.hull_pool.proofs.Called.{same_count}

-- the ledger counts the seat's lines among those found, which in its name are those that it had seen
pub counts_found : (j k : ℕ) (seen found : List Line) (ledger : LedgerValue) → j ≡ k
    → lines_of j found ≡ lines_of j seen
    → IsLedgerOf k seen ledger → IsLedgerOf k found ledger
counts_found j k seen found ledger same own counts =
    let mine : lines_of k found ≡ lines_of k seen = subst (λ (n : ℕ). lines_of n found ≡ lines_of n seen) same own in
    (counts.0, counts.1 ∙ sym (same_count k found seen mine))
