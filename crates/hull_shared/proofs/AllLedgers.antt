-- All ledgers of a book that was moved, and is the same.
use Rattle.std.proofs.Common.{◌≡◌, List, subst, sym}
use Rattle.hull_book.specs.Books.{BookValue}
use Rattle.hull_book.specs.Ledgers.{AreAllLedgers, AreLedgers, LedgerValue}
use Rattle.hull_book.proofs.Counts.{all_in_order}
use Rattle.bucket_tree.specs.Sets.{LimitedTree}

-- the ledgers that were made with a book are all the ledgers of the same book
pub all_of_same : (b c : BookValue LimitedTree) (ls ms : List LedgerValue) → c ≡ b → ms ≡ ls → AreLedgers b ls → AreAllLedgers c ms
all_of_same b c ls ms same moved are =
    subst (λ (d : BookValue LimitedTree). AreAllLedgers d ms) (sym same)
    (subst (λ (xs : List LedgerValue). AreAllLedgers b xs) (sym moved) (all_in_order b ls are))
