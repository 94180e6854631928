-- ledgers in the order of their seats are all ledgers
use Rattle.std.proofs.Common.{rules}
use Rattle.hull_book.proofs.Counts.{all_in_order}
use Rattle.asked_tests.proofs.books.absent_removal.Goals as goal

pub gather-requires-clause-ledgers : goal.gather-requires-clause-ledgers
gather-requires-clause-ledgers g c = all_in_order _ _ (search rules)
