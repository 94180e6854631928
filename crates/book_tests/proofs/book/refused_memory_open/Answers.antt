-- ledgers in the order of their seats are all ledgers
use Rattle.std.proofs.Common.{rules}
use Rattle.hull_book.proofs.Counts.{all_in_order}
use Rattle.book_tests.proofs.book.refused_memory_open.Goals as goal

pub gather-count-requires-clause-ledgers : goal.gather-count-requires-clause-ledgers
gather-count-requires-clause-ledgers g c = all_in_order _ _ (search rules)
