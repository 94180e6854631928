-- ledgers in the order of their seats are all ledgers
use Rattle.std.proofs.Common.{rules}
use Rattle.hull_book.proofs.Counts.{all_in_order}
use Rattle.asked_tests.proofs.books.capacity_two.Goals as goal

pub gather-sum-requires-clause-ledgers : goal.gather-sum-requires-clause-ledgers
gather-sum-requires-clause-ledgers g c = all_in_order _ _ (search rules)
