-- the ledgers that were made with the book are all the ledgers of it
use Rattle.std.proofs.Common.{refl}
use Rattle.hull_shared.proofs.AllLedgers.{all_of_same}
use Rattle.hull_shared.proofs.opening.new_book.Goals as goal

pub gather-none-requires-clause-ledgers : goal.gather-none-requires-clause-ledgers
gather-none-requires-clause-ledgers c = all_of_same _ _ _ _ c.in-Err-new.ensures.back refl c.in-Ok.ensures.ledgers
