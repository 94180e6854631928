-- the ledgers that were made with the book are all the ledgers of it
use Rattle.std.proofs.Common.{ap, refl}
use Rattle.hull_book.specs.LongBooks.{whole}
use Rattle.hull_shared.specs.SharedHullBooks.{SharedHullValue}
use Rattle.hull_shared.proofs.AllLedgers.{all_of_same}
use Rattle.hull_shared.proofs.setting_up.boxed.Goals as goal

pub gather-none-requires-clause-ledgers : goal.gather-none-requires-clause-ledgers
gather-none-requires-clause-ledgers c =
    all_of_same _ _ _ _ (ap (λ (d : SharedHullValue). whole d.book) c.in-Err.ensures.value_returned) refl c.requires.ledgers
