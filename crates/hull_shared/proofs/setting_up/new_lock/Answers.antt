-- the ledgers that were made with the book are all the ledgers of it
use Rattle.std.proofs.Common.{◌∙◌, ap, refl, box_value}
use Rattle.hull_book.specs.LongBooks.{whole}
use Rattle.hull_shared.specs.SharedHullBooks.{SharedHullValue}
use Rattle.hull_shared.specs.Locks.{SharedHullBoxed}
use Rattle.hull_shared.proofs.AllLedgers.{all_of_same}
use Rattle.hull_shared.proofs.setting_up.new_lock.Goals as goal

pub gather-none-requires-clause-ledgers : goal.gather-none-requires-clause-ledgers
gather-none-requires-clause-ledgers c =
    all_of_same _ _ _ _ (ap (λ (d : SharedHullValue). whole d.book) (c.deref.ensures
    ∙ ap (λ (b : SharedHullBoxed). box_value b) c.in-Err.ensures.back)) refl c.requires.ledgers
