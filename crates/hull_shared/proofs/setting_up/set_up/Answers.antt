-- the ledgers that were made with the book are all the ledgers of it
use Rattle.std.proofs.Common.{◌∙◌, ap}
use Rattle.std.specs.Prelude.{Vec}
use Rattle.std.specs.Global.{Global}
use Rattle.hull_book.specs.Ledgers.{LedgerValue}
use Rattle.hull_book.specs.LongBooks.{whole}
use Rattle.hull_shared.specs.SharedHullBooks.{SharedHullValue}
use Rattle.hull_shared.proofs.AllLedgers.{all_of_same}
use Rattle.hull_shared.proofs.setting_up.set_up.Goals as goal

pub gather-none-requires-clause-ledgers : goal.gather-none-requires-clause-ledgers
gather-none-requires-clause-ledgers c =
    all_of_same _ _ _ _ (ap (λ (d : SharedHullValue). whole d.book) (c.deref.ensures ∙ c.in_ok-book.ensures.0))
    (ap (λ (v : Vec LedgerValue Global). v.items) c.in_ok-book.ensures.1) c.requires.ledgers
