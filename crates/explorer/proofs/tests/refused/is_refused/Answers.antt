-- the book that is returned is the one that was opened with these ledgers
use Rattle.std.proofs.Common.{◌≡◌, subst}
use Rattle.hull_book.specs.Books.{BookValue}
use Rattle.hull_book.specs.Ledgers.{AreLedgers}
use Rattle.hull_book.proofs.Counts.{all_in_order}
use Rattle.explorer.proofs.tests.refused.is_refused.Goals as goal

pub gather-requires-clause-ledgers : goal.gather-requires-clause-ledgers
gather-requires-clause-ledgers g c =
    let same : c.in-Ok.book ≡ c.into_inner-book.result = cc (c.in-Err.ensures.back, c.in-Ok-new.ensures.ok) in
    all_in_order _ _ (subst (λ (b : BookValue _). AreLedgers b c.in-Ok.ledgers.items) same c.in-Ok.ensures.ledgers)
