-- what is left of the ledgers sums to what is left of the sum
use Rattle.std.proofs.Common.{◌≡◌, ap, arith, length}
use Rattle.hull_book.specs.Ledgers.{LedgerValue}
use Rattle.hull_book.proofs.Counts.{gather_step, none_left, sum_of_none}
use Rattle.hull_book.proofs.gathering.sum_of.Goals as goal

pub loop-ledger-preserved : goal.loop-ledger-preserved
loop-ledger-preserved c = record {
  sum_is = gather_step _ _ _ c.in-Some.ledger _ _ c.in-Some.ensures.items c.loop-ledger.invariant.sum_is
      (ap (λ (l : LedgerValue). l.count) c.ledger.view_is);
  few = c.loop-ledger.invariant.few;
}

pub returns : goal.returns
returns c =
    let empty : c.loop-ledger.ledgers.len ≡ 0 = none_left _ c.in_default.ensures.variant.1 in
    let none : length c.loop-ledger.ledgers.items ≡ 0 = omega (arith, c.loop-ledger.ledgers.ok.0) in
    let sum = c.loop-ledger.invariant.sum_is in
    omega (arith, sum, sum_of_none _ none)
