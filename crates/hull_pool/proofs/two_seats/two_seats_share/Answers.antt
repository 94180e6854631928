-- each ledger counts what its seat has seen in its name
use Rattle.std.proofs.Common.{◌≡◌, ◌∙◌, ℕ, List, [], ◌∷◌, ◌++◌, ap, subst, sym}
use Rattle.hull_book.specs.Ledgers.{IsLedgerOf, LedgerValue}
use Rattle.hull_book.specs.Marks.{plain}
use Rattle.ticket_lock.specs.Tokens.{seat_seen}
use Rattle.hull_pool.proofs.two_seats.two_seats_share.Goals as goal

pub close_book-book-requires-clause-ledgers : goal.close_book-book-requires-clause-ledgers
close_book-book-requires-clause-ledgers g c =
    let zero = c.make_call-zero-2 in let one = c.make_call-one in
    let seats : c.push_reserved-2.new.self.items ≡ zero.result.0 ∷ one.result.0 ∷ [] =
    c.push_reserved-2.ensures.items ∙ ap (λ (ss : List _). ss ++ one.result.0 ∷ [])
    (c.push_reserved.ensures.items ∙ ap (λ (ss : List _). ss ++ zero.result.0 ∷ []) c.requires.empty.0) in
    let ledgers : c.push_reserved-4.new.self.items ≡ zero.new.ledger ∷ one.new.ledger ∷ [] =
    c.push_reserved-4.ensures.items ∙ ap (λ (ls : List LedgerValue). ls ++ one.new.ledger ∷ [])
    (c.push_reserved-3.ensures.items ∙ ap (λ (ls : List LedgerValue). ls ++ zero.new.ledger ∷ []) c.requires.empty.1) in
    rw (seats, ledgers) (
      subst (λ (k : ℕ). IsLedgerOf k (plain (seat_seen zero.result.0)) zero.new.ledger) (sym zero.ensures.back.number)
          zero.ensures.back.ledger,
      (
        subst (λ (k : ℕ). IsLedgerOf k (plain (seat_seen one.result.0)) one.new.ledger) (sym one.ensures.back.number)
            one.ensures.back.ledger,
        tt,
      ),
    )

pub returns-clause-shared : goal.returns-clause-shared
returns-clause-shared g c = record {
  first = c.make_call-zero.result.1;
  zeros = seat_seen c.make_call-zero.result.0;
  ones = seat_seen c.make_call-one.result.0;
  called = c.make_call-zero.ensures.served;
  drained = c.make_call-one.ensures.served;
}
