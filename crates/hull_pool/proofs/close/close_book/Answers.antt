-- each ledger counts what its seat has seen in its name, which is what the closed journal has in that name
use Rattle.std.proofs.Common.{◌≡◌, ◌∙◌, ap, arith, box_value}
use Rattle.std.specs.Prelude.{slice_index_or}
use Rattle.ticket_lock.specs.Tokens.{opening_book, seat_number, seat_seen}
use Rattle.hull_pool.specs.Work.{lines_of, workers_of}
use Rattle.hull_pool.proofs.Closed.{closed_ledgers}
use Rattle.hull_pool.proofs.close.close_book.Goals as goal

pub gather-sum-requires-clause-lawful : goal.gather-sum-requires-clause-lawful
gather-sum-requires-clause-lawful g c =
    g.met.B.JournaledBook.is_lawful _ (rw c.into_inner-book.ensures c.close.ensures.lawful)

-- the book that the lock returns is lawful
pub returns-clause-lawful : goal.returns-clause-lawful
returns-clause-lawful g c = g.met.B.JournaledBook.is_lawful _ (rw c.into_inner-book.ensures c.close.ensures.lawful)

-- the book that the lock returns has in each seat's name exactly the lines that the seat has seen in its name
pub returns-clause-own_lines : goal.returns-clause-own_lines
returns-clause-own_lines g c = λ k d lt. let s = slice_index_or c.args.seats.items k d in rw c.into_inner-book.ensures
    (g.met.B.JournaledBook.same_own (seat_number s) _ (seat_seen s) (c.close.ensures.seen k d lt).own_lines)

pub gather-sum-requires-clause-ledgers : goal.gather-sum-requires-clause-ledgers
gather-sum-requires-clause-ledgers g c =
    let law = g.met.B.JournaledBook in let b = c.into_inner-book.result in
    let workers : workers_of (g.B.JournaledBook.whole b)
    ≡ workers_of (g.B.JournaledBook.whole (box_value (opening_book c.args.lock))) =
    law.same_workers _ _ (ap g.B.Chronicle.head c.into_inner-book.ensures ∙ c.close.ensures.head) in
    closed_ledgers g.B.JournaledBook.plain (g.B.JournaledBook.whole b) c.args.seats.items c.args.ledgers.items
    (omega (arith, workers, c.requires.all.0, c.requires.all.1, c.args.seats.ok.0)) c.requires.numbered
    (λ k d lt. let s = slice_index_or c.args.seats.items k d in
    ap (lines_of (seat_number s)) (law.has_lines b) ∙ rw c.into_inner-book.ensures
    (law.same_own (seat_number s) _ (seat_seen s) (c.close.ensures.seen k d lt).own_lines)) c.requires.ledgers

-- and what each seat has seen at its beginning
pub returns-clause-seen : goal.returns-clause-seen
returns-clause-seen g c = λ k d lt. rw c.into_inner-book.ensures (c.close.ensures.seen k d lt).begins
