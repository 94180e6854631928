-- the book that the seat found has its own lines as it had seen them
use Rattle.std.proofs.Common.{◌<◌, ◌∙◌, ℕ, ap, subst, sym, box_value}
use Rattle.ticket_lock.specs.Tokens.{guard_book, seat_number}
use Rattle.hull_pool.specs.Work.{lines_of}
use Rattle.hull_pool.proofs.Called.{found_ledger_of, same_own}
use Rattle.pool_tests.proofs.pool.draining.look_and_serve.Goals as goal

pub serve_and_hand_on-requires-clause-may : goal.serve_and_hand_on-requires-clause-may
serve_and_hand_on-requires-clause-may g c =
    let law = g.met.B.JournaledBook in
    let finds = rw (c.take.ensures.seat.0, c.take.ensures.seat.1) at c.in-Entered.ensures.finds in
    let enters = c.in-Entered.ensures.entered in
    let book = box_value (guard_book c.in-Entered.guard) in record {
      seat = enters.1 ∙ c.take.ensures.seat.0 ∙ c.requires.may.number;
      head = enters.3;
      seen = c.in-Entered.ensures.seen;
      lawful = finds.lawful;
      same_head = rw enters.0 finds.same_head;
      turn = finds.turn ∙ sym enters.2;
      ledger = found_ledger_of (g.B.JournaledBook.whole book) c.args.number _ _
          (subst (λ (n : ℕ). c.args.number < n) (sym (law.same_workers _ _ finds.same_head)) c.requires.may.below)
          (ap (lines_of c.args.number) (law.has_lines book) ∙ same_own c.args.number _ _ _ c.requires.may.number
          (law.same_own (seat_number c.args.seat) _ _ finds.own_lines)) c.requires.may.ledger;
    }
