-- the book that the seat found has its own lines as it had seen them, and the call was served at those
use Rattle.std.proofs.Common.{◌<◌, ◌∙◌, ℕ, ap, subst, sym, rules, box_value}
use Rattle.ticket_lock.specs.Tokens.{guard_book, guard_number, seat_number, seat_seen}
use Rattle.hull_pool.specs.Work.{lines_of}
use Rattle.hull_pool.proofs.Called.{found_ledger_of, same_own}
use Rattle.hull_pool.proofs.call.make_call.Goals as goal

pub serve_and_hand_on-requires-clause-may : goal.serve_and_hand_on-requires-clause-may
serve_and_hand_on-requires-clause-may g c =
    let law = g.met.B.JournaledBook in let finds = c.enter-guard.ensures.finds in
    let book = box_value (guard_book c.enter-guard.result) in
    let ledger = found_ledger_of (g.B.JournaledBook.whole book) c.args.number _ _
    (subst (λ (n : ℕ). c.args.number < n) (sym (law.same_workers _ _ finds.same_head)) c.requires.may.below)
    (ap (lines_of c.args.number) (law.has_lines book) ∙ same_own c.args.number _ _ _ c.requires.may.number
    (law.same_own (seat_number c.args.seat) _ _ finds.own_lines)) c.requires.may.ledger in
    search rules

pub returns-clause-served : goal.returns-clause-served
returns-clause-served g c =
    let finds = c.enter-guard.ensures.finds in
    let book = box_value (guard_book c.enter-guard.result) in
    let number = guard_number c.enter-guard.result in record {
      number = number;
      found = g.B.Chronicle.lines book;
      begins = finds.begins;
      own_lines = same_own c.args.number _ _ _ c.requires.may.number
          (g.met.B.JournaledBook.same_own (seat_number c.args.seat) _ _ finds.own_lines);
      is_so = subst (λ h. g.B.JournaledBook.served h c.args.then number c.args.number c.args.call
          (g.B.Chronicle.lines book) (seat_seen c.serve_and_hand_on.result.0) c.serve_and_hand_on.result.1)
          finds.same_head c.serve_and_hand_on.ensures.served;
    }

pub returns-clause-line : goal.returns-clause-line
returns-clause-line g c =
    let finds = c.enter-guard.ensures.finds in record {
      number = guard_number c.enter-guard.result;
      found = g.B.Chronicle.lines (box_value (guard_book c.enter-guard.result));
      begins = finds.begins;
      own_lines = same_own c.args.number _ _ _ c.requires.may.number
          (g.met.B.JournaledBook.same_own (seat_number c.args.seat) _ _ finds.own_lines);
      is_so = c.serve_and_hand_on.ensures.line;
    }
