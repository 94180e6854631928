-- the journal that the call left was handed on, and the lines that it had are the segment
use Rattle.std.proofs.Common.{◌≡◌, ◌∙◌, ℕ, List, ap, length, sym, subst, box_value}
use Rattle.hull_book.specs.Books.{IsLawful}
use Rattle.hull_book.specs.LongBooks.{whole}
use Rattle.hull_book.specs.Marks.{held_of}
use Rattle.hull_book.specs.declared.marked_line.MarkedLine.{MarkedLine}
use Rattle.hull_book.specs.declared.after_call.AfterCall.TheVariants.{Drain}
use Rattle.hull_book.specs.Served.{HasServedWith}
use Rattle.hull_book.proofs.Served.{call_served}
use Rattle.bucket_tree.specs.Sets.{bucket_set}
use Rattle.ticket_lock.specs.Tokens.{guard_book, guard_number, seat_seen}
use Rattle.hull_shared.specs.SharedHullBooks.{SharedHullValue, HasDrainedAt, shared_hull_answer_of, shared_hull_head}
use Rattle.hull_shared.specs.Lines.{number_if_written}
use Rattle.hull_shared.proofs.Served.{number_is}
use Rattle.hull_shared.proofs.serving.SpaceService.serve_and_hand_on.Goals as goal

pub returns-clause-served : goal.returns-clause-served
returns-clause-served c =
    let b = c.deref_mut-book.result.now in let made = c.drain-drained in
    let same : b ≡ box_value (guard_book c.args.guard) = cc in
    let seen = c.hand_on_awake-seat.ensures.seen in
    subst (λ (d : SharedHullValue). HasDrainedAt c.args.self (shared_hull_head d) (guard_number c.args.guard) c.args.number c.args.call
    d.book.lines (seat_seen c.hand_on_awake-seat.result) made.result
    (record { line = c.line_of_drain-line.result; held = c.held-held.result })) same record {
      holds_none = made.ensures.holds_none;
      served = subst (λ (ls : List MarkedLine). HasServedWith b.book.head.journal (Drain c.args.self)
          (guard_number c.args.guard) c.args.number c.args.call b.book.lines ls made.result) (sym seen)
          (subst (λ (t : ℕ). HasServedWith b.book.head.journal (Drain c.args.self) t c.args.number c.args.call
          b.book.lines made.new.self.book.lines made.result)
          (ap (λ (d : SharedHullValue). d.book.turn) same ∙ c.requires.may.turn)
          (call_served bucket_set (Drain c.args.self) made.result b.book made.new.self.book c.args.number c.args.call _
          (subst (λ (d : SharedHullValue). IsLawful bucket_set (whole d.book)) (sym same) c.requires.may.lawful)
          made.ensures.lawful made.ensures.full made.ensures.ok made.ensures.segment made.ensures.err made.ensures.back));
      is_after = record {
        line = c.line_of_drain-line.ensures
            ∙ ap (λ (n : ℕ). number_if_written (shared_hull_answer_of made.result) n)
            (c.line_number-next.ensures ∙ number_is b.book);
        held = c.held-held.ensures ∙ ap (λ (ls : List MarkedLine). length (held_of ls)) (sym seen);
      };
    }
