-- the keeper has taken in every seat, so no number is out: the book is in its slot, and the world of those seats is
-- good
use Rattle.std.proofs.Common.{rules, ◌≡◌, length, sym, ◌∙◌, subst, refl}
use Rattle.std.specs.Option.{IsSome}
use Rattle.std.proofs.Common.{slice_index_or, ℕ}
use Rattle.ticket_lock.specs.Standing.{memos_of}
use Rattle.ticket_lock.specs.Tokens.{Stands, seat_seen}
use Rattle.ticket_lock.specs.Forms.{partitioned_form}
use Rattle.ticket_lock.proofs.FormsKept.{partitioned_laws}
use Rattle.ticket_lock.proofs.Seats.{arrives_ok, closes_from, closed_book}
use Rattle.ticket_lock.proofs.Worlds.{shut}
use Rattle.ticket_lock.proofs.Gather.{as_many, all_stand}
use Rattle.ticket_lock.proofs.lock.TicketLock.close_with_next.Goals as goal

pub load_new_seat-requires : goal.load_new_seat-requires
load_new_seat-requires g c = (search rules, arrives_ok _ _ _ _ _ _)

pub gather-requires-clause-own : goal.gather-requires-clause-own
gather-requires-clause-own g c = λ k d l. let own = c.requires.own k d l in (own.0, own.2)

pub unwrap-book-requires : goal.unwrap-book-requires
unwrap-book-requires g c =
    let many : length (memos_of c.gather.new.keeper.me.0) ≡ length c.args.seats.items =
    as_many _ c.args.seats.items _ c.gather.ensures.memos in
    let long : length (memos_of c.gather.new.keeper.me.0) ≡ c.args.self.board.shared.key.seats =
    many ∙ (search rules) in
    let book = closes_from g.B.Chronicle partitioned_form _ _ _ c.args.self.seats _ _ _ c.take.result
    c.gather.ensures.keeper.1 long c.close_with-closed.ensures.values.2 c.take.ensures.value in
    subst IsSome (sym book.1) refl

pub returns : goal.returns
returns g c =
    let many : length (memos_of c.gather.new.keeper.me.0) ≡ length c.args.seats.items =
    as_many _ c.args.seats.items _ c.gather.ensures.memos in
    let long : length (memos_of c.gather.new.keeper.me.0) ≡ c.args.self.board.shared.key.seats =
    many ∙ (search rules) in
    let book = closed_book g.B.Chronicle partitioned_form _ _ _ c.args.self.seats _ _ _ c.take.result
    c.unwrap-book.result c.gather.ensures.keeper.1 long c.close_with-closed.ensures.values.2 c.take.ensures.value
    c.unwrap-book.ensures in record {
      lawful = book.0;
      head = book.1;
      world = shut g.B.Chronicle partitioned_form partitioned_laws _ _ _ _ _ _ _ book.2 c.gather.ensures.memos
          c.word-next.ensures;
      seen = λ k d l. let own = c.requires.own k d l in
          subst (λ (z : ℕ). Stands g.B.Chronicle z
          (seat_seen (slice_index_or c.args.seats.items k d)) c.unwrap-book.result) own.2.1
          (all_stand g.B.Chronicle _ _ _ c.args.seats.items _ c.gather.ensures.memos book.3 k d l);
    }
