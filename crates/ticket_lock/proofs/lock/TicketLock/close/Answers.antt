-- word 0 is the turn of the book
use Rattle.std.proofs.Common.{ℕ, map, subst}
use Rattle.ticket_lock.specs.Forms.{partitioned_form}
use Rattle.ticket_lock.specs.GoodWorld.{Shut}
use Rattle.ticket_lock.specs.Tokens.{opening_book, seat_state}
use Rattle.ticket_lock.proofs.lock.TicketLock.close.Goals as goal

pub returns-clause-world : goal.returns-clause-world
returns-clause-world g c =
    subst (λ (z : ℕ). Shut g.B.Chronicle partitioned_form (opening_book c.args.self)
    (map (λ s. seat_state s) c.args.seats.items) c.close_with_next-book.result.0 z)
    c.close_with_next-book.ensures.world.next c.close_with_next-book.ensures.world
