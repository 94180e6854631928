-- the ticket is that of the seat, however often it has looked
use Rattle.std.proofs.Common.{◌≡◌}
use Rattle.ticket_lock.specs.Tokens.{IsTicketOf, seat_number, seat_seen, ticket_seat, ticket_seen}
use Rattle.ticket_lock.proofs.lock.TicketLock.enter.Given as goal

abbrev pub invariant-loop : goal.invariant-loop
invariant-loop g l =
    IsTicketOf l.fn.self l.ticket × (ticket_seat l.ticket ≡ seat_number l.fn.seat)
    × (ticket_seen l.ticket ≡ seat_seen l.fn.seat)
