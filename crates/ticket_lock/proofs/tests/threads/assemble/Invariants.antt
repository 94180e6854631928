-- each seat is left, or has a worker that has signed nothing
use Rattle.std.proofs.Common.{◌≡◌, ◌+◌, ◌≤◌, [], length, All, vec_len, vec_capacity}
use Rattle.std.specs.Prelude.{IfSome, IsSome}
use Rattle.ticket_lock.specs.World.{own}
use Rattle.ticket_lock.specs.Tokens.{IsSeatOf, seat_number, seat_seen}
use Rattle.ticket_lock.specs.contracts.roll.RollChronicle.TheImpl.{ghosts}
use Rattle.ticket_lock.proofs.tests.threads.assemble.Given as goal

abbrev pub invariant-loop-seat : goal.invariant-loop-seat
invariant-loop-seat l = record {
  left : All (λ s. IsSeatOf ghosts.head l.fn.lock s × (seat_seen s ≡ [])) l.seats.items;
  ready : All (λ w. IsSome w.seat × (w.signed ≤ 0)
      × IfSome w.seat (λ s. IsSeatOf ghosts.head l.fn.lock s × (seat_number s ≡ w.number)
      × (length (own ghosts w.number (seat_seen s)) ≡ w.signed))) l.workers.items;
  many : vec_len l.workers + vec_len l.seats ≡ vec_len l.fn.seats;
  space : vec_len l.fn.seats ≤ vec_capacity l.workers;
}

abbrev pub decreases-loop-seat : goal.decreases-loop-seat
decreases-loop-seat l = vec_len l.seats
