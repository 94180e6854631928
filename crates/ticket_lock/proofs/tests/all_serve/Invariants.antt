-- each seat is left, or has served
use Rattle.std.proofs.Common.{◌≡◌, ◌+◌, ◌≤◌, All, vec_len, vec_capacity}
use Rattle.ticket_lock.specs.Tokens.{IsSeatOf}
use Rattle.ticket_lock.specs.contracts.roll.RollChronicle.TheImpl.{ghosts}
use Rattle.ticket_lock.proofs.tests.all_serve.Given as goal

abbrev pub invariant-loop-seat : goal.invariant-loop-seat
invariant-loop-seat g l = record {
  left : All (λ s. IsSeatOf ghosts.head l.fn.lock s) l.seats.items;
  own : All (λ s. IsSeatOf ghosts.head l.fn.lock s) l.done.items;
  many : vec_len l.done + vec_len l.seats ≡ vec_len l.fn.seats;
  space : vec_len l.fn.seats ≤ vec_capacity l.done;
}

abbrev pub decreases-loop-seat : goal.decreases-loop-seat
decreases-loop-seat g l = vec_len l.seats
