-- each worker is left, or its seat and its tally are at the same index
use Rattle.std.proofs.Common.{◌≡◌, ◌+◌, ◌≤◌, map, length, All, vec_len, vec_capacity}
use Rattle.std.specs.Prelude.{IfSome, IsSome}
use Rattle.ticket_lock.specs.World.{own}
use Rattle.ticket_lock.specs.Tokens.{IsSeatOf, seat_number, seat_seen}
use Rattle.ticket_lock.specs.contracts.roll.RollChronicle.TheImpl.{ghosts}
use Rattle.ticket_lock.proofs.tests.threads.part.Given as goal

abbrev pub invariant-loop-worker : goal.invariant-loop-worker
invariant-loop-worker l = record {
  ready : All (λ w. IsSome w.seat
      × IfSome w.seat (λ s. IsSeatOf ghosts.head l.fn.lock s × (seat_number s ≡ w.number)
      × (length (own ghosts w.number (seat_seen s)) ≡ w.signed))) l.workers.items;
  mine : All (λ s. IsSeatOf ghosts.head l.fn.lock s) l.seats.items;
  numbers : map (λ s. seat_number s) l.seats.items ≡ map (λ t. t.number) l.tallies.items;
  counts : map (λ s. length (own ghosts (seat_number s) (seat_seen s))) l.seats.items
      ≡ map (λ t. t.signed) l.tallies.items;
  many : (vec_len l.seats + vec_len l.workers ≡ vec_len l.fn.workers)
      × (vec_len l.tallies + vec_len l.workers ≡ vec_len l.fn.workers);
  space : (vec_len l.fn.workers ≤ vec_capacity l.seats) × (vec_len l.fn.workers ≤ vec_capacity l.tallies);
}

abbrev pub decreases-loop-worker : goal.decreases-loop-worker
decreases-loop-worker l = vec_len l.workers
