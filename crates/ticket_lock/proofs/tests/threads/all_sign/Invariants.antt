-- before each round the workers have their seats, and have signed at most once in each round before
use Rattle.std.proofs.Common.{◌≡◌, ◌≤◌, length, All, vec_len}
use Rattle.std.specs.Prelude.{IfSome, IsSome}
use Rattle.ticket_lock.specs.World.{own}
use Rattle.ticket_lock.specs.Tokens.{IsSeatOf, seat_number, seat_seen}
use Rattle.ticket_lock.specs.contracts.roll.RollChronicle.TheImpl.{ghosts}
use Rattle.ticket_lock.proofs.tests.threads.all_sign.Given as goal

abbrev pub invariant-loop-round : goal.invariant-loop-round
invariant-loop-round g l = record {
  ready : All (λ w. IsSome w.seat × (w.signed ≤ l.round)
      × IfSome w.seat (λ s. IsSeatOf ghosts.head l.lock s × (seat_number s ≡ w.number)
      × (length (own ghosts w.number (seat_seen s)) ≡ w.signed))) l.workers.items;
  many : vec_len l.workers ≡ l.fn.count;
}
