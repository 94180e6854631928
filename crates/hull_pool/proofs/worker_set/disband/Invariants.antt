-- the workers that are left and the fields of those already separated are all workers
use Rattle.std.proofs.Common.{◌≡◌, ◌+◌, ◌≤◌, ◌++◌, length, reverse, vec_len, vec_capacity, All}
use Rattle.std.specs.Prelude.{IsSome, IfSome}
use Rattle.ticket_lock.specs.Tokens.{seat_number}
use Rattle.hull_pool.specs.Crews.{team, worker_of}
use Rattle.hull_pool.proofs.worker_set.disband.Given as goal

abbrev pub invariant-loop-worker : goal.invariant-loop-worker
invariant-loop-worker g l = record {
  seated : All (λ w. IsSome w.seat) l.worker_set.items;
  numbered : All (λ w. IfSome w.seat (λ s. seat_number s ≡ w.number)) l.worker_set.items;
  same : (length l.answers.items ≡ length l.seats.items) × (length l.ledgers.items ≡ length l.seats.items);
  all : vec_len l.seats + vec_len l.worker_set ≡ vec_len l.fn.worker_set;
  space : (vec_len l.fn.worker_set ≤ vec_capacity l.seats) × (vec_len l.fn.worker_set ≤ vec_capacity l.answers)
      × (vec_len l.fn.worker_set ≤ vec_capacity l.ledgers);
  team_is : team worker_of l.seats.items l.answers.items l.ledgers.items ++ reverse l.worker_set.items
      ≡ reverse l.fn.worker_set.items;
}

abbrev pub decreases-loop-worker : goal.decreases-loop-worker
decreases-loop-worker g l = vec_len l.worker_set
