-- the seats that are left and the workers that were made are all seats with their answers and ledgers
use Rattle.std.proofs.Common.{◌≡◌, ◌+◌, ◌≤◌, ◌++◌, length, reverse, vec_len, vec_capacity}
use Rattle.hull_pool.specs.Crews.{team, worker_of}
use Rattle.hull_pool.proofs.worker_set.assemble.Given as goal

abbrev pub invariant-loop-seat : goal.invariant-loop-seat
invariant-loop-seat g l = record {
  answers_left : length l.answers.items ≡ length l.seats.items;
  ledgers_left : length l.ledgers.items ≡ length l.seats.items;
  space : vec_len l.worker_set + vec_len l.seats ≤ vec_capacity l.worker_set;
  spaces : (vec_capacity l.seats ≡ vec_capacity l.fn.seats) × (vec_capacity l.answers ≡ vec_capacity l.fn.answers)
      × (vec_capacity l.ledgers ≡ vec_capacity l.fn.ledgers);
  worker_set_is : team worker_of l.seats.items l.answers.items l.ledgers.items ++ reverse l.worker_set.items
      ≡ team worker_of l.fn.seats.items l.fn.answers.items l.fn.ledgers.items;
}

abbrev pub decreases-loop-seat : goal.decreases-loop-seat
decreases-loop-seat g l = vec_len l.seats
