-- each seat is left, or has a player
use Rattle.std.proofs.Common.{◌≡◌, ◌+◌, ◌≤◌, [], All, vec_len, vec_capacity}
use Rattle.ticket_lock.specs.Tokens.{IsSeatOf, seat_seen}
use Rattle.hull_pool.specs.Crews.{book_head}
use Rattle.hull_tree.specs.contracts.tree.HullTreeHullSet.TheImpl.{ghosts}
use Rattle.explorer.specs.Places.{IsPlaced}
use Rattle.explorer.proofs.tests.schedule.assemble.Given as goal

abbrev pub invariant-loop-seat : goal.invariant-loop-seat
invariant-loop-seat g l = record {
  left : All (λ s. IsSeatOf book_head l.lock s × (seat_seen s ≡ [])) l.seats.items;
  placed : All (λ p. IsPlaced l.lock p.number p.ledger ghosts p.seat p.ticket p.guard) l.players.items;
  many : vec_len l.players + vec_len l.seats ≡ vec_len l.fn.seats;
  ledgers : vec_len l.ledgers ≡ vec_len l.seats;
  room : vec_len l.fn.seats ≤ vec_capacity l.players;
  same : (vec_capacity l.seats ≡ vec_capacity l.fn.seats) × (vec_capacity l.ledgers ≡ vec_capacity l.fn.ledgers);
  workers : l.workers ≡ vec_len l.fn.seats;
}

abbrev pub decreases-loop-seat : goal.decreases-loop-seat
decreases-loop-seat g l = vec_len l.seats
