-- each player is left, or its seat and its ledger are both at the index of the seat's number
use Rattle.std.proofs.Common.{◌≡◌, ◌+◌, ◌≤◌, All, vec_len, vec_capacity}
use Rattle.std.specs.List.{AllZip}
use Rattle.ticket_lock.specs.Tokens.{IsSeatOf, AreNumbered, seat_number, seat_seen}
use Rattle.hull_book.specs.Ledgers.{IsLedgerOf}
use Rattle.hull_pool.specs.Crews.{book_head}
use Rattle.hull_tree.specs.contracts.tree.HullTreeHullSet.TheImpl.{ghosts}
use Rattle.explorer.specs.Places.{IsPlaced}
use Rattle.explorer.proofs.tests.schedule.disband.Given as goal

abbrev pub invariant-loop-player : goal.invariant-loop-player
invariant-loop-player g l = record {
  left : All (λ p. IsPlaced l.lock p.number p.ledger ghosts p.seat p.ticket p.guard) l.players.items;
  own : All (IsSeatOf book_head l.lock) l.seats.items;
  numbered : AreNumbered l.seats.items;
  ledgers : AllZip (λ s l. IsLedgerOf (seat_number s) (seat_seen s) l) l.seats.items l.ledgers.items;
  many : vec_len l.seats + vec_len l.players ≡ vec_len l.fn.players;
  as_many : vec_len l.ledgers ≡ vec_len l.seats;
  room : (vec_len l.fn.players ≤ vec_capacity l.seats) × (vec_len l.fn.players ≤ vec_capacity l.ledgers);
}

abbrev pub decreases-loop-player : goal.decreases-loop-player
decreases-loop-player g l = vec_len l.players
