-- each player has a state after every step, and none is lost
use Rattle.std.proofs.Common.{◌≡◌, All, vec_len}
use Rattle.hull_tree.specs.contracts.tree.HullTreeHullSet.TheImpl.{ghosts}
use Rattle.explorer.specs.Places.{IsPlaced}
use Rattle.explorer.proofs.tests.schedule.play.Given as goal

abbrev pub invariant-loop-step : goal.invariant-loop-step
invariant-loop-step g l = record {
  placed : All (λ p. IsPlaced l.lock p.number p.ledger ghosts p.seat p.ticket p.guard) l.players.items;
  many : vec_len l.players ≡ vec_len l.initial.players;
}
