-- the player that made a step has a state again, and the others have theirs
use Rattle.std.proofs.Common.{rules}
use Rattle.std.proofs.lemmas.List.Elements.{All-set}
use Rattle.hull_tree.specs.contracts.tree.HullTreeHullSet.TheImpl.{ghosts}
use Rattle.explorer.specs.declared.tests.player.Player.{Player}
use Rattle.explorer.specs.Places.{IsPlaced}
use Rattle.explorer.proofs.tests.schedule.play.Goals as goal

pub loop-step-preserved : goal.loop-step-preserved
loop-step-preserved g c = record {
  placed = All-set (λ (p : Player). IsPlaced c.args.lock.now p.number p.ledger ghosts p.seat p.ticket p.guard)
      c.loop-step.players.items c.in-Some.place _ c.expected_step.ensures c.loop-step.invariant.placed;
  many = search rules;
}
