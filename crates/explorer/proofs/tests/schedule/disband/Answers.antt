-- the last player's seat and its ledger are put after those of the players after it, and the seat's number was tested
use Rattle.std.proofs.Common.{rules, ◌≡◌, length, arith}
use Rattle.hull_tree.specs.contracts.tree.HullTreeHullSet.TheImpl.{ghosts}
use Rattle.ticket_lock.specs.Tokens.{IsSeatOf, seat_number}
use Rattle.ticket_lock.proofs.Gather.{last_of, front_of, all_push}
use Rattle.hull_pool.specs.Crews.{book_head}
use Rattle.explorer.specs.declared.tests.player.Player.{Player}
use Rattle.explorer.specs.Places.{IsPlaced, IsSeatAt}
use Rattle.hull_pool.proofs.Pushed.{zipped_push, numbered_push}
use Rattle.explorer.proofs.tests.schedule.disband.Goals as goal

pub loop-player-preserved : goal.loop-player-preserved
loop-player-preserved g c =
    let placed : IsPlaced c.args.lock.now c.in-Some.player.number c.in-Some.player.ledger ghosts c.in-Some.player.seat
    c.in-Some.player.ticket c.in-Some.player.guard =
    last_of (λ (p : Player). IsPlaced c.args.lock.now p.number p.ledger ghosts p.seat p.ticket p.guard)
    c.loop-player.players.items c.pop.new.self.items c.in-Some.player c.in-Some.ensures.items
    c.loop-player.invariant.left in
    let seated : IsSeatAt c.args.lock.now c.in-Some.player.number c.in-Some.player.ledger c.in-Some-seat.seat =
    rw c.in-Some-seat.is at placed.seated in
    let place : seat_number c.in-Some-seat.seat ≡ length c.loop-player.seats.items =
    omega (arith, c.loop-player.seats.ok.0) in record {
      left = front_of (λ (p : Player). IsPlaced c.args.lock.now p.number p.ledger ghosts p.seat p.ticket p.guard)
          c.loop-player.players.items c.pop.new.self.items c.in-Some.player
          c.in-Some.ensures.items c.loop-player.invariant.left;
      own = all_push (IsSeatOf book_head c.args.lock.now) _ _ _ c.push_reserved.ensures.items
          c.loop-player.invariant.own seated.own;
      numbered = numbered_push
          (λ s. seat_number s) _ _ _ c.push_reserved.ensures.items c.loop-player.invariant.numbered place;
      ledgers = zipped_push _ _ _ _ _ _ _ c.push_reserved.ensures.items c.push_reserved-in-Some.ensures.items
          c.loop-player.invariant.ledgers (rw seated.number seated.counts);
      many = search rules;
      as_many = search rules;
      room = search rules;
    }
