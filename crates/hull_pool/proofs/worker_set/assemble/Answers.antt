-- the last seat, answers and ledger make the next worker
use Rattle.std.proofs.Common.{rules}
use Rattle.std.proofs.lemmas.Grind.{common_steps}
use Rattle.hull_pool.specs.Crews.{worker_of}
use Rattle.hull_pool.proofs.Teams.{moved}
use Rattle.hull_pool.proofs.worker_set.assemble.Goals as goal

pub loop-seat-preserved : goal.loop-seat-preserved
loop-seat-preserved g c =
    let inv = c.loop-seat.invariant in record {
      answers_left = search (rules, common_steps);
      ledgers_left = search (rules, common_steps);
      space = search (rules, common_steps);
      spaces = search (rules, common_steps);
      worker_set_is = rw (c.push_reserved.ensures.items, c.number-number.ensures)
          (moved worker_of c.loop-seat.seats.items c.pop.new.self.items c.loop-seat.answers.items
          c.pop-in-Some-2.new.self.items c.loop-seat.ledgers.items c.pop-in-Some.new.self.items c.in-Some.seat
          c.unwrap-in-Some.result c.unwrap.result c.loop-seat.worker_set.items _ c.in-Some.ensures.items
          (rw c.unwrap-in-Some.ensures at c.pop-in-Some-2.ensures.items)
          (rw c.unwrap.ensures at c.pop-in-Some.ensures.items) inv.answers_left
          inv.ledgers_left inv.worker_set_is);
    }
