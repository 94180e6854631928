-- the last worker's parts go after those of the workers after it
use Rattle.std.proofs.Common.{rules, ◌≡◌, reverse}
use Rattle.std.specs.Prelude.{IsSome, IfSome, Some}
use Rattle.std.proofs.lemmas.List.Elements.{All-pop}
use Rattle.std.proofs.lemmas.Grind.{common_steps}
use Rattle.ticket_lock.specs.Tokens.{seat_number}
use Rattle.hull_pool.specs.Crews.{worker_of}
use Rattle.hull_pool.proofs.Teams.{moved_back, whole_worker}
use Rattle.hull_pool.proofs.worker_set.disband.Goals as goal

pub loop-worker-preserved : goal.loop-worker-preserved
loop-worker-preserved g c =
    let inv = c.loop-worker.invariant in
    let numbered = All-pop (λ w. IfSome w.seat (λ s. seat_number s ≡ w.number)) c.loop-worker.worker_set.items c.pop.new.self.items
    (Some c.in-Some.worker) c.in-Some.ensures.items inv.numbered in record {
      seated = (All-pop (λ w. IsSome w.seat) c.loop-worker.worker_set.items c.pop.new.self.items (Some c.in-Some.worker)
          c.in-Some.ensures.items inv.seated).0;
      numbered = numbered.0;
      same = search (rules, common_steps);
      all = search (rules, common_steps);
      space = search (rules, common_steps);
      team_is = moved_back worker_of c.loop-worker.seats.items c.push_reserved.new.self.items
          c.loop-worker.answers.items c.push_reserved-in-Some.new.self.items c.loop-worker.ledgers.items
          c.push_reserved-in-Some-2.new.self.items c.unwrap.result c.in-Some.worker.answers c.in-Some.worker.ledger
          c.in-Some.worker c.loop-worker.worker_set.items c.pop.new.self.items (reverse c.args.worker_set.now.items)
          c.push_reserved.ensures.items c.push_reserved-in-Some.ensures.items c.push_reserved-in-Some-2.ensures.items
          inv.same.0 inv.same.1 c.in-Some.ensures.items
          (whole_worker c.in-Some.worker c.unwrap.result c.unwrap.ensures numbered.1) inv.team_is;
    }
