-- the last worker's seat and tally have one number and one count
use Rattle.std.proofs.Common.{rules, ◌≡◌, length, ap, ◌∙◌, ℕ, subst}
use Rattle.std.proofs.lemmas.Grind.{common_steps}
use Rattle.ticket_lock.specs.World.{own}
use Rattle.ticket_lock.specs.Tokens.{seat_number, seat_seen, IsSeatOf}
use Rattle.ticket_lock.specs.contracts.roll.RollChronicle.TheImpl.{ghosts}
use Rattle.std.specs.Prelude.{Option, IfSome, IsSome}
use Rattle.ticket_lock.specs.declared.roll.Roll.{Roll}
use Rattle.ticket_lock.specs.declared.roll.Signature.{Signature}
use Rattle.ticket_lock.specs.declared.seat.Seat.{Seat}
use Rattle.ticket_lock.specs.declared.tests.threads.Worker.{Worker}
use Rattle.ticket_lock.proofs.Gather.{last_of, all_push}
use Rattle.ticket_lock.proofs.Tallies.{matched}
use Rattle.ticket_lock.proofs.tests.threads.part.Goals as goal

abbrev Place : Type 0
Place = Seat Roll ℕ Signature

pub loop-worker-preserved : goal.loop-worker-preserved
loop-worker-preserved c =
    let mine : IsSeatOf ghosts.head c.args.lock.now c.unwrap.result
    × (seat_number c.unwrap.result ≡ c.in-Some.worker.number)
    × (length (own ghosts c.in-Some.worker.number (seat_seen c.unwrap.result)) ≡ c.in-Some.worker.signed) =
    subst (λ (o : Option Place). IfSome o
    (λ s. IsSeatOf ghosts.head c.args.lock.now s × (seat_number s ≡ c.in-Some.worker.number)
    × (length (own ghosts c.in-Some.worker.number (seat_seen s)) ≡ c.in-Some.worker.signed))) c.unwrap.ensures
    (last_of (λ (w : Worker). IsSome w.seat
    × IfSome w.seat (λ s. IsSeatOf ghosts.head c.args.lock.now s × (seat_number s ≡ w.number)
    × (length (own ghosts w.number (seat_seen s))
    ≡ w.signed))) c.loop-worker.workers.items c.pop.new.self.items c.in-Some.worker
    c.in-Some.ensures.items c.loop-worker.invariant.ready).1 in record {
      ready = search (rules, common_steps);
      mine = all_push (λ (s : Place). IsSeatOf ghosts.head c.args.lock.now s) _ _ _ c.push_reserved.ensures.items
          c.loop-worker.invariant.mine mine.0;
      numbers = matched (λ s. seat_number s)
          (λ t. t.number) _ _ _ _ _ _ c.push_reserved.ensures.items c.push_reserved-in-Some.ensures.items
          c.loop-worker.invariant.numbers mine.1;
      counts = matched (λ s. length (own ghosts (seat_number s) (seat_seen s)))
          (λ t. t.signed) _ _ _ _ _ _ c.push_reserved.ensures.items c.push_reserved-in-Some.ensures.items
          c.loop-worker.invariant.counts
          (ap (λ z. length (own ghosts z (seat_seen c.unwrap.result))) mine.1 ∙ mine.2);
      many = search rules;
      space = search rules;
    }
