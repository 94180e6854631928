-- the journal holds in a seat's name what the seat has seen in its name, which its tally counts
use Rattle.ticket_lock.specs.Tokens.{seat_number, seat_seen}
use Rattle.ticket_lock.specs.contracts.roll.RollChronicle.TheImpl.{ghosts}
use Rattle.ticket_lock.proofs.Tallies.{tallied}
use Rattle.ticket_lock.proofs.tests.threads.finish.Goals as goal

pub returns : goal.returns
returns c = record {
  counts =
      tallied ghosts c.close.result (λ s. seat_number s) (λ s. seat_seen s) (λ t. t.number)
      (λ t. t.signed) c.args.seats.items c.args.tallies.now c.requires.numbers c.requires.counts c.close.ensures.seen;
}
