-- a load of the serving word is an event enter if it finds the number, which takes the book out of its slot, otherwise a miss
use Rattle.ticket_lock.specs.Forms.{partitioned_form}
use Rattle.ticket_lock.proofs.FormsKept.{partitioned_laws}
use Rattle.std.proofs.Common.{rules, ◌≡◌, ◌∷◌, sym, ap, ◌∙◌, Some}
use Rattle.atomic_table.specs.Table.{rest}
use Rattle.ticket_lock.specs.Standing.{number_of}
use Rattle.ticket_lock.proofs.Steps.{looks_from}
use Rattle.ticket_lock.proofs.lock.TicketLock.look.Goals as goal

pub load-found-requires : goal.load-found-requires
load-found-requires g c = (
  search rules,
  search rules,
  looks_from _ partitioned_form partitioned_laws _ _ _ _ c.args.ticket.number _ _
      c.args.ticket.waiting.0 c.args.ticket.waiting.2,
)

pub exchange-requires : goal.exchange-requires
exchange-requires g c =
    let hit : c.load-found.result ≡ number_of c.args.ticket.place.me.0 = search rules in
    let took = c.load-found.ensures.2.0 hit in
    let carried = ap (λ m. m.1) took.1 in
    (search rules, (Some took.0, carried ∙ ap (λ cs. (0, Some took.0) ∷ rest cs) (sym carried)))
