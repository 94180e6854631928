-- a fetch-and-add on word 0 by an idle seat is an event take, after which the seat waits with the number found
use Rattle.ticket_lock.specs.Forms.{partitioned_form}
use Rattle.ticket_lock.proofs.FormsKept.{partitioned_laws}
use Rattle.std.proofs.Common.{rules, ap, ◌∙◌}
use Rattle.ticket_lock.proofs.Steps.{takes_ok, took_is}
use Rattle.ticket_lock.proofs.lock.TicketLock.take.Goals as goal

pub fetch_add-taken-requires : goal.fetch_add-taken-requires
fetch_add-taken-requires g c =
    (search rules, search rules, takes_ok _ partitioned_form partitioned_laws _ _ _ _ _ _ (search rules))

pub returns : goal.returns
returns g c =
    let returned = took_is _ _ _ c.requires.own.2.0 (ap (λ m. m.0) c.fetch_add-taken.ensures.2) in record {
      own = (search rules, returned.same.1 ∙ c.requires.own.1);
      seat = (returned.same.0 ∙ c.requires.own.2.1, returned.seen);
      looks = returned.looks;
    }
