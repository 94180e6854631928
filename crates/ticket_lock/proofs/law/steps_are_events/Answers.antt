-- the law of every form, at the laws of the partitioned form
use Rattle.ticket_lock.proofs.FormsKept.{partitioned_laws}
use Rattle.ticket_lock.proofs.Boards.{takes_are, looks_are, hand_ons_are}
use Rattle.ticket_lock.specs.Forms.{partitioned_form}
use Rattle.ticket_lock.proofs.law.steps_are_events.Goals as goal

pub returns : goal.returns
returns g c = let t = g.B.Chronicle in record {
  takes = takes_are t partitioned_form partitioned_laws;
  looks = looks_are t partitioned_form partitioned_laws;
  hand_ons = hand_ons_are t partitioned_form partitioned_laws;
}
