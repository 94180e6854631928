-- the law of every form
use Rattle.ticket_lock.proofs.Boards.{cuts_come, joins_come, nobody_comes, events_stay, nothing_happens, peeks_change_nothing}
use Rattle.ticket_lock.specs.Forms.{partitioned_form}
use Rattle.ticket_lock.proofs.law.other_steps_are_outside.Goals as goal

pub returns : goal.returns
returns g c = let t = g.B.Chronicle in record {
  before = cuts_come t partitioned_form;
  after = joins_come t partitioned_form;
  nobody = nobody_comes t partitioned_form;
  inside = events_stay t partitioned_form;
  outside = nothing_happens t partitioned_form;
  peeks = peeks_change_nothing t partitioned_form;
}
