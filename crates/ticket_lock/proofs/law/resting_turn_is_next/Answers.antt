-- the law of every form, at the laws of the partitioned form
use Rattle.ticket_lock.proofs.FormsKept.{partitioned_laws}
use Rattle.ticket_lock.proofs.Boards.{word_zero}
use Rattle.ticket_lock.specs.Forms.{partitioned_form}
use Rattle.ticket_lock.proofs.law.resting_turn_is_next.Goals as goal

pub returns : goal.returns
returns g c = let t = g.B.Chronicle in word_zero t partitioned_form partitioned_laws
