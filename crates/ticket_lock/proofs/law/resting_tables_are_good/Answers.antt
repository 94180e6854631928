-- the law of every form, at the laws of the partitioned form
use Rattle.ticket_lock.proofs.FormsKept.{partitioned_laws}
use Rattle.ticket_lock.proofs.Worlds.{resting}
use Rattle.ticket_lock.specs.Forms.{partitioned_form}
use Rattle.ticket_lock.proofs.law.resting_tables_are_good.Goals as goal

pub returns : goal.returns
returns g c = let t = g.B.Chronicle in resting t partitioned_form partitioned_laws
