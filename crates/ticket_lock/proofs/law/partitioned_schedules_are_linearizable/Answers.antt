-- the law of every form, at the laws of the partitioned form
use Rattle.ticket_lock.proofs.FormsKept.{partitioned_laws}
use Rattle.ticket_lock.proofs.Linear.{linearizable}
use Rattle.ticket_lock.specs.Forms.{partitioned_form}
use Rattle.ticket_lock.proofs.law.partitioned_schedules_are_linearizable.Goals as goal

pub returns : goal.returns
returns g c = let t = g.B.Chronicle in linearizable t partitioned_form partitioned_laws
