-- the words all begin at the turn, and the seats are those that were cut off the keeper
use Rattle.std.proofs.Common.{rules, arith}
use Rattle.ticket_lock.specs.Forms.{partitioned_form}
use Rattle.ticket_lock.proofs.FormsKept.{partitioned_laws, partitioned_opened}
use Rattle.ticket_lock.proofs.Beginnings.{begins}
use Rattle.ticket_lock.proofs.lock.TicketLock.open.Goals as goal

pub returns-clause-begins : goal.returns-clause-begins
returns-clause-begins g c =
    begins g.B.Chronicle partitioned_form partitioned_laws c.args.seats c.args.book _ _ _ (omega arith) (omega arith) c.requires.lawful
    (search rules) (partitioned_opened (g.B.Chronicle.turn c.args.book)) (search rules) c.cut.ensures.views
