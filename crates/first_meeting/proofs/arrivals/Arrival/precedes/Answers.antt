-- it lies no nearer to the line of the edge
use Rattle.first_meeting.proofs.Leading.{no_sooner_behind}
use Rattle.first_meeting.proofs.arrivals.Arrival.precedes.Goals as goal

pub returns-in-Edge : goal.returns-in-Edge
returns-in-Edge c = λ t T V d h.
    no_sooner_behind T V d c.args.vertex c.in-Edge.p c.in-Edge.q c.args.self.now c.in-Edge.is (c.is_no_nearer.ensures.0 t) h
