-- along the direction of the motion, or without one
use Rattle.std.proofs.Common.{subst}
use Rattle.lattice.specs.Plane.{Pair}
use Rattle.first_meeting.specs.FirstMeetings.{ReturnsArrival}
use Rattle.first_meeting.proofs.FirstOfBoth.{stays_apart}
use Rattle.first_meeting.proofs.meeting.first_later.Goals as goal

pub returns-in-None : goal.returns-in-None
returns-in-None c = λ S o T q a. stays_apart S T c.args.motion c.in-None.ensures a

pub returns-in-Some-direction_of : goal.returns-in-Some-direction_of
returns-in-Some-direction_of c = λ S o T q a.
    subst (λ (z : Pair). ReturnsArrival S T z c.first_along.result) c.in-Some.ensures (c.first_along.ensures S o T q a)
