-- the farthest point to the left lies no farther than the point
use Rattle.std.proofs.Common.{subst}
use Rattle.lattice.specs.Places.{IsFarthest}
use Rattle.lattice.specs.Plane.{Pair}
use Rattle.first_meeting.proofs.Leading.{leftmost_by}
use Rattle.first_meeting.proofs.meeting.is_leftmost.Goals as goal

pub returns-in-Some-extreme : goal.returns-in-Some-extreme
returns-in-Some-extreme c = λ S o t.
    leftmost_by S c.args.p c.args.q c.in-Some-extreme.farthest c.args.point
    (subst (λ (d : Pair). IsFarthest S d c.in-Some-extreme.farthest) c.in-Some.ensures (c.in-Some-extreme.ensures S o).1)
    (c.is_no_nearer.ensures.0 t)
