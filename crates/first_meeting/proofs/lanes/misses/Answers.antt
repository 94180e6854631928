-- the lane that is known
use Rattle.std.proofs.Common.{subst, Option, IfSome}
use Rattle.first_meeting.specs.Lanes.{IsLane}
use Rattle.first_meeting.specs.declared.lanes.Lane.{Lane}
use Rattle.first_meeting.proofs.lanes.misses.Goals as goal

pub returns-in-Some : goal.returns-in-Some
returns-in-Some c = λ t T d h.
    c.misses.ensures t T d (subst (λ (lane : Option Lane). IfSome lane (λ known. IsLane T d known)) c.in-Some.is h)
