-- a common point, or a separation, which shows that the sets are disjoint
use Rattle.std.proofs.Common.{subst}
use Rattle.hull_polygon.specs.Witnesses.{IsWitness}
use Rattle.hull_polygon.proofs.Witnessed.{separation_apart}
use Rattle.hull_polygon.proofs.meetings.meeting_of.Goals as goal

pub returns-in-Intersects : goal.returns-in-Intersects
returns-in-Intersects c = λ S T h. subst (IsWitness S T) c.in-Intersects.is h

pub returns-in-Disjoint : goal.returns-in-Disjoint
returns-in-Disjoint c = λ S T h. separation_apart S T _ (subst (IsWitness S T) c.in-Disjoint.is h)
