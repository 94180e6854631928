-- a witness shows a common point, or that there is none
use Rattle.std.proofs.Common.{subst}
use Rattle.hull_polygon.specs.Witnesses.{IsWitness}
use Rattle.hull_polygon.proofs.polygon.Polygon.meeting.Goals as goal

pub returns-in-Some : goal.returns-in-Some
returns-in-Some c = λ S o T t. c.meeting_of.ensures S T (subst (IsWitness S T) c.in-Some.found-is (c.in-Some.ensures S o T t))
