-- sets with a common point intersect
use Rattle.hull_polygon.proofs.Witnessed.{meeting_intersects}
use Rattle.hull_polygon.proofs.polygon.Polygon.distance_by_walk.Goals as goal

pub returns-in-Some-meeting_at_first : goal.returns-in-Some-meeting_at_first
returns-in-Some-meeting_at_first c = λ S o T t.
    meeting_intersects S T c.in-Some-meeting_at_first._first (c.in-Some-meeting_at_first.ensures S o T t)

pub returns-in-Some-meeting_of_few : goal.returns-in-Some-meeting_of_few
returns-in-Some-meeting_of_few c = λ S o T t.
    meeting_intersects S T c.in-Some-meeting_of_few._common (c.in-Some-meeting_of_few.ensures S o T t)
