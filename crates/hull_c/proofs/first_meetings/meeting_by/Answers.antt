-- the answer of the two convex polygons, of which the second moves
use Rattle.std.proofs.Common.{inr, sym, subst}
use Rattle.hull_polygon.specs.Polygons.{IsPolygonOf}
use Rattle.hull_c.proofs.first_meetings.meeting_by.Goals as goal

pub returns : goal.returns
returns c = inr (
  c.first_meeting.result,
  c.encoded.ensures,
  λ S o T t. c.first_meeting.ensures S (subst (IsPolygonOf S) (sym c.of_vertices.ensures) o) T
      (subst (IsPolygonOf T) (sym c.of_vertices-2.ensures) t),
)
