-- sets with a common point intersect; without one the segment is disjoint from the hull
use Rattle.std.proofs.Common.{arith}
use Rattle.hull_polygon.specs.Meetings.{segment}
use Rattle.hull_polygon.proofs.Encountered.{apart_on_right, apart_on_left}
use Rattle.hull_polygon.proofs.Ends.{no_vertices}
use Rattle.hull_polygon.proofs.Shields.{apart_behind, apart_beyond, apart_empty}
use Rattle.hull_polygon.proofs.Witnessed.{meeting_intersects}
use Rattle.hull_polygon.proofs.polygon.Polygon.intersects_segment.Goals as goal

pub returns-then-is_empty : goal.returns-then-is_empty
returns-then-is_empty c = λ S o.
    apart_empty S (segment c.args.a c.args.b) (no_vertices S c.args.self.now.vertices.now o
    (grind (arith, c.is_empty.ensures, c.if-is_empty.true)))

pub returns-in-Met : goal.returns-in-Met
returns-in-Met c = λ S o. meeting_intersects S (segment c.args.a c.args.b) c.in-Met.field-0 (c.in-Met.ensures S o)

pub returns-in-OnRight : goal.returns-in-OnRight
returns-in-OnRight c = λ S o. apart_on_right S c.args.a c.args.b _ (c.in-OnRight.ensures S o)

pub returns-in-OnLeft : goal.returns-in-OnLeft
returns-in-OnLeft c = λ S o. apart_on_left S c.args.a c.args.b _ (c.in-OnLeft.ensures S o)

pub returns-in-Behind : goal.returns-in-Behind
returns-in-Behind c = λ S o. apart_behind S c.args.a c.args.b o.0 (c.in-Behind.ensures S o)

pub returns-in-Beyond : goal.returns-in-Beyond
returns-in-Beyond c = λ S o. apart_beyond S c.args.a c.args.b o.0 (c.in-Beyond.ensures S o)
