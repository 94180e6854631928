-- if there is no common point, the segment's normal separates the two, or a direction that separates the nearer end
use Rattle.hull_polygon.proofs.Encountered.{apart_on_right, apart_on_left}
use Rattle.hull_polygon.proofs.Shields.{apart_behind, apart_beyond}
use Rattle.hull_polygon.proofs.polygon.Polygon.meeting_with_segment.Goals as goal

pub returns-in-OnRight : goal.returns-in-OnRight
returns-in-OnRight c = λ S o. apart_on_right S c.args.a c.args.b _ (c.in-OnRight.ensures S o)

pub returns-in-OnLeft : goal.returns-in-OnLeft
returns-in-OnLeft c = λ S o. apart_on_left S c.args.a c.args.b _ (c.in-OnLeft.ensures S o)

pub returns-in-Behind : goal.returns-in-Behind
returns-in-Behind c = λ S o. apart_behind S c.args.a c.args.b o.0 (c.in-Behind.ensures S o)

pub returns-in-Beyond : goal.returns-in-Beyond
returns-in-Beyond c = λ S o. apart_beyond S c.args.a c.args.b o.0 (c.in-Beyond.ensures S o)
