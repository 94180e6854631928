-- the segment's normal separates it from a set beside its line, and the direction to the nearer end from any other
use Rattle.std.proofs.Common.{arith, inl, inr}
use Rattle.hull_polygon.proofs.Ends.{no_vertices}
use Rattle.hull_polygon.proofs.Separated.{from_right, from_left, from_start, from_end}
use Rattle.hull_polygon.proofs.Witnessed.{meeting_intersects}
use Rattle.hull_polygon.specs.Meetings.{segment}
use Rattle.hull_polygon.proofs.polygon.Polygon.separation_from_segment.Goals as goal

pub returns-then-is_empty : goal.returns-then-is_empty
returns-then-is_empty c = λ S o. inl (no_vertices S c.args.self.now.vertices.now o
    (grind (arith, c.is_empty.ensures, c.if-is_empty.true)))

pub separation_from-requires-clause-outside : goal.separation_from-requires-clause-outside
separation_from-requires-clause-outside c = λ S o. (c.in-Behind.ensures S o).0

pub separation_from-requires-in-Beyond-clause-outside : goal.separation_from-requires-in-Beyond-clause-outside
separation_from-requires-in-Beyond-clause-outside c = λ S o. (c.in-Beyond.ensures S o).0

pub returns-in-Met : goal.returns-in-Met
returns-in-Met c = λ S o.
    inr (meeting_intersects S (segment c.args.a c.args.b) c.in-Met.field-0 (c.in-Met.ensures S o))

pub returns-in-OnRight : goal.returns-in-OnRight
returns-in-OnRight c = λ S o.
    let h = c.in-OnRight.ensures S o in from_right S c.args.a c.args.b _ _ h.0 h.1 c.left_of.ensures

pub returns-in-OnLeft : goal.returns-in-OnLeft
returns-in-OnLeft c = λ S o.
    let h = c.in-OnLeft.ensures S o in from_left S c.args.a c.args.b _ _ h.0 h.1 c.left_of-in-OnLeft.ensures

pub returns-in-Behind : goal.returns-in-Behind
returns-in-Behind c = λ S o.
    from_start S c.args.a c.args.b _ (c.in-Behind.ensures S o) (c.separation_from.ensures S o)

pub returns-in-Beyond : goal.returns-in-Beyond
returns-in-Beyond c = λ S o.
    from_end S c.args.a c.args.b _ (c.in-Beyond.ensures S o) (c.separation_from-in-Beyond.ensures S o)
