-- a set without vertices has no points
use Rattle.std.proofs.Common.{arith, inl, inr}
use Rattle.hull_polygon.proofs.Ends.{no_vertices}
use Rattle.hull_polygon.proofs.Witnessed.{meeting_intersects}
use Rattle.hull_polygon.proofs.polygon.Polygon.distance.Goals as goal

pub returns-then-is_empty : goal.returns-then-is_empty
returns-then-is_empty c = λ S o T t.
    inl (no_vertices S c.args.self.now.vertices.now o (grind (arith, c.is_empty.ensures, c.if-is_empty.true)))

pub returns-then-is_empty-2 : goal.returns-then-is_empty-2
returns-then-is_empty-2 c = λ S o T t.
    inr (no_vertices T c.args.other.now.vertices.now t (grind (arith, c.is_empty-2.ensures, c.if-is_empty-2.true)))

pub returns-in-Some-meeting_by_edges : goal.returns-in-Some-meeting_by_edges
returns-in-Some-meeting_by_edges c = λ S o T t. meeting_intersects S T _ (c.in-Some-meeting_by_edges.ensures S o T t)
