-- the empty set is disjoint from each set; sets with a common point intersect
use Rattle.std.proofs.Common.{arith}
use Rattle.hull_polygon.proofs.Ends.{no_vertices}
use Rattle.hull_polygon.proofs.Shields.{apart_empty}
use Rattle.hull_polygon.proofs.Together.{apart_from_none}
use Rattle.hull_polygon.proofs.Witnessed.{meeting_intersects}
use Rattle.hull_polygon.proofs.polygon.Polygon.intersects.Goals as goal

pub returns-then-is_empty : goal.returns-then-is_empty
returns-then-is_empty c = λ S o T t.
    apart_empty S T (no_vertices S c.args.self.now.vertices.now o (grind (arith, c.is_empty.ensures, c.if-is_empty.true)))

pub returns-then-is_empty-2 : goal.returns-then-is_empty-2
returns-then-is_empty-2 c = λ S o T t.
    apart_from_none S T
    (no_vertices T c.args.other.now.vertices.now t (grind (arith, c.is_empty-2.ensures, c.if-is_empty-2.true)))

pub returns-in-Some : goal.returns-in-Some
returns-in-Some c = λ S o T t. meeting_intersects S T c.in-Some.field-0 (c.in-Some.ensures S o T t)
