-- the ends are the polygon of their set
use Rattle.std.proofs.Common.{sym, ◌∙◌, subst}
use Rattle.hull_polygon.specs.Polygons.{IsPolygonOf}
use Rattle.hull_polygon.specs.Segments.{ends}
use Rattle.hull_polygon.proofs.TwoPoints.{ends_polygon}
use Rattle.hull_polygon.proofs.polygon.Polygon.relation_to_segment.Goals as goal

pub returns : goal.returns
returns c = λ S o.
    let T = ends c.args.a c.args.b in
    c.relation.ensures S o T
    (subst (IsPolygonOf T) (sym (c.segment_of.ensures ∙ c.in_order-points.ensures.same)) (ends_polygon c.args.a c.args.b))
