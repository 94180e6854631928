-- the answer of the convex polygon
use Rattle.std.proofs.Common.{rules, sym, subst}
use Rattle.hull_polygon.specs.Polygons.{IsPolygonOf}
use Rattle.hull_c.proofs.distance_bounds.relation.Goals as goal

pub returns : goal.returns
returns c = (
  c.relation_to_segment-found.result,
  search rules,
  λ S o. c.relation_to_segment-found.ensures S (subst (IsPolygonOf S) (sym c.of_vertices.ensures) o),
)
