-- the answer of the two convex polygons
use Rattle.std.proofs.Common.{rules, sym, subst}
use Rattle.hull_polygon.specs.Polygons.{IsPolygonOf}
use Rattle.hull_c.proofs.pairs.contains_inside.Goals as goal

pub returns : goal.returns
returns c = (
  c.contains_inside-holds.result,
  search rules,
  λ S o T t. c.contains_inside-holds.ensures S (subst (IsPolygonOf S) (sym c.of_vertices.ensures) o) T
      (subst (IsPolygonOf T) (sym c.of_vertices-2.ensures) t),
)
