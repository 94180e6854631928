-- the vertex, the feature that is nearest to it, and that no point of its hull lies farther in that direction
use Rattle.std.proofs.Common.{sym, subst, arith}
use Rattle.lattice.specs.Covers.{IsExtreme}
use Rattle.lattice.specs.Places.{IsFarthest}
use Rattle.lattice.specs.Plane.{Pair}
use Rattle.hull_polygon.proofs.Vertices.{vertex_extreme}
use Rattle.hull_polygon.proofs.polygon.Polygon.closest_there.Goals as goal

pub returns-then-is_farthest_at : goal.returns-then-is_farthest_at
returns-then-is_farthest_at c = λ S o T t. record {
  vertex = subst (IsExtreme S) (sym c.vertex_at-c.ensures)
      (vertex_extreme S c.args.self.now.vertices.now c.args.i o.1 (omega (arith, c.requires.this)));
  nearest = c.in_ok-place.ensures T t;
  closest = subst (λ (d : Pair). IsFarthest S d c.vertex_at-c.result) c.way_to.ensures
      (subst (IsFarthest S c.way_to.result) (sym c.vertex_at-c.ensures) (c.is_farthest_at.ensures S o c.if-is_farthest_at.true));
}
